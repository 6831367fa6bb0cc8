-- What counts prints, computed: document 01's example 9, where one entry matches two; example 12's seven and six, which are undecided; and
-- three files that cannot be read. Assumes nothing.
use mathlib.Core.List.{List, [], ◌∷◌}
use mathlib.Core.Path.{◌≡◌, refl}
use Prim.Native.Nat.{ℕ}
use Prim.Native.String.{String}
use lib.ListN.{replicate}
use Rattle.bases.specs.First.{first_told}
use Rattle.bases.specs.Letter.{letter_among, letter_of, all_letters?}
use Rattle.bases.specs.Period.{any_period?}
use Rattle.bases.specs.Same.{agree?}
use Rattle.card.specs.Examples.{ascii, text, hom, snp}
use Rattle.marks.specs.Counts.{how_many, own_marks}
use Rattle.clusters.specs.Merged.{weave, merged}
use Rattle.clusters.specs.Plan.{rest, plan, records_from}
use Rattle.donors.specs.Apart.{chain?}
use Rattle.donors.specs.Donor.{donor_from}
use Rattle.donors.specs.Items.{over}
use Rattle.donors.specs.Rules.{edits}
use Rattle.files.specs.File.{chrom_name}
use Rattle.matching.specs.Best.{score}
use Rattle.matching.specs.BestOf.{every?, allowed?, best_of}
use Rattle.matching.specs.Cut.{join}
use Rattle.matching.specs.Search.{first?, better, best_over, search}
use Rattle.written.specs.Written.{digits_of}
use Rattle.fields.specs.Bytes.{until}
use Rattle.vcf.specs.Entry.{header_bytes, entries_from}
use Rattle.fields.specs.Field.{skip, full?}
use Rattle.fields.specs.Genotype.{copies_wrong?}
use Rattle.fields.specs.Header.{header_wrong?}
use Rattle.vcf.specs.List.{lines_of, judge_lines, judge_text}
use Rattle.fields.specs.Pos.{all_digits?, value_from, is_pos?}
use Rattle.counts.specs.Counted.{counted_text}

-- What is printed for three files, and what it should be.
abbrev Prints : String → List ℕ → List ℕ → String → Type 0
Prints file first second printed = counted_text (ascii file) chrom_name first second ≡ ascii printed

pub examples :
    Prints "TGCCGT\n" (text (hom "2" "GCCG" "CCGA" ∷ [])) (text (hom "1" "TG" "T" ∷ hom "5" "G" "GA" ∷ [])) "1\t0\t0\t2\t0\t0\n"
    × Prints "GAC\n" (text (replicate 7 snp)) (text (replicate 6 snp)) "0\t0\t7\t0\t0\t6\n"
    × Prints "" [] [] "refused\t1\t0\t0\t0\n"
    × Prints "TGCCGT\n" (text (hom "2" "G" "C,C" ∷ [])) [] "refused\t23\t1\t3\t13\n"
unfolding letter_among letter_of all_letters? any_period? agree? all_digits? value_from is_pos? copies_wrong? skip full? lines_of judge_lines judge_text until header_wrong? first_told header_bytes entries_from
    digits_of chain? edits donor_from over first? better best_over search score join every? allowed? best_of weave merged rest plan records_from how_many own_marks counted_text
examples = (refl, refl, refl, refl)
