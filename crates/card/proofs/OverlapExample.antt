-- Why demand 2 speaks of entries one by one: a list that matches itself whole as read, and not as written. On GCATATG, POS 2 C to G and
-- POS 4 TAT to T do not overlap; the deletion's normal form is POS 2 CAT to C, and of the two only one may then be chosen. The lists are
-- those of examples/overlap.
-- Assumes nothing.
use mathlib.Core.List.{List, [], ◌∷◌}
use Prim.Native.Nat.{ℕ}
use Rattle.bases.specs.First.{first_told}
use Rattle.bases.specs.Letter.{letter_among, letter_of, all_letters?}
use Rattle.bases.specs.Period.{any_period?}
use Rattle.bases.specs.Same.{agree?}
use Rattle.marks.specs.Marks.{total_score}
use Rattle.clusters.specs.Merged.{weave, merged}
use Rattle.clusters.specs.Plan.{rest, plan, records_from}
use Rattle.donors.specs.Apart.{All, chain?}
use Rattle.donors.specs.Donor.{donor_from}
use Rattle.donors.specs.Rules.{edits}
use Rattle.matching.specs.Best.{score}
use Rattle.matching.specs.BestOf.{every?, allowed?, best_of}
use Rattle.matching.specs.Cut.{join}
use Rattle.matching.specs.Search.{first?, better, best_over, search}
use Rattle.normal.specs.Cut.{run, all?, shortest}
use Rattle.normal.specs.Spelled.{normal_entry}
use Rattle.written.specs.Written.{digits_of, written_line, put_line, written_lines, text_of, written_text}
use Rattle.fields.specs.Bytes.{until}
use Rattle.vcf.specs.Entry.{header_bytes, entries_from}
use Rattle.fields.specs.Field.{full?, skip}
use Rattle.fields.specs.Genotype.{copies_wrong?}
use Rattle.fields.specs.Header.{header_wrong?}
use Rattle.vcf.specs.List.{lines_of, judge_lines, judge_text}
use Rattle.fields.specs.Pos.{all_digits?, is_pos?, value_from}
use Rattle.card.specs.Examples.{text, hom, cluster, Example, normal, marks}
use Rattle.card.proofs.Examples.{Holds, three, six}

-- The list as read, and as it is written.
abbrev read : List ℕ
read = text (hom "2" "C" "G" ∷ hom "4" "TAT" "T" ∷ [])

abbrev written : List ℕ
written = text (hom "2" "C" "G" ∷ hom "2" "CAT" "C" ∷ [])

-- As read all four entries match; as written two do.
abbrev pub overlap : List Example
overlap =
    marks "GCATATG" read read (cluster 0 2 ∷ cluster 2 2 ∷ []) "++++" 4
    ∷ normal "GCATATG" read written
    ∷ marks "GCATATG" written written (cluster 0 4 ∷ []) "+0+0" 2
    ∷ []

pub overlap_holds : All Holds overlap
unfolding letter_among letter_of all_letters? any_period? agree? weave merged rest plan records_from total_score chain? donor_from edits score every? allowed? best_of join first? better best_over search run all?
    shortest normal_entry digits_of written_line put_line written_lines text_of written_text until header_bytes entries_from full? skip copies_wrong? header_wrong? lines_of judge_lines judge_text
    all_digits? is_pos? value_from first_told
overlap_holds = (six, (three, (six, tt)))
