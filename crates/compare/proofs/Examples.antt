-- What compare prints, computed: document 01's example 1, whole, and the text for three files that cannot be read.
-- Assumes nothing.
use mathlib.Core.List.{List, [], ◌∷◌}
use mathlib.Core.Path.{◌≡◌, refl}
use Prim.Native.Nat.{ℕ}
use Rattle.bases.specs.First.{first_told}
use Rattle.marks.specs.Counts.{how_many, own_marks}
use Rattle.compare.specs.Compared.{compared_text}
use Rattle.bases.specs.Letter.{letter_among, letter_of, all_letters?}
use Rattle.bases.specs.Period.{any_period?}
use Rattle.bases.specs.Same.{agree?}
use Rattle.marks.specs.Marks.{total_score}
use Rattle.clusters.specs.Merged.{weave, merged}
use Rattle.clusters.specs.Plan.{rest, plan, records_from}
use Rattle.donors.specs.Apart.{chain?}
use Rattle.donors.specs.Donor.{donor_from}
use Rattle.donors.specs.Items.{over}
use Rattle.donors.specs.Rules.{edits}
use Rattle.files.specs.File.{chrom_name}
use Rattle.matching.specs.Best.{score}
use Rattle.matching.specs.BestOf.{every?, allowed?, best_of}
use Rattle.matching.specs.Cut.{join}
use Rattle.matching.specs.Search.{first?, better, best_over, search}
use Rattle.written.specs.Written.{digits_of}
use Rattle.fields.specs.Bytes.{until}
use Rattle.vcf.specs.Entry.{header_bytes, entries_from}
use Rattle.fields.specs.Field.{skip, full?}
use Rattle.fields.specs.Genotype.{copies_wrong?}
use Rattle.fields.specs.Header.{header_wrong?}
use Rattle.vcf.specs.List.{lines_of, judge_lines, judge_text}
use Rattle.fields.specs.Pos.{all_digits?, value_from, is_pos?}
use Rattle.listed.specs.Listed.{numbers_from}
use Rattle.compare.specs.Printed.{entry_lines}

-- GCATATG
abbrev reference : List ℕ
reference =
    71 ∷ 67 ∷ 65 ∷ 84 ∷ 65 ∷ 84 ∷ 71 ∷ 10 ∷ []

-- its one record: chr1 2 . CAT C . PASS . GT 1/1
abbrev first : List ℕ
first =
    35 ∷ 35 ∷ 102 ∷ 105 ∷ 108 ∷ 101 ∷ 102 ∷ 111 ∷ 114 ∷ 109 ∷ 97 ∷ 116 ∷ 61 ∷ 86 ∷ 67 ∷ 70 ∷ 118 ∷ 52 ∷ 46 ∷ 50 ∷
    10 ∷ 35 ∷ 67 ∷ 72 ∷ 82 ∷ 79 ∷ 77 ∷ 9 ∷ 80 ∷ 79 ∷ 83 ∷ 9 ∷ 73 ∷ 68 ∷ 9 ∷ 82 ∷ 69 ∷ 70 ∷ 9 ∷ 65 ∷ 76 ∷ 84 ∷ 9 ∷
    81 ∷ 85 ∷ 65 ∷ 76 ∷ 9 ∷ 70 ∷ 73 ∷ 76 ∷ 84 ∷ 69 ∷ 82 ∷ 9 ∷ 73 ∷ 78 ∷ 70 ∷ 79 ∷ 9 ∷ 70 ∷ 79 ∷ 82 ∷ 77 ∷ 65 ∷ 84
    ∷ 9 ∷ 115 ∷ 97 ∷ 109 ∷ 112 ∷ 108 ∷ 101 ∷ 10 ∷ 99 ∷ 104 ∷ 114 ∷ 49 ∷ 9 ∷ 50 ∷ 9 ∷ 46 ∷ 9 ∷ 67 ∷ 65 ∷ 84 ∷ 9 ∷
    67 ∷ 9 ∷ 46 ∷ 9 ∷ 80 ∷ 65 ∷ 83 ∷ 83 ∷ 9 ∷ 46 ∷ 9 ∷ 71 ∷ 84 ∷ 9 ∷ 49 ∷ 47 ∷ 49 ∷ 10 ∷ []

-- its one record: chr1 4 . TAT T . PASS . GT 1/1
abbrev second : List ℕ
second =
    35 ∷ 35 ∷ 102 ∷ 105 ∷ 108 ∷ 101 ∷ 102 ∷ 111 ∷ 114 ∷ 109 ∷ 97 ∷ 116 ∷ 61 ∷ 86 ∷ 67 ∷ 70 ∷ 118 ∷ 52 ∷ 46 ∷ 50 ∷
    10 ∷ 35 ∷ 67 ∷ 72 ∷ 82 ∷ 79 ∷ 77 ∷ 9 ∷ 80 ∷ 79 ∷ 83 ∷ 9 ∷ 73 ∷ 68 ∷ 9 ∷ 82 ∷ 69 ∷ 70 ∷ 9 ∷ 65 ∷ 76 ∷ 84 ∷ 9 ∷
    81 ∷ 85 ∷ 65 ∷ 76 ∷ 9 ∷ 70 ∷ 73 ∷ 76 ∷ 84 ∷ 69 ∷ 82 ∷ 9 ∷ 73 ∷ 78 ∷ 70 ∷ 79 ∷ 9 ∷ 70 ∷ 79 ∷ 82 ∷ 77 ∷ 65 ∷ 84
    ∷ 9 ∷ 115 ∷ 97 ∷ 109 ∷ 112 ∷ 108 ∷ 101 ∷ 10 ∷ 99 ∷ 104 ∷ 114 ∷ 49 ∷ 9 ∷ 52 ∷ 9 ∷ 46 ∷ 9 ∷ 84 ∷ 65 ∷ 84 ∷ 9 ∷
    84 ∷ 9 ∷ 46 ∷ 9 ∷ 80 ∷ 65 ∷ 83 ∷ 83 ∷ 9 ∷ 46 ∷ 9 ∷ 71 ∷ 84 ∷ 9 ∷ 49 ∷ 47 ∷ 49 ∷ 10 ∷ []

-- list POS cluster mark, 1 2 0 +, 2 4 0 +, total 2 0 0 2
abbrev printed : List ℕ
printed =
    108 ∷ 105 ∷ 115 ∷ 116 ∷ 9 ∷ 80 ∷ 79 ∷ 83 ∷ 9 ∷ 99 ∷ 108 ∷ 117 ∷ 115 ∷ 116 ∷ 101 ∷ 114 ∷ 9 ∷ 109 ∷ 97 ∷ 114 ∷
    107 ∷ 10 ∷ 49 ∷ 9 ∷ 50 ∷ 9 ∷ 48 ∷ 9 ∷ 43 ∷ 10 ∷ 50 ∷ 9 ∷ 52 ∷ 9 ∷ 48 ∷ 9 ∷ 43 ∷ 10 ∷ 116 ∷ 111 ∷ 116 ∷ 97 ∷
    108 ∷ 9 ∷ 50 ∷ 9 ∷ 48 ∷ 9 ∷ 48 ∷ 9 ∷ 50 ∷ 10 ∷ []

pub example_1 : compared_text reference chrom_name first second ≡ printed
unfolding letter_among letter_of all_letters? any_period? agree? all_digits? value_from is_pos? copies_wrong? skip full? lines_of judge_lines judge_text until header_wrong? first_told header_bytes entries_from
    digits_of chain? edits donor_from over first? better best_over search score join every? allowed? best_of total_score weave merged rest plan records_from how_many own_marks numbers_from
    entry_lines compared_text
example_1 = refl

-- refused 1 0 0 0
pub example_empty : compared_text [] chrom_name [] [] ≡ 114 ∷ 101 ∷ 102 ∷ 117 ∷ 115 ∷ 101 ∷ 100 ∷ 9 ∷ 49 ∷ 9 ∷ 48 ∷ 9 ∷ 48 ∷ 9 ∷ 48 ∷ 10 ∷ []
unfolding letter_among letter_of all_letters? any_period? agree? all_digits? value_from is_pos? copies_wrong? skip full? lines_of judge_lines judge_text until header_wrong? first_told header_bytes entries_from
    digits_of chain? edits donor_from over first? better best_over search score join every? allowed? best_of total_score weave merged rest plan records_from how_many own_marks numbers_from
    entry_lines compared_text
example_empty = refl
