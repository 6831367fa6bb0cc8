-- Document 01's examples 1 to 12 and those of request c hold: one statement over the definitions, computed.
-- Assumes nothing.
use mathlib.Core.Bool.{true}
use mathlib.Core.Path.{◌≡◌, refl}
use Rattle.bases.specs.First.{first_told}
use Rattle.bases.specs.Letter.{letter_among, letter_of, all_letters?, bases_of}
use Rattle.bases.specs.Period.{any_period?}
use Rattle.bases.specs.Reference.{is_reference?}
use Rattle.bases.specs.Same.{agree?}
use Rattle.marks.specs.Marks.{clusters_of, all_marks, total_score}
use Rattle.clusters.specs.Merged.{weave, merged}
use Rattle.clusters.specs.Plan.{rest, plan, records_from, plan_of}
use Rattle.donors.specs.Apart.{All, chain?}
use Rattle.donors.specs.Donor.{donor_from}
use Rattle.donors.specs.Rules.{edits}
use Rattle.matching.specs.Best.{score}
use Rattle.matching.specs.BestOf.{every?, allowed?, best_of}
use Rattle.matching.specs.Cut.{join}
use Rattle.matching.specs.Search.{first?, better, best_over, search}
use Rattle.normal.specs.Cut.{run, all?, shortest}
use Rattle.normal.specs.Spelled.{normal_entry}
use Rattle.written.specs.Written.{digits_of, written_line, put_line, written_lines, text_of, written_text}
use Rattle.fields.specs.Bytes.{until}
use Rattle.vcf.specs.Entry.{header_bytes, entries_from}
use Rattle.fields.specs.Field.{full?, skip}
use Rattle.fields.specs.Genotype.{copies_wrong?}
use Rattle.fields.specs.Header.{header_wrong?}
use Rattle.vcf.specs.List.{lines_of, judge_lines, judge_text}
use Rattle.fields.specs.Pos.{all_digits?, is_pos?, value_from}
use Rattle.card.specs.Examples.{ascii, chr1, Example, normal, marks, table}

-- The reference and the texts are accepted, and the definitions give what the example says.
abbrev pub Holds : Example → Type 0
Holds (normal spelt text written) =
    let reference = ascii spelt in
    (is_reference? reference ≡ true) × ((judge_text (bases_of reference) chr1 text).number ≡ 0) × (written_text (bases_of reference) text ≡ written)
Holds (marks spelt first second records bytes total) =
    let reference = ascii spelt in
    (is_reference? reference ≡ true)
    × ((judge_text (bases_of reference) chr1 first).number ≡ 0)
    × ((judge_text (bases_of reference) chr1 second).number ≡ 0)
    × (plan_of (bases_of reference) first second ≡ records)
    × (all_marks (bases_of reference) (clusters_of (bases_of reference) first second) ≡ ascii bytes)
    × (total_score (bases_of reference) (clusters_of (bases_of reference) first second) ≡ total)

-- Three equations that compute, and six.
pub three : {A B C : Type 0} {a : A} {b : B} {c : C} → (a ≡ a) × (b ≡ b) × (c ≡ c)
three = (refl, refl, refl)

pub six : {A B C D E F : Type 0} {a : A} {b : B} {c : C} {d : D} {e : E} {f : F} → (a ≡ a) × (b ≡ b) × (c ≡ c) × (d ≡ d) × (e ≡ e) × (f ≡ f)
six = (refl, refl, refl, refl, refl, refl)

pub examples : All Holds table
unfolding letter_among letter_of all_letters? any_period? agree? weave merged rest plan records_from total_score chain? donor_from edits score every? allowed? best_of join first? better best_over search run all?
    shortest normal_entry digits_of written_line put_line written_lines text_of written_text until header_bytes entries_from full? skip copies_wrong? header_wrong? lines_of judge_lines judge_text
    all_digits? is_pos? value_from first_told
examples = (six, (three, (three, (three, (three, (six, (six, (six, (six, (six, (six, (six, (six, (six, (six, (six, (six, tt)))))))))))))))))
