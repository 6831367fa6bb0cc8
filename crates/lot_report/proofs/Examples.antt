-- What lot_report prints, computed: a lot of two runs, one of them without a decided entry, and one text for each refusal.
-- Assumes nothing.
use mathlib.Core.List.{List, [], ◌∷◌, ◌++◌}
use mathlib.Core.Path.{◌≡◌, refl}
use Prim.Native.Nat.{ℕ}
use Rattle.bases.specs.Same.{agree?}
use Rattle.lines.specs.Lines.{refused_text}
use Rattle.lot.specs.Lot.{lot_of}
use Rattle.lot.specs.Run.{any_large?, total_of}
use Rattle.written.specs.Written.{digits_of}
use Rattle.fields.specs.Bytes.{LF, until}
use Rattle.fields.specs.Field.{skip}
use Rattle.vcf.specs.List.{lines_of}
use Rattle.fields.specs.Pos.{all_digits?, value_from}
use Rattle.lot_report.specs.Report.{runs_report, report_text}
use Rattle.lot_report.specs.Run.{runs_heading, counts?, bad_line}
use Rattle.lot_report.specs.Table.{heading, share_text, line_text, runs_text}

-- Lines below the heading.
abbrev text : List ℕ → List ℕ
text lines = runs_heading ++ (LF ∷ lines)

-- a 2 1 0 2 0 0 and b 0 0 3 0 0 0
abbrev two : List ℕ
two =
    97 ∷ 9 ∷ 50 ∷ 9 ∷ 49 ∷ 9 ∷ 48 ∷ 9 ∷ 50 ∷ 9 ∷ 48 ∷ 9 ∷ 48 ∷ 10 ∷ 98 ∷ 9 ∷ 48 ∷ 9 ∷ 48 ∷ 9 ∷ 51 ∷ 9 ∷ 48 ∷ 9 ∷
    48 ∷ 9 ∷ 48 ∷ 10 ∷ []

-- a 3 2 0 2 2 0 2/3 666666 66.6666 2/2 1000000 100.0000, b 3 0 3 0 0 0 and none six times, lot 6 2 3 2 2 0 and what stands behind a's
abbrev printed : List ℕ
printed =
    97 ∷ 9 ∷ 51 ∷ 9 ∷ 50 ∷ 9 ∷ 48 ∷ 9 ∷ 50 ∷ 9 ∷ 50 ∷ 9 ∷ 48 ∷ 9 ∷ 50 ∷ 47 ∷ 51 ∷ 9 ∷ 54 ∷ 54 ∷ 54 ∷ 54 ∷ 54 ∷
    54 ∷ 9 ∷ 54 ∷ 54 ∷ 46 ∷ 54 ∷ 54 ∷ 54 ∷ 54 ∷ 9 ∷ 50 ∷ 47 ∷ 50 ∷ 9 ∷ 49 ∷ 48 ∷ 48 ∷ 48 ∷ 48 ∷ 48 ∷ 48 ∷ 9 ∷
    49 ∷ 48 ∷ 48 ∷ 46 ∷ 48 ∷ 48 ∷ 48 ∷ 48 ∷ 10 ∷ 98 ∷ 9 ∷ 51 ∷ 9 ∷ 48 ∷ 9 ∷ 51 ∷ 9 ∷ 48 ∷ 9 ∷ 48 ∷ 9 ∷ 48 ∷ 9 ∷
    110 ∷ 111 ∷ 110 ∷ 101 ∷ 9 ∷ 110 ∷ 111 ∷ 110 ∷ 101 ∷ 9 ∷ 110 ∷ 111 ∷ 110 ∷ 101 ∷ 9 ∷ 110 ∷ 111 ∷ 110 ∷ 101 ∷
    9 ∷ 110 ∷ 111 ∷ 110 ∷ 101 ∷ 9 ∷ 110 ∷ 111 ∷ 110 ∷ 101 ∷ 10 ∷ 108 ∷ 111 ∷ 116 ∷ 9 ∷ 54 ∷ 9 ∷ 50 ∷ 9 ∷ 51 ∷
    9 ∷ 50 ∷ 9 ∷ 50 ∷ 9 ∷ 48 ∷ 9 ∷ 50 ∷ 47 ∷ 51 ∷ 9 ∷ 54 ∷ 54 ∷ 54 ∷ 54 ∷ 54 ∷ 54 ∷ 9 ∷ 54 ∷ 54 ∷ 46 ∷ 54 ∷ 54 ∷
    54 ∷ 54 ∷ 9 ∷ 50 ∷ 47 ∷ 50 ∷ 9 ∷ 49 ∷ 48 ∷ 48 ∷ 48 ∷ 48 ∷ 48 ∷ 48 ∷ 9 ∷ 49 ∷ 48 ∷ 48 ∷ 46 ∷ 48 ∷ 48 ∷ 48 ∷
    48 ∷ 10 ∷ []

pub example_lot : report_text (text two) ≡ heading ++ printed
unfolding agree? until lines_of all_digits? value_from skip counts? bad_line digits_of any_large? total_of lot_of share_text line_text runs_text runs_report report_text
example_lot = refl

-- A file that cannot be read.
pub example_empty : report_text [] ≡ refused_text 3 0 0 0
unfolding agree? until lines_of all_digits? value_from skip counts? bad_line digits_of any_large? total_of lot_of share_text line_text runs_text runs_report report_text
example_empty = refl

-- A text without the heading.
pub example_unheaded : report_text two ≡ refused_text 5 0 1 0
unfolding agree? until lines_of all_digits? value_from skip counts? bad_line digits_of any_large? total_of lot_of share_text line_text runs_text runs_report report_text
example_unheaded = refl

-- Line 2 has a leading zero.
pub example_zero : report_text (text (97 ∷ 9 ∷ 49 ∷ 9 ∷ 49 ∷ 9 ∷ 49 ∷ 9 ∷ 49 ∷ 9 ∷ 49 ∷ 9 ∷ 48 ∷ 49 ∷ 10 ∷ [])) ≡ refused_text 6 0 2 0
unfolding agree? until lines_of all_digits? value_from skip counts? bad_line digits_of any_large? total_of lot_of share_text line_text runs_text runs_report report_text
example_zero = refl

-- No run.
pub example_none : report_text (text []) ≡ refused_text 30 0 0 0
unfolding agree? until lines_of all_digits? value_from skip counts? bad_line digits_of any_large? total_of lot_of share_text line_text runs_text runs_report report_text
example_none = refl

-- A count that no number of 32 bits holds.
pub example_large : report_text (text (97 ∷ 9 ∷ 52 ∷ 50 ∷ 57 ∷ 52 ∷ 57 ∷ 54 ∷ 55 ∷ 50 ∷ 57 ∷ 54 ∷ 9 ∷ 48 ∷ 9 ∷ 48 ∷ 9 ∷ 48 ∷ 9 ∷ 48 ∷ 9 ∷ 48 ∷ 10 ∷
    [])) ≡ refused_text 31 0 0 0
unfolding agree? until lines_of all_digits? value_from skip counts? bad_line digits_of any_large? total_of lot_of share_text line_text runs_text runs_report report_text
example_large = refl
