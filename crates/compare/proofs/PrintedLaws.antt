-- Laws of the lines that compare prints.
--     number_read                    a POS is printed as it was read
--     list_number_few                the number of a list is 1 or 2
--     line_few                       the most bytes that an entry's line has
-- Assumes nothing.
use mathlib.Core.Bool.{Bool, true, false}
use mathlib.Core.List.{List, [], ◌∷◌, ◌++◌}
use mathlib.Core.Path.{◌≡◌, ◌∙◌}
use Prim.Native.Nat.{ℕ, ◌≤◌}
use native.Mathlib.Omega.{arith}
use lib.ListN.{length, length-append}
use Rattle.bases.specs.declared.place.Pos.{Pos}
use Rattle.written.proofs.DecimalLaws.{decimal_read}
use Rattle.fields.specs.Bytes.{LF, TAB}
use Rattle.fields.specs.Pos.{read_pos}
use Rattle.lines.specs.Lines.{number, fields}
use Rattle.lines.proofs.FieldLaws.{number_pos, fields_few}
use Rattle.compare.proofs.ReadLaws.{pos_le}
use Rattle.listed.specs.Listed.{list_number}
use Rattle.compare.specs.Printed.{entry_line, line_most}

pub number_read : (f : List ℕ) → 1 ≤ (read_pos f).0 → number (read_pos f).0 ≡ f
number_read f h = number_pos (read_pos f).0 (pos_le f) ∙ decimal_read f h

pub list_number_few : (side : Bool) → list_number side ≤ 2
list_number_few true = omega arith
list_number_few false = omega arith

pub line_few : (side : Bool) (pos : Pos) (cluster mark : ℕ) → length (entry_line side pos cluster mark) ≤ line_most
line_few side pos cluster mark =
    let s = fields (list_number side) pos.0 cluster TAB in
    omega (arith, length-append (s ++ (mark ∷ [])) (LF ∷ []), length-append s (mark ∷ []), fields_few (list_number side) pos.0 cluster TAB)
