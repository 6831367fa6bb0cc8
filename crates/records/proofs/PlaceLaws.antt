-- The place that is told of a record's line.
--     first_within, second_within   where the alleles of ALT begin, on a line of ten fields
--     record_place                  it lies within the line
--     record_place_fits             it is at most 1,024
-- Assumes nothing.
use mathlib.Core.Bool.{Bool, true, false, not}
use mathlib.Core.List.{List, [], ◌∷◌}
use mathlib.Core.Path.{◌≡◌, refl, sym, ap, subst, ◌∙◌}
use Prim.Native.Nat.{ℕ, ◌+◌, ◌≤◌, ◌<◌}
use native.Mathlib.Omega.{arith}
use borrow.Author.Tests.{ltb-false}
use borrow.Author.Rules.{rules}
use lib.Dec.{T, leb, lit<}
use lib.ListN.{length}
use Rattle.bases.specs.declared.place.Pos.{Pos}
use Rattle.bases.proofs.FirstLaws.{first_all}
use Rattle.bases.proofs.TestLaws.{of_true, of_false}
use Rattle.fields.specs.Bytes.{COMMA, hash, begins?}
use Rattle.fields.specs.Field.{field_end, field_at, field, ten_fields?}
use Rattle.fields.proofs.BytesLaws.{until_le}
use Rattle.fields.proofs.FieldLaws.{field_length, skip_zero, skip_more, skip_add, field_within}
use Rattle.records.specs.declared.row.LineFault.{LineFault}
use Rattle.records.specs.Alt.{first_at, second_at}
use Rattle.records.specs.Record.{longest_line, too_long?, most_records, field_rows, record_rows}
use Rattle.records.specs.Row.{Row, no_fault, row, first_row}
use Rattle.records.proofs.RowLaws.{numbered, none_holds, first_row_holds, first_row_keeps}

module _ (l : List ℕ) where
  -- What is told begins within the line.
  abbrev Within : LineFault → Type 0
  Within f = f.at ≤ length l

  module _ (ten : T (ten_fields? l)) where
    pub first_within : first_at l < length l
    first_within = field_within l 4 ten (lit< tt)

    -- ALT ends before the field behind it begins
    pub second_within : second_at l < length l
    second_within =
        let next : field_at 5 l ≡ field_end l (field_at 4 l) + 1 =
        sym (skip_add 4 1 l 0) ∙ skip_more 1 l (field_at 4 l) (lit< tt) ∙ skip_zero l (field_end l (field_at 4 l) + 1) in
        omega (arith, next, field_within l 5 ten (lit< tt), until_le COMMA (field 4 l), field_length l (field_at 4 l))

  module _ (reference name : List ℕ) (records : ℕ) (last : Pos) where
    -- the rows in front of those on the fields
    abbrev front : List Row
    front = row 4 (too_long? l) ∷ row 5 (begins? hash l) ∷ row 15 (leb most_records records) ∷ row 6 (not (ten_fields? l)) ∷ []

    pub record_place : (first_row (record_rows reference name records last l)).at ≤ length l
    record_place = go (ten_fields? l) refl
      where
        go : (t : Bool) → ten_fields? l ≡ t → (first_row (record_rows reference name records last l)).at ≤ length l
        go true e =
            let a = first_within (of_true e) in
            let b = second_within (of_true e) in
            first_all no_fault Within (omega arith) (record_rows reference name records last l) (search rules)
        go false e =
            let some = first_row_keeps front (field_rows reference name last l) (λ z. of_false (ap not (sym e) ∙ (none_holds front (numbered front tt) z).1.1.1.0) tt) in
            subst Within (sym some) (first_all no_fault Within (omega arith) front (search rules))

    -- the rows behind row 4
    abbrev behind : List Row
    behind = row 5 (begins? hash l) ∷ row 15 (leb most_records records) ∷ row 6 (not (ten_fields? l)) ∷ field_rows reference name last l

    pub record_place_fits : (first_row (record_rows reference name records last l)).at ≤ longest_line
    record_place_fits = go (too_long? l) refl
      where
        go : (t : Bool) → too_long? l ≡ t → (first_row (record_rows reference name records last l)).at ≤ longest_line
        go true e = subst (λ (f : LineFault). f.at ≤ longest_line) (sym (first_row_holds (row 4 (too_long? l)) behind e)) (omega arith)
        go false e = omega (arith, record_place, ltb-false longest_line (length l) e)
