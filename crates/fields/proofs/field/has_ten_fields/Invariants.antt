-- `fields::field::has_ten_fields` meets its contract. The loop's invariant: the line is ten full fields exactly if what is left, from `at` on, is as many
-- as are left of ten; and `at` stays within ten of the line's end. Assumes nothing.
use mathlib.Core.Path.{◌≡◌}
use Prim.Native.Nat.{◌+◌, ◌-◌, ◌≤◌}
use lib.ListN.{length}
use Rattle.fields.specs.Field.{full?, ten_fields?}
use Rattle.fields.proofs.field.has_ten_fields.Given as goal

abbrev pub invariant-loop : goal.invariant-loop
invariant-loop l = (full? (10 - l.counter) l.line l.at ≡ ten_fields? l.line) × (l.at + (10 - l.counter) ≤ length l.line + 10)
