-- `fields::pos::read_pos` meets its contract. The loop's invariant: the field's bytes are all digits exactly if those that are left are, these write the
-- field's number behind the value so far, and that value is no larger than the largest POS. Assumes nothing.
use mathlib.Core.Path.{◌≡◌}
use Prim.Native.Nat.{◌≤◌}
use lib.ListN.{drop}
use Rattle.fields.specs.Pos.{all_digits?, value_from, largest_pos}
use Rattle.fields.proofs.pos.read_pos.Given as goal

abbrev pub invariant-loop-byte : goal.invariant-loop-byte
invariant-loop-byte l = (l.value ≤ largest_pos) × (all_digits? (drop l.byte-index l.field) ≡ all_digits? l.field) ×
    (value_from l.value (drop l.byte-index l.field) ≡ value_from 0 l.field)
