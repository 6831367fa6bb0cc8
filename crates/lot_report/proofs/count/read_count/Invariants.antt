-- `lot_report::count::read_count` meets its contract. The loop's invariant: the bytes that are left are digits, and the count that they write
-- behind the value so far is the field's. Assumes nothing.
use mathlib.Core.Bool.{true}
use mathlib.Core.Path.{◌≡◌}
use lib.ListN.{drop}
use Rattle.fields.specs.Pos.{all_digits?, value_from}
use Rattle.lot_report.specs.Count.{capped, count_of, largest_count}
use Prim.Native.Nat.{◌≤◌}
use Rattle.lot_report.proofs.count.read_count.Given as goal

abbrev pub invariant-loop-byte : goal.invariant-loop-byte
invariant-loop-byte l = (l.value ≤ largest_count) × (all_digits? (drop l.byte-index l.field) ≡ true) × (capped (value_from l.value (drop l.byte-index l.field)) ≡ count_of l.field)
