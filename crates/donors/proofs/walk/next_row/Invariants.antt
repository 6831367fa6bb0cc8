-- `donors::walk::next_row` meets its contract. The loop's invariant: the next row from `row` on is the next row from `from` on. Assumes
-- nothing.
use mathlib.Core.Path.{◌≡◌}
use Prim.Native.Nat.{◌-◌, ◌≤◌, max}
use Rattle.donors.specs.Table.{copy_of}
use Rattle.donors.specs.Walk.{next_row}
use Rattle.donors.proofs.walk.next_row.Given as goal

abbrev pub invariant-loop-row : goal.invariant-loop-row
invariant-loop-row l = (l.row ≤ max l.from l.n) × (next_row l.table l.choices l.first (copy_of l.copy) l.row (l.n - l.row) ≡ next_row l.table l.choices l.first (copy_of l.copy) l.from (l.n - l.from))
