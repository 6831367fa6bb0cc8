-- `matching::search::sum_weights` meets its contract. The invariant: the sum is that of the first rows, each of which is below 2^32.
-- Assumes nothing.
use mathlib.Core.Path.{◌≡◌}
use Prim.Native.Nat.{◌*◌, ◌≤◌}
use Rattle.matching.specs.Made.{weights_to}
use Rattle.matching.proofs.search.sum_weights.Given as goal

abbrev pub invariant-loop-row : goal.invariant-loop-row
invariant-loop-row l = (l.sum ≡ weights_to l.table l.row-index) × (l.sum ≤ l.row-index * 4294967296)
