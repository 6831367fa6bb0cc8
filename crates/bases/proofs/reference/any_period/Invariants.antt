-- `bases::reference::any_period` meets its contract. The loop's invariant: there is a period in 1 .. g exactly if there is one
-- in 1 .. q, and the place has a base q behind it, or is 0. Assumes nothing.
use mathlib.Core.Path.{◌≡◌}
use Prim.Native.Nat.{◌+◌, ◌-◌, ◌≤◌}
use lib.ListN.{length}
use Rattle.bases.specs.Letter.{bases_of}
use Rattle.bases.specs.Period.{any_period?}
use Rattle.bases.proofs.reference.any_period.Given as goal

abbrev pub invariant-loop-q : goal.invariant-loop-q
invariant-loop-q l = (l.at ≤ length l.stretch - (l.q + 1)) × (any_period? l.q (bases_of l.stretch) ≡ any_period? l.g (bases_of l.stretch))
