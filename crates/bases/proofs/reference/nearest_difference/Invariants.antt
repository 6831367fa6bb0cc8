-- `bases::reference::nearest_difference` meets its contract. The loop's invariant: the place is found from `above` up and below `below` down.
-- Assumes nothing.
use mathlib.Core.Path.{◌≡◌}
use Prim.Native.Nat.{◌-◌}
use Rattle.bases.specs.Letter.{bases_of}
use Rattle.bases.specs.Nearest.{nearest, nearest_to}
use Rattle.bases.proofs.reference.nearest_difference.Given as goal

abbrev pub invariant-loop-below : goal.invariant-loop-below
invariant-loop-below l = nearest l.q (bases_of l.stretch) l.above (l.n - l.above) l.below ≡ nearest_to l.at l.q (bases_of l.stretch)
