-- `normal::cut::cut_front` meets its contract. The loop's invariant: below t all have the same base.
-- Assumes nothing.
use Prim.Native.Nat.{ℕ, ◌<◌}
use lib.Dec.{T}
use Rattle.bases.specs.Letter.{bases_of}
use Rattle.bases.specs.Stretch.{stretch}
use Rattle.normal.specs.Cut.{front_alike?}
use Rattle.normal.specs.Spelled.{three}
use Rattle.normal.proofs.cut.cut_front.Given as goal

abbrev pub invariant-loop-t : goal.invariant-loop-t
invariant-loop-t l = (i : ℕ) → i < l.t → T (front_alike? (three l.start (stretch (bases_of l.reference) l.start.0 l.span) (bases_of l.b) (bases_of l.c)) i)
