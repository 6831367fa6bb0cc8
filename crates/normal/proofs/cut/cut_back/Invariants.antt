-- `normal::cut::cut_back` meets its contract. The loop's invariant: below q all have the same base.
-- Assumes nothing.
use Prim.Native.Nat.{ℕ, ◌<◌}
use lib.Dec.{T}
use Rattle.bases.specs.Letter.{bases_of}
use Rattle.bases.specs.Stretch.{stretch}
use Rattle.normal.specs.Cut.{back_alike?}
use Rattle.normal.specs.Spelled.{three}
use Rattle.normal.proofs.cut.cut_back.Given as goal

abbrev pub invariant-loop-q : goal.invariant-loop-q
invariant-loop-q l = (i : ℕ) → i < l.q → T (back_alike? (bases_of l.reference) (three l.start (stretch (bases_of l.reference) l.start.0 l.span) (bases_of l.b) (bases_of l.c)) i)
