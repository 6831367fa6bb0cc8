-- `trials::ready::is_ready` meets its contract. The loop's invariant: the first `i` rows are sound. Assumes nothing.
use mathlib.Core.Bool.{true}
use mathlib.Core.Path.{◌≡◌}
use Rattle.bases.specs.Letter.{bases_of}
use Rattle.trials.specs.Ready.{sound_rows?}
use Rattle.trials.proofs.ready.is_ready.Given as goal

abbrev pub invariant-loop-i : goal.invariant-loop-i
invariant-loop-i l = sound_rows? (bases_of l.reference) l.first l.second l.table l.i ≡ true
