-- `lot::lot::lot_of_lent` meets its contract. The loop's invariant: the sum is that of the runs so far (`sum_at`, of SumLaws). Assumes
-- nothing.
use Rattle.std.proofs.Common.{◌≡◌}
use Rattle.lot.proofs.SumLaws.{sum_at}
use Rattle.lot.proofs.lot.lot_of_lent.Given as goal

abbrev pub invariant-loop-run : goal.invariant-loop-run
invariant-loop-run l = l.sum ≡ sum_at l.runs l.run-index
