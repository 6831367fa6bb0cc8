-- `compare::text::put_cluster` meets its contract. The loop's invariant: behind k entries, what is left to write are the lines of the
-- others (`Putting`, of LinesLaws). Assumes nothing.
use Rattle.compare.proofs.LinesLaws.{Putting}
use Rattle.compare.proofs.text.put_cluster.Given as goal

abbrev pub invariant-loop-mark : goal.invariant-loop-mark
invariant-loop-mark l = Putting l.first l.second l.marks l.cluster l.initial.head l.initial.out l.head l.mark-index l.out
