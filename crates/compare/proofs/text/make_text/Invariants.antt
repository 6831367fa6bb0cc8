-- `compare::text::make_text` meets its contract. The loop's invariant: behind k clusters, what is left to write are the lines of the
-- others and the total line (`Printing`, of TextLaws). Assumes nothing.
use Rattle.compare.proofs.TextLaws.{Printing}
use Rattle.compare.proofs.text.make_text.Given as goal

abbrev pub invariant-loop-k : goal.invariant-loop-k
invariant-loop-k l = Printing l.first l.second l.marks l.fn.marked l.fn.out l.heads l.i l.k l.out
