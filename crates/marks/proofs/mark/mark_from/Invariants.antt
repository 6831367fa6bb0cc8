-- `marks::mark::mark_from` meets its contract. The loop's invariant: what is still to be marked gives the whole score and all marks
-- (`Marking`, of EveryLaws). The measure is the number of entries that are left. Assumes nothing.
use lib.ListN.{length}
use Rattle.bases.specs.Letter.{bases_of}
use Rattle.clusters.specs.Heads.{items_from}
use Rattle.marks.proofs.EveryLaws.{Marking}
use Rattle.marks.proofs.mark.mark_from.Given as goal

abbrev pub invariant-loop-heads : goal.invariant-loop-heads
invariant-loop-heads l = Marking (bases_of l.lists.reference.now) l.lists.first.now l.lists.second.now l.initial.marks l.initial.heads l.marks l.heads l.at l.total

abbrev pub decreases-loop-heads : goal.decreases-loop-heads
decreases-loop-heads l = length (items_from l.lists.first.now l.lists.second.now l.heads)
