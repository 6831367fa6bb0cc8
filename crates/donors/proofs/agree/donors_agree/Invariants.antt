-- `donors::agree::donors_agree` meets its contract. The loop's invariant: both walks stand well, and what is left of the two donors is
-- equal exactly if the donors are. The measure is how much is left of the two. Assumes nothing.
use Rattle.bases.specs.Letter.{bases_of}
use Rattle.donors.specs.Table.{copy_of}
use Rattle.donors.proofs.BesideLaws.{Beside, left_long}
use Rattle.donors.proofs.agree.donors_agree.Given as goal

abbrev pub invariant-loop-x : goal.invariant-loop-x
invariant-loop-x l = Beside (bases_of l.case.reference.now) l.case.first.now l.case.second.now l.case.table.now l.choices (copy_of l.copy) l.case.n l.a l.b

abbrev pub decreases-loop-x : goal.decreases-loop-x
decreases-loop-x l = left_long (bases_of l.case.reference.now) l.case.first.now l.case.second.now l.case.table.now l.choices (copy_of l.copy) l.case.n l.a l.b
