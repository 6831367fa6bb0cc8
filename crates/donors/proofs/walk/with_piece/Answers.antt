-- `donors::walk::with_piece` meets its contract: one case of the definition a branch. Assumes nothing.
use borrow.Author.Tests.{eq-eqb, ne_eqb}
use Rattle.donors.proofs.walk.with_piece.Goals as goal

pub returns-then-along-eq0 : goal.returns-then-along-eq0
returns-then-along-eq0 c = rw (eq-eqb _ _ c.if-along-eq0.true) c.next_piece.ensures

pub returns : goal.returns
returns c = rw (ne_eqb _ _ c.if-along-eq0.false)
