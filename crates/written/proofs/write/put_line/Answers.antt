-- `written::write::put_line` meets its contract: the line up to its REF is written, and from its REF on behind that. Assumes nothing.
use native.Mathlib.Omega.{arith}
use Rattle.bases.proofs.WroteLaws.{wrote_more}
use Rattle.written.proofs.write.put_line.Goals as goal

pub returns : goal.returns
returns c = wrote_more (omega (arith, c.requires.3)) (rw c.pos_of.ensures at c.put_front.ensures) c.put_back.ensures
