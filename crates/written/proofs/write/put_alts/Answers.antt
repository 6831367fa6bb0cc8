-- `written::write::put_alts` meets its contract: the first ALT is written, and where there are two a comma and the second behind it. Assumes nothing.
use native.Mathlib.Omega.{arith}
use borrow.Author.Tests.{eq-eqb}
use lib.Seq.{append_snoc}
use Rattle.bases.specs.Letter.{bases_of}
use Rattle.bases.proofs.WroteLaws.{wrote_more}
use Rattle.normal.specs.Spelled.{bases_spelled}
use Rattle.written.proofs.write.put_alts.Goals as goal

pub returns-then-alts-eq2 : goal.returns-then-alts-eq2
returns-then-alts-eq2 c = let a = c.args in
    let h = c.requires in
    let x = bases_spelled (bases_of a.reference.now) a.line.now a.normal.start a.normal.first in
    let y = bases_spelled (bases_of a.reference.now) a.line.now a.normal.start a.normal.second in
    let w = wrote_more (omega (arith, h.1)) (wrote_more (omega (arith, h.1)) c.put_spelled.ensures c.byte.ensures) c.put_spelled-then-alts-eq2.ensures in
    rw (eq-eqb a.alts 2 (omega arith), ← append_snoc x 44 y) w
