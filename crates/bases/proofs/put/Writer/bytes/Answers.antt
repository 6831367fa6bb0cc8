-- `bases::put::Writer::bytes` meets its contract: one byte more stands behind those before it. Assumes nothing.
use mathlib.Core.Path.{◌∙◌}
use native.Mathlib.Numerals.{add-one}
use native.Mathlib.Omega.{arith}
use lib.ListN.{length-set}
use lib.Seq.{paste-suc}
use Rattle.bases.proofs.put.Writer.bytes.Goals as goal

pub loop-i-preserved : goal.loop-i-preserved
loop-i-preserved c = let a = c.args in
    let l = c.loop-i in
    let o = a.self.now in
    let h = l.invariant in
    (h.0, h.1, length-set _ _ _ ∙ h.2, cc (h.0, h.3, paste-suc o.room.now o.at a.bytes.now l.i 0 (omega arith) (omega arith), add-one l.i))
