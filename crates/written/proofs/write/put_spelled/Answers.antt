-- `written::write::put_spelled` meets its contract: the bases of the reference are written, and the allele's own behind them. Assumes nothing.
use mathlib.Core.Path.{◌≡◌}
use Prim.Native.Nat.{◌+◌, ◌-◌}
use native.Mathlib.Omega.{arith}
use Rattle.bases.proofs.WroteLaws.{wrote_more}
use Rattle.written.proofs.write.put_spelled.Goals as goal

pub returns : goal.returns
returns c = let a = c.args in
    let o = a.allele.own in
    let f : o.at + o.len - o.at ≡ o.len = omega arith in
    wrote_more (omega (arith, c.requires.1)) c.put_stretch.ensures (rw f at c.bases.ensures)
