-- `matching::fits::end_before` meets its contract. The invariant: of the rows from i on none takes its span. Assumes nothing.
use mathlib.Core.Path.{refl, sym, ◌∙◌}
use Prim.Native.Nat.{◌-◌}
use native.Mathlib.Omega.{arith}
use Rattle.donors.specs.Table.{copy_of}
use Rattle.matching.proofs.FitsLaws.{end_here, end_earlier, end_none}
use Rattle.matching.proofs.fits.end_before.Goals as goal

pub returns-then-takes : goal.returns-then-takes
returns-then-takes c = let a = c.args in
    let l = c.loop-i in
    sym (l.invariant ∙ end_here a.table.now a.choices.now a.first (copy_of a.copy) l.i (l.i - 1) (omega arith) refl (sym c.takes.ensures ∙ c.if-takes.true))

pub loop-i-preserved : goal.loop-i-preserved
loop-i-preserved c = let a = c.args in
    let l = c.loop-i in
    l.invariant ∙ end_earlier a.table.now a.choices.now a.first (copy_of a.copy) l.i (l.i - 1) (omega arith) refl (sym c.takes.ensures ∙ c.if-takes.false)

pub returns : goal.returns
returns c = let a = c.args in
    sym (c.loop-i.invariant ∙ end_none a.table.now a.choices.now a.first (copy_of a.copy) c.loop-i.i (omega arith))
