-- `donors::walk::next_row` meets its contract. The loop's invariant: the next row from `row` on is the next row from `from` on. Assumes
-- nothing.
use mathlib.Core.Path.{◌≡◌, sym, ◌∙◌}
use native.Mathlib.Omega.{arith}
use Rattle.donors.specs.Table.{copy_of}
use Rattle.donors.proofs.NextLaws.{next_here, next_later, next_past}
use Rattle.donors.proofs.walk.next_row.Goals as goal

pub returns-then-takes : goal.returns-then-takes
returns-then-takes c = let a = c.args in
    let here = c.loop-row in
    sym (next_here a.table.now a.choices.now a.first (copy_of a.copy) a.n here.row (omega arith) (rw c.takes.ensures at c.if-takes.true)) ∙ here.invariant.1

pub loop-row-preserved : goal.loop-row-preserved
loop-row-preserved c = let a = c.args in
    let here = c.loop-row in
    (omega arith, sym (next_later a.table.now a.choices.now a.first (copy_of a.copy) a.n here.row (omega arith) (rw c.takes.ensures at c.if-takes.false)) ∙ here.invariant.1)

pub returns : goal.returns
returns c = let a = c.args in
    let here = c.loop-row in
    let e : c.max.result ≡ here.row = omega (arith, c.max.ensures, here.invariant.0) in
    e ∙ sym (next_past a.table.now a.choices.now a.first (copy_of a.copy) a.n here.row (omega arith)) ∙ here.invariant.1
