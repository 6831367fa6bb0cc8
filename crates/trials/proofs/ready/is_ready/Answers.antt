-- `trials::ready::is_ready` meets its contract. The loop's invariant: the first `i` rows are sound. Assumes nothing.
use mathlib.Core.Path.{◌≡◌, sym, ◌∙◌}
use native.Mathlib.Omega.{arith}
use borrow.Author.Tests.{le-leb, lt-leb}
use Rattle.donors.specs.Table.{most}
use Rattle.trials.proofs.ReadyLaws.{rows_none, rows_more, rows_other}
use Rattle.trials.proofs.ready.is_ready.Goals as goal

pub returns-then-n-gt-MOST : goal.returns-then-n-gt-MOST
returns-then-n-gt-MOST c = rw (lt-leb _ _ c.if-n-gt-MOST.true)

pub loop-i-init : goal.loop-i-init
loop-i-init c = rows_none _ _ _ _

pub returns-then-not-is_sound_row : goal.returns-then-not-is_sound_row
returns-then-not-is_sound_row c = let here = c in
    let n = here.args.n in
    rw (le-leb n most (omega arith), rows_other _ _ _ _ n here.loop-i.i (omega arith) (sym c.is_sound_row.ensures ∙ c.if-not-is_sound_row.true))

pub loop-i-preserved : goal.loop-i-preserved
loop-i-preserved c = let here = c in
    rows_more _ _ _ _ _ here.loop-i.invariant (sym c.is_sound_row.ensures ∙ c.if-not-is_sound_row.false)

pub returns : goal.returns
returns c = let here = c in
    let a = here.args in
    let e : a.n ≡ here.loop-i.i = omega arith in
    rw (le-leb a.n most (omega arith), e, here.loop-i.invariant)
