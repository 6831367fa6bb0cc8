-- `lot_report::run::is_run` meets its contract. The loop's invariant: the line is a run exactly if it is the counts that are left from `at`
-- on. Assumes nothing.
use mathlib.Core.Bool.{true, false}
use mathlib.Core.List.{List}
use mathlib.Core.Path.{◌≡◌, sym, ap, ◌∙◌}
use Prim.Native.Nat.{ℕ, ◌+◌, ◌-◌}
use native.Mathlib.Omega.{arith}
use Rattle.fields.proofs.FieldLaws.{until_within, skip_zero, skip_more}
use Rattle.fields.specs.Bytes.{TAB}
use Rattle.fields.specs.Field.{field_end, field_from}
use Rattle.lot_report.specs.Count.{count?}
use Rattle.lot_report.specs.Run.{counts_of_run, counts?}
use Rattle.lot_report.proofs.RunLaws.{run_named, counts_zero, counts_past, counts_stop, counts_more}
use Rattle.lot_report.proofs.run.is_run.Goals.{then-line-at-via-then-line-at, then-line-at-via-else-line-at+then-not-is_count}
use Rattle.lot_report.proofs.run.is_run.Goals as goal

pub overflow_add-at : goal.overflow_add-at
overflow_add-at c = omega (arith, c.find-name.ensures, until_within TAB c.args.line.now 0)

pub loop-init : goal.loop-init
loop-init c = let l = c.args.line.now in
    let e = c.find-name.ensures in
    (omega (arith, e, until_within TAB l 0), rw e (sym (run_named l (omega (arith, e, c.if-name-eq0.false)))))

pub returns-then-line-at : goal.returns-then-line-at
returns-then-line-at c = let l = c.args.line.now in
    let at = c.loop.at in
    let left = counts_of_run - c.loop.counter in
    let e : counts? left l at ≡ false = elim c.then-line-at.branch [
      | then-line-at-via-then-line-at w ↦ counts_past left l at (omega arith) (omega arith)
      | then-line-at-via-else-line-at+then-not-is_count w ↦
          counts_stop left l at (omega arith) (sym (ap (λ (f : List ℕ). count? f) w.field_from.ensures) ∙ sym w.is_count.ensures ∙ w.if-not-is_count.true)
    ] in
    sym e ∙ c.loop.invariant.1

pub loop-preserved : goal.loop-preserved
loop-preserved c = let l = c.args.line.now in
    let at = c.loop.at in
    let left = counts_of_run - c.loop.counter in
    let e : count? (field_from l at) ≡ true = sym (ap (λ (f : List ℕ). count? f) c.field_from.ensures) ∙ sym c.is_count.ensures ∙ c.if-not-is_count.false in
    let n : c.skip_fields-at.result ≡ field_end l at + 1 = c.skip_fields-at.ensures ∙ skip_more 1 l at (omega arith) ∙ skip_zero l (field_end l at + 1) in
    let less : counts_of_run - (c.loop.counter + 1) ≡ left - 1 = omega arith in
    (omega (arith, n, until_within TAB l at), rw (n, less) (sym (counts_more left l at (omega arith) e) ∙ c.loop.invariant.1))

pub returns : goal.returns
returns c = let l = c.args.line.now in
    let none : counts_of_run - c.loop.counter ≡ 0 = omega arith in
    sym (counts_zero l c.loop.at) ∙ rw none at c.loop.invariant.1
