-- `fields::field::has_ten_fields` meets its contract: one full field more each time. Assumes nothing.
use mathlib.Core.Path.{◌≡◌, refl, sym, ap, ◌∙◌}
use Prim.Native.Nat.{ℕ, ◌+◌, ◌-◌}
use native.Mathlib.Omega.{arith}
use Rattle.fields.specs.Bytes.{TAB}
use Rattle.fields.specs.Field.{full?}
use Rattle.fields.proofs.FieldLaws.{until_within, full_zero, full_stop, full_more}
use Rattle.fields.proofs.field.has_ten_fields.Goals as goal

pub loop-init : goal.loop-init
loop-init c = (refl, omega arith)

pub returns-then-end-at : goal.returns-then-end-at
returns-then-end-at c = sym (full_stop (10 - c.loop.counter) c.args.line.now c.loop.at (omega arith) (omega arith)) ∙ c.loop.invariant.0

pub overflow_add-at : goal.overflow_add-at
overflow_add-at c = omega (arith, until_within TAB c.args.line.now c.loop.at)

pub loop-preserved : goal.loop-preserved
loop-preserved c = let l = c.args.line.now in
    let at = c.loop.at in
    let left = 10 - c.loop.counter in
    let e : 10 - (c.loop.counter + 1) ≡ left - 1 = omega arith in
    let more = full_more left l at (omega arith) (omega arith) in (
      ap (λ (k : ℕ). full? k l (c.find-end.result + 1)) e ∙ ap (λ (a : ℕ). full? (left - 1) l (a + 1)) c.find-end.ensures ∙ sym more ∙ c.loop.invariant.0,
      omega (arith, until_within TAB l at),
    )

pub returns : goal.returns
returns c = let e : 10 - c.loop.counter ≡ 0 = omega arith in
    let l = c.args.line.now in
    let at = c.loop.at in
    sym (full_zero l at) ∙ sym (ap (λ (k : ℕ). full? k l at) e) ∙ c.loop.invariant.0
