-- `fields::field::skip_fields` meets its contract: one field more is skipped each time. Assumes nothing.
use mathlib.Core.Path.{◌≡◌, sym, ap, ◌∙◌}
use Prim.Native.Nat.{ℕ, ◌+◌, ◌-◌}
use native.Mathlib.Omega.{arith}
use Rattle.fields.specs.Bytes.{TAB}
use Rattle.fields.specs.Field.{skip}
use Rattle.fields.proofs.FieldLaws.{until_within, skip_zero, skip_more}
use Rattle.fields.proofs.field.skip_fields.Goals as goal

pub loop-init : goal.loop-init
loop-init c = let e : c.args.count - 0 ≡ c.args.count = omega arith in
    (ap (λ (k : ℕ). skip k c.args.line.now c.args.from) e, omega arith)

pub overflow_add-at : goal.overflow_add-at
overflow_add-at c = omega (arith, until_within TAB c.args.line.now c.loop.at)

pub loop-preserved : goal.loop-preserved
loop-preserved c = let l = c.args.line.now in
    let at = c.loop.at in
    let left = c.args.count - c.loop.counter in
    let e : c.args.count - (c.loop.counter + 1) ≡ left - 1 = omega arith in
    let more = skip_more left l at (omega arith) in (
      ap (λ (k : ℕ). skip k l (c.find-at.result + 1)) e ∙ ap (λ (a : ℕ). skip (left - 1) l (a + 1)) c.find-at.ensures ∙ sym more ∙ c.loop.invariant.0,
      omega (arith, until_within TAB l at),
    )

pub returns : goal.returns
returns c = let e : c.args.count - c.loop.counter ≡ 0 = omega arith in
    let l = c.args.line.now in
    let at = c.loop.at in
    sym (skip_zero l at) ∙ sym (ap (λ (k : ℕ). skip k l at) e) ∙ c.loop.invariant.0
