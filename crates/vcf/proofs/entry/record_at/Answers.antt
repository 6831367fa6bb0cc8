-- `vcf::entry::record_at` meets its contract: one line more is skipped each time. Assumes nothing.
use mathlib.Core.Path.{◌≡◌, sym, ap, ◌∙◌}
use Prim.Native.Nat.{ℕ, suc, ◌+◌, ◌-◌}
use native.Mathlib.Omega.{arith}
use Rattle.vcf.specs.Entry.{skip_lines}
use Rattle.vcf.proofs.EntryLaws.{skip_lines_zero, skip_lines_past, skip_lines_more}
use Rattle.vcf.proofs.entry.record_at.Goals as goal

pub loop-init : goal.loop-init
loop-init c = let t = c.args.text.now in
    let e : c.args.i - 0 ≡ c.args.i = omega arith in
    ap (λ (k : ℕ). skip_lines k t c.records_at-at.result) e ∙ ap (skip_lines c.args.i t) c.records_at-at.ensures

pub returns-then-text-at : goal.returns-then-text-at
returns-then-text-at c = sym (skip_lines_past c.args.text.now (c.args.i - c.loop.counter) c.loop.at c.if-text-at.true) ∙ c.loop.invariant

pub loop-preserved : goal.loop-preserved
loop-preserved c = let t = c.args.text.now in
    let at = c.loop.at in
    let left = c.args.i - (c.loop.counter + 1) in
    let e : c.args.i - c.loop.counter ≡ suc left = omega arith in
    let more = skip_lines_more t left at (omega arith) in
    ap (skip_lines left t) c.next_line-at.ensures ∙ sym more ∙ sym (ap (λ (k : ℕ). skip_lines k t at) e) ∙ c.loop.invariant

pub returns : goal.returns
returns c = let t = c.args.text.now in
    let at = c.loop.at in
    let e : c.args.i - c.loop.counter ≡ 0 = omega arith in
    sym (skip_lines_zero t at) ∙ sym (ap (λ (k : ℕ). skip_lines k t at) e) ∙ c.loop.invariant
