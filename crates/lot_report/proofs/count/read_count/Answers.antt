-- `lot_report::count::read_count` meets its contract. The loop's invariant: the bytes that are left are digits, and the count that they write
-- behind the value so far is the field's. Assumes nothing.
use mathlib.Core.Path.{◌≡◌, refl, sym, ap, ◌∙◌}
use Prim.Native.Nat.{◌+◌, ◌-◌, ◌*◌, min}
use native.Mathlib.Omega.{arith}
use lib.ListN.{get_or, drop}
use Rattle.bases.proofs.TestLaws.{is_true}
use Rattle.fields.proofs.PosLaws.{digit_low, value_more, value_past}
use Rattle.lot_report.specs.Count.{capped, largest_count}
use Rattle.lot_report.proofs.CountLaws.{digits_here, capped_small, capped_full, capped_more}
use Rattle.lot_report.proofs.count.read_count.Goals as goal

pub loop-byte-init : goal.loop-byte-init
loop-byte-init c = (omega arith, is_true _ c.requires, refl)

pub overflow_sub-byte : goal.overflow_sub-byte
overflow_sub-byte c = let f = c.args.field.now in
    let i = c.loop-byte.byte-index in
    digit_low (get_or f i 0) (digits_here f i (omega arith) c.loop-byte.invariant.1).0

pub loop-byte-preserved : goal.loop-byte-preserved
loop-byte-preserved c = let f = c.args.field.now in
    let i = c.loop-byte.byte-index in
    let v = c.loop-byte.value in
    let n = c.saturating_add-value.result in
    let d = get_or f i 0 - 48 in
    let e : n ≡ min (v * 10 + d) largest_count = omega (arith, c.saturating_add-value.ensures, c.saturating_mul.ensures, c.from.ensures) in
    let more = capped_more (v * 10 + d) n (drop (i + 1) f) e ∙ ap capped (sym (value_more v f i (omega arith))) ∙ c.loop-byte.invariant.2 in
    (omega arith, (digits_here f i (omega arith) c.loop-byte.invariant.1).1, more)

pub returns-then-value : goal.returns-then-value
returns-then-value c = let f = c.args.field.now in
    let v = c.loop-byte.value in
    let e : v ≡ largest_count = omega arith in
    e ∙ sym (capped_full v (drop c.loop-byte.byte-index f) (omega arith)) ∙ c.loop-byte.invariant.2

pub returns : goal.returns
returns c = let f = c.args.field.now in
    let i = c.loop-byte.byte-index in
    let v = c.loop-byte.value in
    sym (capped_small v c.loop-byte.invariant.0) ∙ ap capped (sym (value_past v f i (omega arith))) ∙ c.loop-byte.invariant.2
