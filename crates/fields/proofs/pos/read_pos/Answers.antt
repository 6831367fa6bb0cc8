-- `fields::pos::read_pos` meets its contract: one byte of the field more each time. Assumes nothing.
use mathlib.Core.Bool.{true, false}
use mathlib.Core.Path.{◌≡◌, refl, sym, ◌∙◌}
use Prim.Native.Nat.{◌+◌, ◌*◌, ◌-◌, ◌<◌}
use native.Mathlib.Omega.{arith}
use Rattle.std.proofs.Common.{rules}
use lib.ListN.{length, get_or, drop, get_or-eq_default}
use Rattle.fields.specs.Pos.{digit?}
use Rattle.fields.proofs.PosLaws.{digit_low, digit_high, digits_stop, digits_more, digits_past, value_more, value_past, value_grows, first_byte, pos_other, pos_zero, pos_large, pos_is}
use Rattle.fields.proofs.pos.read_pos.Goals as goal

pub returns-then-is_empty : goal.returns-then-is_empty
returns-then-is_empty c = let f = c.args.field.now in
    sym (pos_zero f (get_or-eq_default f 48 (search rules)))

pub returns-then-field-eq48 : goal.returns-then-field-eq48
returns-then-field-eq48 c = let f = c.args.field.now in
    sym (pos_zero f (first_byte f (search rules) ∙ c.if-field-eq48.true))

pub loop-byte-init : goal.loop-byte-init
loop-byte-init c = (omega arith, refl, refl)

pub returns-then-not-is_digit : goal.returns-then-not-is_digit
returns-then-not-is_digit c = let f = c.args.field.now in
    let i = c.loop-byte.byte-index in
    let e : digit? (get_or f i 0) ≡ false = sym c.is_digit.ensures ∙ c.if-not-is_digit.true in
    sym (pos_other f (cc (digits_stop f i (omega arith) e)))

pub overflow_sub-value : goal.overflow_sub-value
overflow_sub-value c = let f = c.args.field.now in
    let i = c.loop-byte.byte-index in
    digit_low (get_or f i 0) (sym c.is_digit.ensures ∙ c.if-not-is_digit.false)

pub overflow_cast-value : goal.overflow_cast-value
overflow_cast-value c = let f = c.args.field.now in
    let i = c.loop-byte.byte-index in
    omega (arith, digit_high (get_or f i 0) (sym c.is_digit.ensures ∙ c.if-not-is_digit.false))

pub overflow_add-value : goal.overflow_add-value
overflow_add-value c = let f = c.args.field.now in
    let i = c.loop-byte.byte-index in
    omega (arith, digit_high (get_or f i 0) (sym c.is_digit.ensures ∙ c.if-not-is_digit.false))

pub returns-then-value-gt-LARGEST_POS : goal.returns-then-value-gt-LARGEST_POS
returns-then-value-gt-LARGEST_POS c = let f = c.args.field.now in
    let i = c.loop-byte.byte-index in
    let v = c.loop-byte.value in
    sym (pos_large f (omega (arith, value_more v f i (omega arith), value_grows (v * 10 + (get_or f i 0 - 48)) (drop (i + 1) f))))

pub loop-byte-preserved : goal.loop-byte-preserved
loop-byte-preserved c = let f = c.args.field.now in
    let i = c.loop-byte.byte-index in
    let v = c.loop-byte.value in
    let e : digit? (get_or f i 0) ≡ true = sym c.is_digit.ensures ∙ c.if-not-is_digit.false in
    (omega arith, cc (digits_more f i (omega arith) e), cc (value_more v f i (omega arith)))

pub returns : goal.returns
returns c = let f = c.args.field.now in
    let i = c.loop-byte.byte-index in
    let v = c.loop-byte.value in
    let past = value_past v f i (omega arith) in
    let some : 0 < length f = search rules in
    cc (pos_is f (cc (digits_past f i (omega arith))) some c.if-field-eq48.false (omega arith))
