-- Laws of POS.
--     digit_low, digit_high                   where a digit lies
--     digits_stop, digits_more, digits_past   all are digits from i on: by the byte at i, and at the end
--     value_more, value_past                  the number that the bytes from i on write behind v
--     value_grows                             a further digit never makes the number smaller
--     first_byte                              the first byte does not depend on what stands for none
--     pos_other, pos_zero, pos_large, pos_is  the POS of a field: none for a byte that is no digit, a leading zero, or a number too large
-- Assumes nothing.
use mathlib.Core.Bool.{true, false, ◌&&◌, and-false, and-eq-true_iff}
use mathlib.Core.List.{List, [], ◌∷◌}
use mathlib.Core.Path.{◌≡◌, refl, ◌∙◌}
use Prim.Native.Nat.{ℕ, ◌+◌, ◌-◌, ◌*◌, ◌≤◌, ◌<◌}
use native.Mathlib.Numerals.{add-one}
use native.Mathlib.Omega.{arith}
use lib.Dec.{leb}
use lib.ListN.{length, get_or, drop, drop_of_length-le}
use lib.Seq.{drop-cons}
use borrow.Author.Tests.{leb-true, le-leb, lt-leb, ne_eqb}
use Rattle.fields.specs.Pos.{digit?, all_digits?, value_from, largest_pos, is_pos?, no_pos, read_pos}

pub digit_low : (b : ℕ) → digit? b ≡ true → 48 ≤ b
digit_low b e = leb-true 48 b ((and-eq-true_iff (leb 48 b) (leb b 57)).0 e).0

pub digit_high : (b : ℕ) → digit? b ≡ true → b ≤ 57
digit_high b e = leb-true b 57 ((and-eq-true_iff (leb 48 b) (leb b 57)).0 e).1

digits_at : (f : List ℕ) (i : ℕ) → i < length f → all_digits? (drop i f) ≡ digit? (get_or f i 0) && all_digits? (drop (i + 1) f)
unfolding all_digits?
digits_at f i h = rw (add-one, drop-cons f i 0)

pub digits_stop : (f : List ℕ) (i : ℕ) → i < length f → digit? (get_or f i 0) ≡ false → all_digits? (drop i f) ≡ false
digits_stop f i h e = digits_at f i h ∙ rw e

pub digits_more : (f : List ℕ) (i : ℕ) → i < length f → digit? (get_or f i 0) ≡ true → all_digits? (drop i f) ≡ all_digits? (drop (i + 1) f)
digits_more f i h e = digits_at f i h ∙ rw e

pub digits_past : (f : List ℕ) (i : ℕ) → length f ≤ i → all_digits? (drop i f) ≡ true
unfolding all_digits?
digits_past f i h = rw (drop_of_length-le f {i = i} h)

pub value_more : (v : ℕ) (f : List ℕ) (i : ℕ) → i < length f → value_from v (drop i f) ≡ value_from (v * 10 + (get_or f i 0 - 48)) (drop (i + 1) f)
unfolding value_from
value_more v f i h = rw (add-one i, drop-cons f i 0)

pub value_past : (v : ℕ) (f : List ℕ) (i : ℕ) → length f ≤ i → value_from v (drop i f) ≡ v
unfolding value_from
value_past v f i h = rw (drop_of_length-le f {i = i} h)

pub value_grows : (v : ℕ) (ds : List ℕ) → v ≤ value_from v ds
unfolding value_from
value_grows v [] = omega arith
value_grows v (b ∷ bs) = omega (arith, value_grows (v * 10 + (b - 48)) bs)

pub first_byte : (f : List ℕ) → 0 < length f → get_or f 0 48 ≡ get_or f 0 0
first_byte [] h = omega arith
first_byte (b ∷ bs) h = refl

pub pos_other : (f : List ℕ) → all_digits? f ≡ false → read_pos f ≡ no_pos
unfolding is_pos?
pos_other f e = rw e

pub pos_zero : (f : List ℕ) → get_or f 0 48 ≡ 48 → read_pos f ≡ no_pos
unfolding is_pos?
pos_zero f e = rw (e, and-false)

pub pos_large : (f : List ℕ) → largest_pos < value_from 0 f → read_pos f ≡ no_pos
unfolding is_pos?
pos_large f h = rw (lt-leb (value_from 0 f) largest_pos h, and-false, and-false)

pub pos_is : (f : List ℕ) → all_digits? f ≡ true → 0 < length f → (get_or f 0 0 ≡ 48 → ⊥) → value_from 0 f ≤ largest_pos → read_pos f ≡ record { 0 = value_from 0 f }
unfolding is_pos?
pos_is f e l n h = rw (e, first_byte f l, ne_eqb (get_or f 0 0) 48 n, le-leb (value_from 0 f) largest_pos h)
