-- Laws of the numbers that are printed.
--     digits_last                    a number from 10 on, by the digits before its last, and this
--     number_pos                     a POS is written as in a list
--     digits_few, number_few, field_few, fields_few
--                                    the most bytes that they have
-- Assumes nothing.
use mathlib.Core.Bool.{Bool, true, false}
use mathlib.Core.List.{List, [], ◌∷◌, ◌++◌}
use mathlib.Core.Path.{◌≡◌, refl, sym, ap, ◌∙◌}
use Prim.Native.Nat.{ℕ, zero, suc, ◌+◌, ◌/◌, ◌%◌, ◌≤◌, ◌<◌}
use native.Mathlib.Omega.{arith}
use borrow.Author.Tests.{lt-ltb, le-ltb, ltb-true, ltb-false}
use lib.Dec.{ltb}
use lib.ListN.{length, length-append}
use Rattle.bases.specs.Pick.{pick}
use Rattle.written.specs.Written.{digits_of, decimal}
use Rattle.fields.specs.Bytes.{TAB}
use Rattle.fields.specs.Pos.{largest_pos}
use Rattle.lines.specs.Lines.{most_digits, number, field, field_most, fields, fields_most}

digits_more : (k n : ℕ) → n < 10 → digits_of (suc k) n ≡ (48 + n) ∷ []
unfolding digits_of
digits_more k n h = rw (lt-ltb n 10 h)

pub digits_last : (k n : ℕ) → 10 ≤ n → digits_of (suc k) n ≡ digits_of k (n / 10) ++ ((48 + n % 10) ∷ [])
unfolding digits_of
digits_last k n h = rw (le-ltb n 10 h)

-- A number that has at most k digits is written alike where more are allowed.
abbrev Fits : ℕ → ℕ → Type 0
Fits zero n = ⊥
Fits (suc zero) n = n < 10
Fits (suc (suc k)) n = Fits (suc k) (n / 10)

digits_fit : (k n : ℕ) → Fits k n → digits_of (suc k) n ≡ digits_of k n
digits_fit zero n h = absurd h
digits_fit (suc zero) n h = digits_more 1 n h ∙ sym (digits_more 0 n h)
digits_fit (suc (suc k)) n h = go (ltb n 10) refl (digits_fit (suc k) (n / 10) h)
  where
    go : (t : Bool) → ltb n 10 ≡ t → digits_of (suc (suc k)) (n / 10) ≡ digits_of (suc k) (n / 10) → digits_of (suc (suc (suc k))) n ≡ digits_of (suc (suc k)) n
    go true e r = digits_more (suc (suc k)) n (ltb-true n 10 e) ∙ sym (digits_more (suc k) n (ltb-true n 10 e))
    go false e r =
        digits_last (suc (suc k)) n (ltb-false n 10 e)
        ∙ ap (λ (l : List ℕ). l ++ ((48 + n % 10) ∷ [])) r
        ∙ sym (digits_last (suc k) n (ltb-false n 10 e))

pub number_pos : (n : ℕ) → n ≤ largest_pos → number n ≡ decimal n
number_pos n h = digits_fit 6 n (omega arith) ∙ digits_fit 5 n (omega arith)

pub digits_few : (k n : ℕ) → length (digits_of k n) ≤ k
unfolding digits_of
digits_few zero n = omega arith
digits_few (suc k) n = go (ltb n 10) (digits_few k (n / 10))
  where
    go : (t : Bool) → length (digits_of k (n / 10)) ≤ k → length (pick t ((48 + n) ∷ []) (digits_of k (n / 10) ++ ((48 + n % 10) ∷ []))) ≤ suc k
    go true h = omega arith
    go false h = omega (arith, length-append (digits_of k (n / 10)) ((48 + n % 10) ∷ []))

pub number_few : (n : ℕ) → length (number n) ≤ most_digits
number_few n = digits_few most_digits n

pub field_few : (n end : ℕ) → length (field n end) ≤ field_most
field_few n end = omega (arith, length-append (number n) (end ∷ []), number_few n)

pub fields_few : (a b c end : ℕ) → length (fields a b c end) ≤ fields_most
fields_few a b c end =
    omega (
      arith,
      length-append (field a TAB ++ field b TAB) (field c end),
      length-append (field a TAB) (field b TAB),
      field_few a TAB,
      field_few b TAB,
      field_few c end,
    )
