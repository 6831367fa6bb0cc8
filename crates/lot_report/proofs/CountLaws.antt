-- Laws of counts.
--     count_none, count_zero, count_led     nothing is no count; a zero is one alone; behind another byte all have to be digits
--     count_digits                          a count is all digits
--     digits_here                           where all bytes from i on are digits, so are the one at i and those behind it
--     capped_small, capped_full             a number no larger than the largest count; digits behind one that is no smaller
--     capped_more                           digits behind a number that is capped
-- Assumes nothing.
use mathlib.Core.Bool.{Bool, true, false, not, ◌&&◌, ◌||◌, and-false, and-true, or-true}
use mathlib.Core.List.{List, [], ◌∷◌}
use mathlib.Core.Path.{◌≡◌, refl, sym, ◌∙◌}
use Prim.Native.Nat.{ℕ, suc, ◌+◌, ◌-◌, ◌≤◌, ◌<◌, min}
use mathlib.Core.Logic.{◌≢◌}
use Rattle.std.proofs.Math.Nat.{min-eq_left, min-eq_right}
use Rattle.std.specs.List.{list_all}
use native.Mathlib.Omega.{arith}
use borrow.Author.Tests.{ne_eqb, leb-true, leb-false, le-leb}
use lib.Dec.{eqb, leb}
use lib.Seq.{length-take-le}
use lib.ListN.{length, get_or, take, drop}
use Rattle.bases.proofs.TestLaws.{of_true, of_false, is_true, both}
use Rattle.fields.proofs.PosLaws.{digits_stop, digits_more, first_byte, value_grows}
use Rattle.fields.specs.Pos.{digit?, all_digits?, value_from}
use Rattle.lot_report.specs.Count.{count?, largest_count, capped}

pub count_none : (f : List ℕ) → length f ≡ 0 → count? f ≡ false
unfolding all_digits?
count_none [] e = refl
count_none (b ∷ bs) e = absurd (omega arith)

-- a zero is a count alone
pub count_zero : (f : List ℕ) → 0 < length f → get_or f 0 0 ≡ 48 → eqb (length (take (length f - 1) (drop 1 f))) 0 ≡ count? f
unfolding all_digits?
count_zero [] l e = absurd (omega arith)
count_zero (b ∷ []) l e = rw e
count_zero (b ∷ d ∷ ds) l e =
    let n = length ds in
    let k = suc (suc n) - 1 in
    let some : eqb (length (take k (d ∷ ds))) 0 ≡ false = ne_eqb (length (take k (d ∷ ds))) 0 (omega (arith, length-take-le k (d ∷ ds) (omega arith))) in
    let none : count? (b ∷ d ∷ ds) ≡ false = rw (e, ne_eqb (suc (suc n)) 1 (omega arith), and-false (digit? d && all_digits? ds)) in
    some ∙ sym none

list_digits : (f : List ℕ) → list_all digit? f ≡ all_digits? f
unfolding all_digits?
list_digits [] = refl
list_digits (b ∷ bs) = rw (list_digits bs)

pub count_led : (f : List ℕ) → 0 < length f → get_or f 0 0 ≢ 48 → list_all digit? f ≡ count? f
count_led f l n = rw (list_digits f, first_byte f l, ne_eqb (get_or f 0 0) 48 n, or-true, and-true)

pub count_digits : (f : List ℕ) → count? f ≡ true → all_digits? f ≡ true
count_digits f e = is_true (all_digits? f) ((both (all_digits? f) (eqb (length f) 1 || not (eqb (get_or f 0 48) 48))).0 (of_true e)).0

pub digits_here : (f : List ℕ) (i : ℕ) → i < length f → all_digits? (drop i f) ≡ true → (digit? (get_or f i 0) ≡ true) × (all_digits? (drop (i + 1) f) ≡ true)
digits_here f i h e = go (digit? (get_or f i 0)) refl
  where
    go : (t : Bool) → digit? (get_or f i 0) ≡ t → (digit? (get_or f i 0) ≡ true) × (all_digits? (drop (i + 1) f) ≡ true)
    go true k = (k, sym (digits_more f i h k) ∙ e)
    go false k = absurd (of_false (sym e ∙ digits_stop f i h k) tt)

pub capped_small : (n : ℕ) → n ≤ largest_count → capped n ≡ n
capped_small n h = rw (le-leb n largest_count h)

-- a number no smaller than the largest count is read as that
capped_top : (n : ℕ) → largest_count ≤ n → capped n ≡ largest_count
capped_top n h = go (leb n largest_count) refl
  where
    go : (t : Bool) → leb n largest_count ≡ t → capped n ≡ largest_count
    go true e = rw e (omega (arith, leb-true n largest_count e))
    go false e = rw e

pub capped_full : (v : ℕ) (ds : List ℕ) → largest_count ≤ v → capped (value_from v ds) ≡ largest_count
capped_full v ds h = capped_top (value_from v ds) (omega (arith, h, value_grows v ds))

pub capped_more : (v n : ℕ) (ds : List ℕ) → n ≡ min v largest_count → capped (value_from n ds) ≡ capped (value_from v ds)
capped_more v n ds e = go (leb v largest_count) refl
  where
    go : (t : Bool) → leb v largest_count ≡ t → capped (value_from n ds) ≡ capped (value_from v ds)
    go true t = rw (e, min-eq_left (leb-true v largest_count t))
    go false t =
        let top : largest_count ≤ v = omega (arith, leb-false v largest_count t) in
        rw (e, min-eq_right top)
        (capped_full largest_count ds (omega arith) ∙ sym (capped_full v ds top))
