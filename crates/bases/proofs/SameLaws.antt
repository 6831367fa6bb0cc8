-- Laws of agreeing and equal lists.
--     agree_nil                           every list agrees with the empty one
--     agree_all, agree_all_bases          as `all` over the two side by side
--     agree_past_second                   two lists, the second from where it has ended
--     agree_iff, same_iff                 what the tests say, place by place and whole
--     same_eq, eq_same                    equal lists are those that `==` finds equal, whichever stands first
--     bases_differ                        bytes that do not spell the same bases have other ones
-- Assumes nothing.
use mathlib.Core.Bool.{true, false, ◌&&◌}
use mathlib.Core.List.{List, [], ◌∷◌}
use mathlib.Core.Logic.{◌↔◌, ◌≢◌}
use mathlib.Core.Path.{◌≡◌, refl, sym, ap}
use Prim.Native.Nat.{ℕ, zero, suc, ◌≤◌, ◌<◌}
use native.Mathlib.Nat.{not-suc-le-zero, le_of_suc-le-suc}
use native.Mathlib.Omega.{arith}
use lib.Dec.{T, eqb, eqb→eq}
use lib.ListN.{length, get_or, drop, drop_of_length-le}
use lib.Pointwise.{pointwise, bytes_decides}
use lib.Seq.{ext_get_or}
use borrow.Author.Tests.{eq-eqb}
use Rattle.std.specs.List.{list_all, zip}
use Rattle.bases.specs.Letter.{letter_of, bases_of}
use Rattle.bases.specs.Same.{agree?, same?, same_bases?}
use Rattle.bases.proofs.TestLaws.{both, of_true, of_false, is_true, one_test}

pub agree_nil : (x : List ℕ) → agree? x [] ≡ true
unfolding agree?
agree_nil [] = refl
agree_nil (a ∷ x) = refl

pub agree_all : (x y : List ℕ) → list_all (λ p. eqb p.0 p.1) (zip x y) ≡ agree? x y
unfolding agree?
agree_all [] y = refl
agree_all (a ∷ x) [] = refl
agree_all (a ∷ x) (b ∷ y) = rw (agree_all x y)

pub agree_all_bases : (x y : List ℕ) → list_all (λ p. eqb (letter_of p.0) (letter_of p.1)) (zip x y) ≡ agree? (bases_of x) (bases_of y)
unfolding agree?
agree_all_bases [] y = refl
agree_all_bases (a ∷ x) [] = refl
agree_all_bases (a ∷ x) (b ∷ y) = rw (agree_all_bases x y)

pub agree_past_second : (x y : List ℕ) (i : ℕ) → length y ≤ i → agree? x (drop i y) ≡ true
agree_past_second x y i h = rw (drop_of_length-le y {i = i} h) (agree_nil x)

pub agree_iff : (x y : List ℕ) → T (agree? x y) ↔ ((i : ℕ) → i < length x → i < length y → get_or x i 0 ≡ get_or y i 0)
unfolding agree?
agree_iff [] y = (λ t i h k. absurd (not-suc-le-zero h), λ f. tt)
agree_iff (a ∷ x) [] = (λ t i h k. absurd (not-suc-le-zero k), λ f. tt)
agree_iff (a ∷ x) (b ∷ y) = (to (agree_iff x y), of (agree_iff x y))
  where
    Same : List ℕ → List ℕ → Type 0
    Same x y = (i : ℕ) → i < length x → i < length y → get_or x i 0 ≡ get_or y i 0

    to : T (agree? x y) ↔ Same x y → T (eqb a b && agree? x y) → Same (a ∷ x) (b ∷ y)
    to r t zero h k = eqb→eq a b ((both (eqb a b) (agree? x y)).0 t).0
    to r t (suc i) h k = r.0 ((both (eqb a b) (agree? x y)).0 t).1 i (le_of_suc-le-suc h) (le_of_suc-le-suc k)

    of : T (agree? x y) ↔ Same x y → Same (a ∷ x) (b ∷ y) → T (eqb a b && agree? x y)
    of r f =
        (both (eqb a b) (agree? x y)).1
        (of_true (eq-eqb a b (f 0 (omega arith) (omega arith))), r.1 (λ i h k. f (suc i) (omega arith) (omega arith)))

pub same_iff : (x y : List ℕ) → T (same? x y) ↔ (x ≡ y)
same_iff x y = (to, of)
  where
    to : T (same? x y) → x ≡ y
    to t =
        let s = (both (eqb (length x) (length y)) (agree? x y)).0 t in
        let l : length x ≡ length y = eqb→eq (length x) (length y) s.0 in
        ext_get_or 0 x y l (λ i h. (agree_iff x y).0 s.1 i h (omega arith))

    of : x ≡ y → T (same? x y)
    of e =
        (both (eqb (length x) (length y)) (agree? x y)).1
        (of_true (eq-eqb _ _ (ap length e)), (agree_iff x y).1 (λ i h k. ap (λ (z : List ℕ). get_or z i 0) e))

-- the library's equality of two lists
pub same_eq : (x y : List ℕ) → pointwise eqb x y ≡ same? x y
same_eq x y = one_test _ _ (
  λ t. (same_iff x y).1 ((bytes_decides x y).0 (is_true _ t)),
  λ t. of_true ((bytes_decides x y).1 ((same_iff x y).0 t)),
)

-- the same, with the two told the other way round
pub eq_same : (x y : List ℕ) → pointwise eqb y x ≡ same? x y
eq_same x y = one_test _ _ (
  λ t. (same_iff x y).1 (sym ((bytes_decides y x).0 (is_true _ t))),
  λ t. of_true ((bytes_decides y x).1 (sym ((same_iff x y).0 t))),
)

pub bases_differ : (a b : List ℕ) → same_bases? a b ≡ false → bases_of a ≢ bases_of b
bases_differ a b s e = of_false s ((same_iff (bases_of a) (bases_of b)).1 e)
