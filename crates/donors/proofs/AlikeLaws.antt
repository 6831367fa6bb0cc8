-- Laws of two lists that are compared piece by piece.
--     same_pieces     two lists whose first pieces are of one length are equal exactly if those agree and the rests are equal
--     same_rests      what is left of one list from two places on is equal exactly if the places are
--     same_longer     a list that is empty and one that is not are not equal
-- Assumes nothing.
use mathlib.Core.Bool.{Bool, true, false, ◌&&◌}
use mathlib.Core.List.{List, [], ◌∷◌, ◌++◌}
use mathlib.Core.Path.{◌≡◌, refl, sym, ap}
use Prim.Native.Nat.{ℕ, ◌≤◌}
use native.Mathlib.Nat.{suc_inj}
use native.Mathlib.Omega.{arith}
use borrow.Author.Tests.{eq-eqb, ne_eqb}
use lib.Dec.{T, eqb, eqb→eq}
use lib.ListN.{length, drop, length-append, length-drop}
use Rattle.bases.specs.Same.{agree?, same?}
use Rattle.bases.proofs.SameLaws.{same_iff}
use Rattle.bases.proofs.TestLaws.{of_true, one_test}

and_assoc : (p q r : Bool) → (p && q) && r ≡ p && (q && r)
and_assoc true q r = refl
and_assoc false q r = refl

and_turned : (p q r : Bool) → p && (q && r) ≡ q && (p && r)
and_turned true q r = refl
and_turned false true r = refl
and_turned false false r = refl

agree_pieces : (x y u v : List ℕ) → length x ≡ length y → agree? (x ++ u) (y ++ v) ≡ agree? x y && agree? u v
unfolding agree?
agree_pieces [] [] u v l = refl
agree_pieces [] (b ∷ y) u v l = absurd (omega arith)
agree_pieces (a ∷ x) [] u v l = absurd (omega arith)
agree_pieces (a ∷ x) (b ∷ y) u v l = rw (agree_pieces x y u v (suc_inj l)) (sym (and_assoc (eqb a b) (agree? x y) (agree? u v)))

long_pieces : (x y u v : List ℕ) → length x ≡ length y → eqb (length (x ++ u)) (length (y ++ v)) ≡ eqb (length u) (length v)
long_pieces x y u v l =
    let p = length-append x u in
    let q = length-append y v in
    one_test _ _ (
      λ t. let e = eqb→eq (length (x ++ u)) (length (y ++ v)) t in of_true (eq-eqb (length u) (length v) (omega arith)),
      λ t. let e = eqb→eq (length u) (length v) t in of_true (eq-eqb (length (x ++ u)) (length (y ++ v)) (omega arith)),
    )

pub same_pieces : (x y u v : List ℕ) → length x ≡ length y → same? (x ++ u) (y ++ v) ≡ agree? x y && same? u v
same_pieces x y u v l = rw (long_pieces x y u v l, agree_pieces x y u v l) (and_turned (eqb (length u) (length v)) (agree? x y) (agree? u v))

pub same_rests : (R : List ℕ) (x y : ℕ) → x ≤ length R → y ≤ length R → same? (drop x R) (drop y R) ≡ eqb x y
same_rests R x y h k = one_test _ _ (to, of)
  where
    to : T (same? (drop x R) (drop y R)) → T (eqb x y)
    to t =
        let e = ap length ((same_iff (drop x R) (drop y R)).0 t) in
        let p = length-drop x R in
        let q = length-drop y R in
        of_true (eq-eqb x y (omega arith))

    of : T (eqb x y) → T (same? (drop x R) (drop y R))
    of t = (same_iff (drop x R) (drop y R)).1 (ap (λ (n : ℕ). drop n R) (eqb→eq x y t))

pub same_longer : (x y : List ℕ) → (length x ≡ length y → ⊥) → same? x y ≡ false
same_longer x y n = rw (ne_eqb (length x) (length y) n)
