-- Laws of finding a byte, and of the bytes that a list begins with.
--     until_stop, until_more, until_past    from i on: by the byte there, and at the end
--     until_le                              it is found within the list, or is its length
--     until_front                           where it is found, what stands behind does not matter
--     begins_starts                         a list begins with another where the library finds that it starts with it
-- Assumes nothing.
use mathlib.Core.Bool.{Bool, true, false, ◌&&◌}
use mathlib.Core.List.{List, [], ◌∷◌, ◌++◌}
use mathlib.Core.Path.{◌≡◌, refl, ap, ◌∙◌}
use Prim.Native.Nat.{ℕ, suc, ◌+◌, ◌≤◌, ◌<◌}
use native.Mathlib.Numerals.{add-one}
use native.Mathlib.Omega.{arith}
use lib.Dec.{eqb, leb, leb-suc-zero, leb-suc-suc}
use lib.ListN.{length, get_or, take, drop, drop_of_length-le}
use lib.Pointwise.{pointwise}
use lib.Seq.{drop-cons}
use borrow.Author.Tests.{eq-eqb, ne_eqb, le-leb}
use Rattle.bases.specs.Pick.{pick}
use Rattle.bases.specs.Same.{agree?}
use Rattle.fields.specs.Bytes.{until, begins?}

until_at : (x : ℕ) (l : List ℕ) (i : ℕ) → i < length l → until x (drop i l) ≡ pick (eqb (get_or l i 0) x) 0 (suc (until x (drop (i + 1) l)))
unfolding until
until_at x l i h = rw (add-one, drop-cons l i 0)

pub until_stop : (x : ℕ) (l : List ℕ) (i : ℕ) → i < length l → get_or l i 0 ≡ x → until x (drop i l) ≡ 0
until_stop x l i h e = until_at x l i h ∙ rw (eq-eqb _ _ e)

pub until_more : (x : ℕ) (l : List ℕ) (i : ℕ) → i < length l → (get_or l i 0 ≡ x → ⊥) → until x (drop i l) ≡ suc (until x (drop (i + 1) l))
until_more x l i h n = until_at x l i h ∙ rw (ne_eqb _ _ n)

pub until_past : (x : ℕ) (l : List ℕ) (i : ℕ) → length l ≤ i → until x (drop i l) ≡ 0
unfolding until
until_past x l i h = rw (drop_of_length-le l {i = i} h)

pub until_le : (x : ℕ) (l : List ℕ) → until x l ≤ length l
unfolding until
until_le x [] = omega arith
until_le x (b ∷ bs) = go (eqb b x) (until_le x bs)
  where
    go : (t : Bool) → until x bs ≤ length bs → pick t 0 (suc (until x bs)) ≤ suc (length bs)
    go true h = omega arith
    go false h = omega arith

pub until_front : (x : ℕ) (l r : List ℕ) → until x l < length l → until x (l ++ r) ≡ until x l
unfolding until
until_front x [] r h = absurd (omega arith)
until_front x (b ∷ bs) r h = go (eqb b x) (until_front x bs r) h
  where
    go : (t : Bool) → (until x bs < length bs → until x (bs ++ r) ≡ until x bs) → pick t 0 (suc (until x bs)) < suc (length bs)
        → pick t 0 (suc (until x (bs ++ r))) ≡ pick t 0 (suc (until x bs))
    go true f h = refl
    go false f h = ap suc (f (omega arith))

pub begins_starts : (p l : List ℕ) → pointwise eqb p (take (length p) l) ≡ begins? p l
unfolding agree?
begins_starts [] l = rw (le-leb 0 (length l) (omega arith))
begins_starts (a ∷ p) [] = rw (leb-suc-zero (length p))
begins_starts (a ∷ p) (b ∷ l) = rw (leb-suc-suc (length p) (length l)) (go (eqb a b) (leb (length p) (length l)) (begins_starts p l))
  where
    go : (s t : Bool) → pointwise eqb p (take (length p) l) ≡ (t && agree? p l) → (s && pointwise eqb p (take (length p) l)) ≡ (t && (s && agree? p l))
    go true t e = e
    go false true e = refl
    go false false e = refl
