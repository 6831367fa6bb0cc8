-- Laws of bytes that a list does not hold.
--     Without                                x stands nowhere in the list
--     without_append, without_parts          of two lists, one behind the other
--     without-take, without_until            of a part in front; of what stands before the first x
--     until_append, until_found              where x is found behind a list without it
--     without_letters, without_digits        letters and digits are no other bytes
--     until_split                            a list, by the first x in it
-- Assumes nothing.
use mathlib.Core.Bool.{Bool, true, false}
use mathlib.Core.List.{List, [], ◌∷◌, ◌++◌}
use mathlib.Core.Path.{◌≡◌, refl, ap, subst, ◌∙◌}
use Prim.Native.Nat.{ℕ, suc, ◌+◌, ◌<◌}
use native.Mathlib.Nat.{zero-add, suc-add, not-suc-le-zero}
use native.Mathlib.Omega.{arith}
use borrow.Author.Tests.{eqb-true, eq-eqb}
use lib.Dec.{T, eqb}
use lib.ListN.{length, take, drop, length-append}
use Rattle.bases.specs.Letter.{is_letter?, all_letters?}
use Rattle.bases.proofs.TestLaws.{both, of_false}
use Rattle.bases.specs.Pick.{pick}
use Rattle.fields.specs.Bytes.{until}
use Rattle.fields.specs.Pos.{digit?, all_digits?}

abbrev pub Without : ℕ → List ℕ → Type 0
Without x f = until x f ≡ length f

module _ (x : ℕ) where
  pub without_cons : (b : ℕ) (bs : List ℕ) → eqb b x ≡ false → Without x bs → Without x (b ∷ bs)
  unfolding until
  without_cons b bs e h = rw (e, h)

  pub without_head : (b : ℕ) (bs : List ℕ) → Without x (b ∷ bs) → (eqb b x ≡ false) × Without x bs
  unfolding until
  without_head b bs h = go (eqb b x) h
    where
      go : (t : Bool) → pick t 0 (suc (until x bs)) ≡ suc (length bs) → (t ≡ false) × Without x bs
      go true e = absurd (omega arith)
      go false e = (refl, omega arith)

  pub until_append : (f g : List ℕ) → Without x f → until x (f ++ g) ≡ length f + until x g
  unfolding until
  until_append [] g h = rw zero-add
  until_append (b ∷ f) g h = let s = without_head b f h in rw (s.0, until_append f g s.1, suc-add)

  pub without_append : (f g : List ℕ) → Without x f → Without x g → Without x (f ++ g)
  without_append f g h k = until_append f g h ∙ omega (arith, length-append f g)

  pub without_parts : (f g : List ℕ) → Without x (f ++ g) → Without x f × Without x g
  unfolding until
  without_parts [] g h = (refl, h)
  without_parts (b ∷ f) g h =
      let s = without_head b (f ++ g) h in
      let r = without_parts f g s.1 in
      (without_cons b f s.0 r.0, r.1)

  pub until_found : (f g : List ℕ) → Without x f → until x (f ++ (x ∷ g)) ≡ length f
  unfolding until
  until_found f g h = until_append f (x ∷ g) h ∙ rw (eq-eqb x x refl) (omega arith)

  pub without_until : (l : List ℕ) → Without x (take (until x l) l)
  unfolding until
  without_until [] = refl
  without_until (b ∷ bs) = go (eqb b x) refl (without_until bs)
    where
      go : (t : Bool) → eqb b x ≡ t → Without x (take (until x bs) bs) → Without x (take (pick t 0 (suc (until x bs))) (b ∷ bs))
      go true e h = refl
      go false e h = without_cons b (take (until x bs) bs) e h

  pub without_letters : (f : List ℕ) → is_letter? x ≡ false → T (all_letters? f) → Without x f
  unfolding all_letters? until
  without_letters [] n t = refl
  without_letters (b ∷ bs) n t = go (eqb b x) refl ((both (is_letter? b) (all_letters? bs)).0 t) (without_letters bs n)
    where
      go : (u : Bool) → eqb b x ≡ u → T (is_letter? b) × T (all_letters? bs) → (T (all_letters? bs) → Without x bs) → Without x (b ∷ bs)
      go true e s r = absurd (of_false n (subst (λ (z : ℕ). T (is_letter? z)) (eqb-true b x e) s.0))
      go false e s r = without_cons b bs e (r s.1)

  pub without_digits : (f : List ℕ) → digit? x ≡ false → T (all_digits? f) → Without x f
  unfolding all_digits? until
  without_digits [] n t = refl
  without_digits (b ∷ bs) n t = go (eqb b x) refl ((both (digit? b) (all_digits? bs)).0 t) (without_digits bs n)
    where
      go : (u : Bool) → eqb b x ≡ u → T (digit? b) × T (all_digits? bs) → (T (all_digits? bs) → Without x bs) → Without x (b ∷ bs)
      go true e s r = absurd (of_false n (subst (λ (z : ℕ). T (digit? z)) (eqb-true b x e) s.0))
      go false e s r = without_cons b bs e (r s.1)

  pub until_split : (l : List ℕ) → until x l < length l → l ≡ take (until x l) l ++ (x ∷ drop (until x l + 1) l)
  unfolding until
  until_split [] h = absurd (not-suc-le-zero h)
  until_split (b ∷ bs) h = go (eqb b x) refl h (until_split bs)
    where
      go : (t : Bool) → eqb b x ≡ t → pick t 0 (suc (until x bs)) < suc (length bs) → (until x bs < length bs → bs ≡ take (until x bs) bs ++ (x ∷ drop (until x bs + 1) bs))
          → b ∷ bs ≡ take (pick t 0 (suc (until x bs))) (b ∷ bs) ++ (x ∷ drop (pick t 0 (suc (until x bs)) + 1) (b ∷ bs))
      go true e h r = ap (λ (z : ℕ). z ∷ bs) (eqb-true b x e)
      go false e h r =
          let n : suc (until x bs) + 1 ≡ suc (until x bs + 1) = omega arith in
          rw n (ap (λ (z : List ℕ). b ∷ z) (r (omega arith)))
