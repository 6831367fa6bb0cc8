-- Laws of legal strings, as they are tested.
--     every_iff                 a test of each, over a list of all
--     allowed_iff, apart_iff    what the tests of the choices made so far say
--     donors_iff, legal_iff     what the tests of a whole string say
--     legal_keeps               what a legal string begins with is kept
--     legal_out                 to leave all out is legal
-- Assumes nothing.
use mathlib.Core.Bool.{Bool, true, false, beq, ◌&&◌}
use mathlib.Core.List.{List, [], ◌∷◌, ◌++◌}
use mathlib.Core.Logic.{inl, inr, ◌↔◌}
use mathlib.Core.Path.{◌≡◌, refl, sym, ap, ◌∙◌, subst}
use Prim.Native.Nat.{ℕ}
use lib.Dec.{T, eqb, eqb→eq}
use lib.ListN.{length, replicate, length-replicate}
use borrow.Author.Tests.{eq-eqb}
use Rattle.bases.specs.Same.{same?}
use Rattle.bases.proofs.SameLaws.{same_iff}
use Rattle.bases.proofs.TestLaws.{of_true, both}
use Rattle.donors.specs.Apart.{Chain, chain?}
use Rattle.donors.specs.Donor.{Edit}
use Rattle.donors.specs.Rules.{Rules, list1, list2, put_if, edit_of, edits, donor_of, Allowed}
use Rattle.donors.proofs.ApartLaws.{chain_iff}
use Rattle.donors.proofs.EditLaws.{chain_front, allowed_front}
use Rattle.matching.specs.BestOf.{Some, Covers, every?, Finite, allowed?, apart?, same_donors?, keep?, legal?}
use Rattle.matching.specs.Legal.{Legal}

pub every_iff : {A : Type 0} (f : A → Bool) (P : A → Type 0) (l : List A) → Covers l → ((a : A) → T (f a) ↔ P a) → T (every? f l) ↔ ((a : A) → P a)
unfolding every?
every_iff {A} f P l k i = (λ t a. (i a).0 (at l t a (k a)), λ p. from l p)
  where
    at : (l : List A) → T (every? f l) → (a : A) → Some (λ (b : A). a ≡ b) l → T (f a)
    at [] t a m = absurd m
    at (b ∷ l) t a (inl e) = subst (λ (c : A). T (f c)) (sym e) ((both (f b) (every? f l)).0 t).0
    at (b ∷ l) t a (inr m) = at l ((both (f b) (every? f l)).0 t).1 a m

    from : (l : List A) → ((a : A) → P a) → T (every? f l)
    from [] p = tt
    from (b ∷ l) p = (both (f b) (every? f l)).1 ((i b).1 (p b), from l p)

put_off : (t : Bool) (e : Edit) (es : List Edit) → put_if (t && false) e es ≡ es
put_off true e es = refl
put_off false e es = refl

module _ {X C H : Type 0} (𝓡 : Rules X C H) (𝓕 : Finite 𝓡) where
  pub allowed_iff : (xs : List X) (φ : List C) → T (allowed? 𝓡 𝓕 xs φ) ↔ Allowed 𝓡 xs φ
  unfolding allowed?
  allowed_iff [] φ = (λ t. tt, λ t. tt)
  allowed_iff (x ∷ xs) [] = (λ t. tt, λ t. tt)
  allowed_iff (x ∷ xs) (c ∷ φ) =
      let i = allowed_iff xs φ in
      let b = both (𝓡.ok x c) (allowed? 𝓡 𝓕 xs φ) in
      (λ t. ((b.0 t).0, i.0 (b.0 t).1), λ a. b.1 (a.0, i.1 a.1))

  pub apart_iff : (xs : List X) (φ : List C) → T (apart? 𝓡 𝓕 xs φ) ↔ ((j : Bool) (h : H) → Chain 0 (edits 𝓡 j h xs φ))
  apart_iff xs φ = (λ t. to (e.0 t), λ c. e.1 (λ h. (c list1 h, c list2 h)))
    where
      Two : H → Type 0
      Two h = Chain 0 (edits 𝓡 list1 h xs φ) × Chain 0 (edits 𝓡 list2 h xs φ)

      to : ((h : H) → Two h) → (j : Bool) (h : H) → Chain 0 (edits 𝓡 j h xs φ)
      to f true h = (f h).0
      to f false h = (f h).1

      two : (h : H) → T (chain? 0 (edits 𝓡 list1 h xs φ) && chain? 0 (edits 𝓡 list2 h xs φ)) ↔ Two h
      two h =
          let b = both (chain? 0 (edits 𝓡 list1 h xs φ)) (chain? 0 (edits 𝓡 list2 h xs φ)) in
          let u = chain_iff 0 (edits 𝓡 list1 h xs φ) in
          let v = chain_iff 0 (edits 𝓡 list2 h xs φ) in
          (λ t. (u.0 (b.0 t).0, v.0 (b.0 t).1), λ c. b.1 (u.1 c.0, v.1 c.1))

      e : T (apart? 𝓡 𝓕 xs φ) ↔ ((h : H) → Two h)
      e = every_iff (λ h. chain? 0 (edits 𝓡 list1 h xs φ) && chain? 0 (edits 𝓡 list2 h xs φ)) Two 𝓕.copies 𝓕.all_copies two

  pub donors_iff : (R : List ℕ) (xs : List X) (φ : List C) → T (same_donors? 𝓡 𝓕 R xs φ) ↔ ((h : H) → donor_of 𝓡 R list1 h xs φ ≡ donor_of 𝓡 R list2 h xs φ)
  donors_iff R xs φ =
      every_iff (λ h. same? (donor_of 𝓡 R list1 h xs φ) (donor_of 𝓡 R list2 h xs φ)) (λ h. donor_of 𝓡 R list1 h xs φ ≡ donor_of 𝓡 R list2 h xs φ)
      𝓕.copies 𝓕.all_copies (λ h. same_iff (donor_of 𝓡 R list1 h xs φ) (donor_of 𝓡 R list2 h xs φ))

  pub legal_iff : (R : List ℕ) (xs : List X) (φ : List C) → T (legal? 𝓡 𝓕 R xs φ) ↔ Legal 𝓡 R xs φ
  legal_iff R xs φ =
      let b = both (eqb (length φ) (length xs)) (keep? 𝓡 𝓕 xs φ && same_donors? 𝓡 𝓕 R xs φ) in
      let c = both (keep? 𝓡 𝓕 xs φ) (same_donors? 𝓡 𝓕 R xs φ) in
      let d = both (allowed? 𝓡 𝓕 xs φ) (apart? 𝓡 𝓕 xs φ) in (
        λ t. record {
          long = eqb→eq (length φ) (length xs) (b.0 t).0;
          allowed = (allowed_iff xs φ).0 (d.0 (c.0 (b.0 t).1).0).0;
          apart = (apart_iff xs φ).0 (d.0 (c.0 (b.0 t).1).0).1;
          same = (donors_iff R xs φ).0 (c.0 (b.0 t).1).1;
        },
        λ g. b.1 (of_true (eq-eqb _ _ g.long), c.1 (d.1 ((allowed_iff xs φ).1 g.allowed, (apart_iff xs φ).1 g.apart), (donors_iff R xs φ).1 g.same)),
      )

  pub legal_keeps : (R : List ℕ) (xs : List X) (φ ψ : List C) → Legal 𝓡 R xs (φ ++ ψ) → T (keep? 𝓡 𝓕 xs φ)
  legal_keeps R xs φ ψ g =
      (both (allowed? 𝓡 𝓕 xs φ) (apart? 𝓡 𝓕 xs φ)).1
      ((allowed_iff xs φ).1 (allowed_front 𝓡 xs φ ψ g.allowed), (apart_iff xs φ).1 (λ j h. chain_front 𝓡 j h xs φ ψ 0 (g.apart j h)))

  edits_out : (j : Bool) (h : H) (xs : List X) → edits 𝓡 j h xs (replicate (length xs) 𝓕.out) ≡ []
  unfolding edits
  edits_out j h [] = refl
  edits_out j h (x ∷ xs) =
      let r = replicate (length xs) 𝓕.out in
      ap (λ (t : Bool). put_if (beq j (𝓡.side x) && t) (edit_of 𝓡 x 𝓕.out h) (edits 𝓡 j h xs r)) (𝓕.out_room x h)
      ∙ put_off (beq j (𝓡.side x)) (edit_of 𝓡 x 𝓕.out h) (edits 𝓡 j h xs r) ∙ edits_out j h xs

  allowed_out : (xs : List X) → Allowed 𝓡 xs (replicate (length xs) 𝓕.out)
  allowed_out [] = tt
  allowed_out (x ∷ xs) = (𝓕.out_ok x, allowed_out xs)

  pub legal_out : (R : List ℕ) (xs : List X) → Legal 𝓡 R xs (replicate (length xs) 𝓕.out)
  legal_out R xs = record {
    long = length-replicate (length xs) 𝓕.out;
    allowed = allowed_out xs;
    apart = λ j h. rw (edits_out j h xs) tt;
    same = λ h. rw (edits_out list1 h xs, edits_out list2 h xs);
  }
