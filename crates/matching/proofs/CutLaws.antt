-- The cut theorem: at a cut legality splits, and so does being the best.
--     score_append    the score of two runs of items is the sum
--     chain_cut       no overlap in the whole exactly if none on either side
--     same_cut        one donor for both lists exactly if so on either side: the gap holds the two donors in step
--     legal_split     the choices of both sides are together legal exactly if each is legal by itself
--     legal_best      where legality splits, being the best splits
--     best_split      so at a cut the choices are together best exactly if each side is best by itself
-- Assumes nothing.
use mathlib.Core.Bool.{Bool}
use mathlib.Core.List.{List, [], ◌∷◌, ◌++◌}
use mathlib.Core.Logic.{◌↔◌}
use mathlib.Core.Path.{◌≡◌, refl, sym, ap, ◌∙◌}
use Prim.Native.Nat.{ℕ, ◌+◌}
use native.Mathlib.Nat.{suc_inj}
use native.Mathlib.Omega.{arith}
use lib.ListN.{length, drop, length-append}
use Rattle.donors.specs.Apart.{Chain}
use Rattle.donors.specs.Donor.{part, donor_from, donor_to}
use Rattle.donors.specs.Items.{reach}
use Rattle.donors.specs.Rules.{Rules, list1, list2, edits, donor_of}
use Rattle.donors.proofs.ApartLaws.{chain_split}
use Rattle.donors.proofs.DonorLaws.{donor_start, donor_stop, donor_split}
use Rattle.donors.proofs.EditLaws.{edits_append, allowed_append, edits_ends, edits_starts, donors_near}
use Rattle.matching.specs.Best.{Scoring, score, IsBest}
use Rattle.matching.specs.Cut.{Cut}
use Rattle.matching.specs.Legal.{Legal}
use Rattle.matching.proofs.BestLaws.{best_product}
use Rattle.matching.proofs.GapLaws.{split_same, cancel_right, gap_same}

pub score_append : {X C : Type 0} (𝓢 : Scoring X C) (xs ys : List X) (φ ψ : List C) → length φ ≡ length xs
    → score 𝓢 (xs ++ ys) (φ ++ ψ) ≡ score 𝓢 xs φ + score 𝓢 ys ψ
unfolding score
score_append 𝓢 [] ys [] ψ l = omega arith
score_append 𝓢 [] ys (c ∷ φ) ψ l = absurd (omega arith)
score_append 𝓢 (x ∷ xs) ys [] ψ l = absurd (omega arith)
score_append 𝓢 (x ∷ xs) ys (c ∷ φ) ψ l = omega (arith, score_append 𝓢 xs ys φ ψ (suc_inj l))

module _ {X C H : Type 0} (𝓡 : Rules X C H) (R : List ℕ) (xs ys : List X) (k : Cut 𝓡 R xs ys) where
  -- the donor of list j on copy h as far as b, and from p on
  abbrev to : Bool → H → List C → List ℕ
  to j h φ = donor_to R 0 k.b (edits 𝓡 j h xs φ)

  abbrev from : Bool → H → List C → List ℕ
  from j h ψ = donor_from R k.p (edits 𝓡 j h ys ψ)

  donor_cut : (j : Bool) (h : H) (φ ψ : List C) → length φ ≡ length xs
      → donor_of 𝓡 R j h (xs ++ ys) (φ ++ ψ) ≡ to j h φ ++ (part R k.b k.p ++ from j h ψ)
  donor_cut j h φ ψ l =
      ap (donor_from R 0) (edits_append 𝓡 j h xs ys φ ψ l)
      ∙ donor_split R 0 k.b k.p (edits 𝓡 j h xs φ) (edits 𝓡 j h ys ψ) (omega arith) k.order
      (edits_ends 𝓡 j h k.b xs φ k.ends) (edits_starts 𝓡 j h k.p ys ψ k.starts)

  donor_front : (j : Bool) (h : H) (φ : List C) → donor_of 𝓡 R j h xs φ ≡ to j h φ ++ drop k.b R
  donor_front j h φ = donor_stop R 0 k.b (edits 𝓡 j h xs φ) (omega arith) (edits_ends 𝓡 j h k.b xs φ k.ends)

  donor_back : (j : Bool) (h : H) (ψ : List C) → donor_of 𝓡 R j h ys ψ ≡ part R 0 k.p ++ from j h ψ
  donor_back j h ψ = donor_start R 0 k.p (edits 𝓡 j h ys ψ) (omega arith) (edits_starts 𝓡 j h k.p ys ψ k.starts)

  pub chain_cut : (j : Bool) (h : H) (φ ψ : List C) → length φ ≡ length xs
      → Chain 0 (edits 𝓡 j h (xs ++ ys) (φ ++ ψ)) ↔ (Chain 0 (edits 𝓡 j h xs φ) × Chain 0 (edits 𝓡 j h ys ψ))
  chain_cut j h φ ψ l =
      rw (edits_append 𝓡 j h xs ys φ ψ l)
      (chain_split 0 k.b k.p (edits 𝓡 j h xs φ) (edits 𝓡 j h ys ψ) (omega arith) k.order
      (edits_ends 𝓡 j h k.b xs φ k.ends) (edits_starts 𝓡 j h k.p ys ψ k.starts))

  pub same_cut : (h : H) (φ ψ : List C) → length φ ≡ length xs → ((j : Bool) → Chain 0 (edits 𝓡 j h xs φ))
      → (donor_of 𝓡 R list1 h (xs ++ ys) (φ ++ ψ) ≡ donor_of 𝓡 R list2 h (xs ++ ys) (φ ++ ψ))
      ↔ ((donor_of 𝓡 R list1 h xs φ ≡ donor_of 𝓡 R list2 h xs φ) × (donor_of 𝓡 R list1 h ys ψ ≡ donor_of 𝓡 R list2 h ys ψ))
  same_cut h φ ψ l c = (
    λ e.
        let n = donors_near 𝓡 R h k.b xs φ k.ends (omega (arith, k.order, k.inside)) c in
        let s = gap_same (to list1 h φ) (to list2 h φ) (part R k.b k.p) (from list1 h ψ) (from list2 h ψ) (reach 𝓡 xs) k.gap n.0 n.1
        (sym (donor_cut list1 h φ ψ l) ∙ e ∙ donor_cut list2 h φ ψ l) in (
          donor_front list1 h φ ∙ ap (λ (q : List ℕ). q ++ drop k.b R) s.0 ∙ sym (donor_front list2 h φ),
          donor_back list1 h ψ ∙ ap (λ (q : List ℕ). part R 0 k.p ++ q) s.1 ∙ sym (donor_back list2 h ψ),
        ),
    λ e.
        let a = cancel_right (to list1 h φ) (to list2 h φ) (drop k.b R) (sym (donor_front list1 h φ) ∙ e.0 ∙ donor_front list2 h φ) in
        let d = (split_same (part R 0 k.p) (part R 0 k.p) (from list1 h ψ) (from list2 h ψ) refl (sym (donor_back list1 h ψ) ∙ e.1 ∙ donor_back list2 h ψ)).1 in
        cc (donor_cut list1 h φ ψ l, donor_cut list2 h φ ψ l),
  )

  pub legal_split : (φ ψ : List C) → length φ ≡ length xs → Legal 𝓡 R (xs ++ ys) (φ ++ ψ) ↔ (Legal 𝓡 R xs φ × Legal 𝓡 R ys ψ)
  legal_split φ ψ l = (
    λ g.
        let c : (j : Bool) (h : H) → Chain 0 (edits 𝓡 j h xs φ) × Chain 0 (edits 𝓡 j h ys ψ) = λ j h. (chain_cut j h φ ψ l).0 (g.apart j h) in
        let o = (allowed_append 𝓡 xs ys φ ψ l).0 g.allowed in (
          record { long = l; allowed = o.0; apart = λ j h. (c j h).0; same = λ h. ((same_cut h φ ψ l (λ j. (c j h).0)).0 (g.same h)).0 },
          record {
            long = omega (arith, length-append φ ψ, length-append xs ys, g.long);
            allowed = o.1;
            apart = λ j h. (c j h).1;
            same = λ h. ((same_cut h φ ψ l (λ j. (c j h).0)).0 (g.same h)).1;
          },
        ),
    λ g. record {
      long = omega (arith, length-append φ ψ, length-append xs ys, g.0.long, g.1.long);
      allowed = (allowed_append 𝓡 xs ys φ ψ l).1 (g.0.allowed, g.1.allowed);
      apart = λ j h. (chain_cut j h φ ψ l).1 (g.0.apart j h, g.1.apart j h);
      same = λ h. (same_cut h φ ψ l (λ j. g.0.apart j h)).1 (g.0.same h, g.1.same h);
    },
  )

-- a cut is one place where legality splits, the end of all items is another
pub legal_best : {X C H : Type 0} (𝓡 : Rules X C H) (𝓢 : Scoring X C) (R : List ℕ) (xs ys : List X)
    → ((φ ψ : List C) → length φ ≡ length xs → Legal 𝓡 R (xs ++ ys) (φ ++ ψ) ↔ (Legal 𝓡 R xs φ × Legal 𝓡 R ys ψ))
    → (φ ψ : List C) → length φ ≡ length xs → IsBest 𝓡 𝓢 R (xs ++ ys) (φ ++ ψ) ↔ (IsBest 𝓡 𝓢 R xs φ × IsBest 𝓡 𝓢 R ys ψ)
legal_best 𝓡 𝓢 R xs ys splits φ ψ l =
    best_product 𝓢.rank (length xs) (Legal 𝓡 R (xs ++ ys)) (Legal 𝓡 R xs) (Legal 𝓡 R ys) (score 𝓢 (xs ++ ys)) (score 𝓢 xs) (score 𝓢 ys)
    (λ θ g. omega (arith, length-append xs ys, g.long)) (λ φ' g. g.long) splits (score_append 𝓢 xs ys) φ ψ l

pub best_split : {X C H : Type 0} (𝓡 : Rules X C H) (𝓢 : Scoring X C) (R : List ℕ) (xs ys : List X) → Cut 𝓡 R xs ys
    → (φ ψ : List C) → length φ ≡ length xs → IsBest 𝓡 𝓢 R (xs ++ ys) (φ ++ ψ) ↔ (IsBest 𝓡 𝓢 R xs φ × IsBest 𝓡 𝓢 R ys ψ)
best_split 𝓡 𝓢 R xs ys k = legal_best 𝓡 𝓢 R xs ys (legal_split 𝓡 R xs ys k)
