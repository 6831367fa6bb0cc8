-- Laws of the order of strings: dictionary order by rank, and score before it.
--     Tri, tri                                           below, equal or above
--     before_iff, before_trans, before_total, before_antisym
--                                                        `below, or equal and then`, of two numbers
--     first_iff, first_refl, first_trans, first_total, first_antisym
--                                                        dictionary order: its test, and that it is a total order of the strings of a length
--     first_append, first_front, first_back              dictionary order of strings made of two
--     beats_iff, beats_refl, beats_trans, beats_total    score, then dictionary order
-- Assumes nothing.
use mathlib.Core.Bool.{Bool, ◌&&◌}
use mathlib.Core.List.{List, [], ◌∷◌, ◌++◌}
use mathlib.Core.Logic.{◌⊎◌, inl, inr, ⊎_elim, ◌↔◌}
use mathlib.Core.Path.{◌≡◌, refl, sym, ap₂}
use Prim.Native.Nat.{ℕ, ◌<◌}
use native.Mathlib.Decide.{dec_lt}
use native.Mathlib.Nat.{suc_inj}
use native.Mathlib.Omega.{arith}
use lib.Dec.{T, ltb, eqb, ltb→lt, lt→ltb, eqb→eq}
use lib.ListN.{length}
use borrow.Author.Tests.{eq-eqb}
use Rattle.bases.proofs.TestLaws.{of_true, both, either}
use Rattle.matching.specs.Best.{Before, First, Beats}
use Rattle.matching.specs.Search.{before?, first?, beats?}

-- Below, equal or above.
abbrev pub Tri : ℕ → ℕ → Type 0
Tri a b = (a < b) ⊎ ((a ≡ b) ⊎ (b < a))

pub tri : (a b : ℕ) → Tri a b
tri a b = go (dec_lt a b) (dec_lt b a)
  where
    go : Dec (a < b) → Dec (b < a) → Tri a b
    go (yes h) k = inl h
    go (no h) (yes k) = inr (inr k)
    go (no h) (no k) = inr (inl (omega arith))

pub before_iff : (m n : ℕ) (t : Bool) (P : Type 0) → T t ↔ P → T (before? m n t) ↔ Before m n P
before_iff m n t P f = (
  λ u. ⊎_elim (λ v. inl (ltb→lt m n v)) (λ v. let w = (both (eqb m n) t).0 v in inr (eqb→eq m n w.0, f.0 w.1)) ((either (ltb m n) (eqb m n && t)).0 u),
  λ u. (either (ltb m n) (eqb m n && t)).1 (⊎_elim (λ v. inl (lt→ltb m n v)) (λ v. inr ((both (eqb m n) t).1 (of_true (eq-eqb m n v.0), f.1 v.1))) u),
)

pub before_trans : {a b c : ℕ} {P Q S : Type 0} → (P → Q → S) → Before a b P → Before b c Q → Before a c S
before_trans f (inl h) (inl k) = inl (omega arith)
before_trans f (inl h) (inr k) = inl (omega arith)
before_trans f (inr h) (inl k) = inl (omega arith)
before_trans f (inr h) (inr k) = inr (omega arith, f h.1 k.1)

pub before_total : (a b : ℕ) {P Q : Type 0} → P ⊎ Q → Before a b P ⊎ Before b a Q
before_total a b {P} {Q} o = go (tri a b) o
  where
    go : Tri a b → P ⊎ Q → Before a b P ⊎ Before b a Q
    go (inl h) o = inl (inl h)
    go (inr (inl e)) (inl p) = inl (inr (e, p))
    go (inr (inl e)) (inr q) = inr (inr (sym e, q))
    go (inr (inr h)) o = inr (inl h)

pub before_antisym : {a b : ℕ} {P Q : Type 0} → Before a b P → Before b a Q → (a ≡ b) × P × Q
before_antisym (inl h) (inl k) = absurd (omega arith)
before_antisym (inl h) (inr k) = absurd (omega arith)
before_antisym (inr h) (inl k) = absurd (omega arith)
before_antisym (inr h) (inr k) = (h.0, h.1, k.1)

module _ {C : Type 0} (rank : C → ℕ) where
  pub first_iff : (φ ψ : List C) → T (first? rank φ ψ) ↔ First rank φ ψ
  unfolding first?
  first_iff [] ψ = (λ t. tt, λ t. tt)
  first_iff (a ∷ φ) [] = (λ t. t, λ t. t)
  first_iff (a ∷ φ) (b ∷ ψ) = before_iff (rank a) (rank b) (first? rank φ ψ) (First rank φ ψ) (first_iff φ ψ)

  pub first_refl : (φ : List C) → First rank φ φ
  first_refl [] = tt
  first_refl (a ∷ φ) = inr (refl, first_refl φ)

  pub first_trans : (φ ψ χ : List C) → First rank φ ψ → First rank ψ χ → First rank φ χ
  first_trans [] ψ χ f g = tt
  first_trans (a ∷ φ) [] χ f g = absurd f
  first_trans (a ∷ φ) (b ∷ ψ) [] f g = absurd g
  first_trans (a ∷ φ) (b ∷ ψ) (c ∷ χ) f g = before_trans (first_trans φ ψ χ) f g

  pub first_total : (φ ψ : List C) → First rank φ ψ ⊎ First rank ψ φ
  first_total [] ψ = inl tt
  first_total (a ∷ φ) [] = inr tt
  first_total (a ∷ φ) (b ∷ ψ) = before_total (rank a) (rank b) (first_total φ ψ)

  pub first_antisym : ((a b : C) → rank a ≡ rank b → a ≡ b) → (φ ψ : List C) → First rank φ ψ → First rank ψ φ → φ ≡ ψ
  first_antisym d [] [] f g = refl
  first_antisym d [] (b ∷ ψ) f g = absurd g
  first_antisym d (a ∷ φ) [] f g = absurd f
  first_antisym d (a ∷ φ) (b ∷ ψ) f g = let e = before_antisym f g in ap₂ ◌∷◌ (d a b e.0) (first_antisym d φ ψ e.1 e.2)

  pub first_append : (φ φ' ψ ψ' : List C) → length φ ≡ length φ' → First rank φ φ' → First rank ψ ψ' → First rank (φ ++ ψ) (φ' ++ ψ')
  first_append [] [] ψ ψ' l f g = g
  first_append [] (b ∷ φ') ψ ψ' l f g = absurd (omega arith)
  first_append (a ∷ φ) [] ψ ψ' l f g = absurd f
  first_append (a ∷ φ) (b ∷ φ') ψ ψ' l (inl h) g = inl h
  first_append (a ∷ φ) (b ∷ φ') ψ ψ' l (inr h) g = inr (h.0, first_append φ φ' ψ ψ' (suc_inj l) h.1 g)

  pub first_front : (φ φ' ψ ψ' : List C) → length φ ≡ length φ' → First rank (φ ++ ψ) (φ' ++ ψ') → First rank φ φ'
  first_front [] φ' ψ ψ' l f = tt
  first_front (a ∷ φ) [] ψ ψ' l f = absurd (omega arith)
  first_front (a ∷ φ) (b ∷ φ') ψ ψ' l (inl h) = inl h
  first_front (a ∷ φ) (b ∷ φ') ψ ψ' l (inr h) = inr (h.0, first_front φ φ' ψ ψ' (suc_inj l) h.1)

  pub first_back : (φ ψ ψ' : List C) → First rank (φ ++ ψ) (φ ++ ψ') → First rank ψ ψ'
  first_back [] ψ ψ' f = f
  first_back (a ∷ φ) ψ ψ' (inl h) = absurd (omega arith)
  first_back (a ∷ φ) ψ ψ' (inr h) = first_back φ ψ ψ' h.1

  module _ (s : List C → ℕ) where
    pub beats_iff : (φ ψ : List C) → T (beats? rank s φ ψ) ↔ Beats rank s φ ψ
    beats_iff φ ψ = before_iff (s ψ) (s φ) (first? rank φ ψ) (First rank φ ψ) (first_iff φ ψ)

    pub beats_refl : (φ : List C) → Beats rank s φ φ
    beats_refl φ = inr (refl, first_refl φ)

    pub beats_trans : (φ ψ χ : List C) → Beats rank s φ ψ → Beats rank s ψ χ → Beats rank s φ χ
    beats_trans φ ψ χ f g = before_trans (λ a b. first_trans φ ψ χ b a) g f

    pub beats_total : (φ ψ : List C) → Beats rank s φ ψ ⊎ Beats rank s ψ φ
    beats_total φ ψ = before_total (s ψ) (s φ) (first_total φ ψ)
