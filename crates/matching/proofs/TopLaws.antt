-- Laws of the answers of a search: which come first in dictionary order.
--     Of, of_both, cond_of, better_of
--                       something holds of the answer's string, or there is none
--     GoesOn, search_goes_on
--                       an answer of the search goes on from the choices made
--     goes_sooner       of two answers that go on from one string, the one that goes on with the choice of lower rank comes first
-- Assumes nothing.
use mathlib.Core.Bool.{Bool, true, false, cond}
use mathlib.Core.List.{List, [], ◌∷◌, ◌++◌, append_assoc, append-nil}
use mathlib.Core.Logic.{inl, inr}
use mathlib.Core.Option.{Option, none, some}
use mathlib.Core.Path.{◌≡◌, refl, sym, ◌∙◌}
use Prim.Native.Nat.{ℕ, zero, suc, ◌<◌}
use Rattle.matching.specs.Best.{First}
use Rattle.matching.specs.Search.{beats?, better, best_over, search}

module _ {C : Type 0} where
  -- P holds of the answer's string, or there is none.
  abbrev pub Of : (List C → Type 0) → Option (List C) → Type 0
  Of P none = Unit {0}
  Of P (some φ) = P φ

  of_map : (P Q : List C → Type 0) → ((φ : List C) → P φ → Q φ) → (o : Option (List C)) → Of P o → Of Q o
  of_map P Q f none a = tt
  of_map P Q f (some φ) a = f φ a

  pub of_both : (P Q S : List C → Type 0) → ((φ : List C) → P φ → Q φ → S φ) → (o : Option (List C)) → Of P o → Of Q o → Of S o
  of_both P Q S f none a b = tt
  of_both P Q S f (some φ) a b = f φ a b

  pub cond_of : (P : List C → Type 0) (o : Option (List C)) (t : Bool) → Of P o → Of P (cond t o none)
  cond_of P o true a = a
  cond_of P o false a = tt

  -- The string goes on from φ.
  abbrev pub GoesOn : List C → List C → Type 0
  GoesOn φ ψ = (τ : List C) × (ψ ≡ φ ++ τ)

module _ {C : Type 0} (rank : C → ℕ) where
  first_sooner : (φ τ υ : List C) (c d : C) → rank c < rank d → First rank (φ ++ (c ∷ τ)) (φ ++ (d ∷ υ))
  first_sooner [] τ υ c d h = inl h
  first_sooner (a ∷ φ) τ υ c d h = inr (refl, first_sooner φ τ υ c d h)

  pub goes_sooner : (φ : List C) (c d : C) → rank c < rank d → (o p : Option (List C)) → Of (GoesOn (φ ++ (c ∷ []))) o → Of (GoesOn (φ ++ (d ∷ []))) p
      → Of (λ (χ : List C). Of (First rank χ) p) o
  goes_sooner φ c d h o p a b =
      of_map (GoesOn (φ ++ (c ∷ []))) (λ (χ : List C). Of (First rank χ) p)
      (λ χ g. of_map (GoesOn (φ ++ (d ∷ []))) (First rank χ) (λ ψ k. rw (g.1, k.1, append_assoc φ (c ∷ []) g.0, append_assoc φ (d ∷ []) k.0) (first_sooner φ g.0 k.0 c d h)) p b)
      o a

  module _ (s : List C → ℕ) where
    pub better_of : (P : List C → Type 0) (o p : Option (List C)) → Of P o → Of P p → Of P (better rank s o p)
    unfolding better
    better_of P none p a b = b
    better_of P (some φ) none a b = a
    better_of P (some φ) (some ψ) a b = go (beats? rank s φ ψ)
      where
        go : (t : Bool) → P (cond t φ ψ)
        go true = a
        go false = b

    over_of : (P : List C → Type 0) (f : C → Option (List C)) → ((c : C) → Of P (f c)) → (cs : List C) → Of P (best_over rank s f cs)
    unfolding best_over
    over_of P f a [] = tt
    over_of P f a (c ∷ cs) = better_of P (f c) (best_over rank s f cs) (a c) (over_of P f a cs)

    pub search_goes_on : (choices : List C) (keep? legal? : List C → Bool) (m : ℕ) (φ : List C) → Of (GoesOn φ) (search rank s choices keep? legal? m φ)
    unfolding search
    search_goes_on choices keep? legal? zero φ = cond_of (GoesOn φ) (some φ) (legal? φ) ([], sym (append-nil φ))
    search_goes_on choices keep? legal? (suc m) φ =
        over_of (GoesOn φ) _ (λ c.
        cond_of (GoesOn φ) _ (keep? (φ ++ (c ∷ [])))
        (of_map (GoesOn (φ ++ (c ∷ []))) (GoesOn φ) (λ ψ g. (c ∷ g.0, g.1 ∙ append_assoc φ (c ∷ []) g.0))
        (search rank s choices keep? legal? m (φ ++ (c ∷ []))) (search_goes_on choices keep? legal? m (φ ++ (c ∷ []))))) choices
