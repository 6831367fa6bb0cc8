-- The search, as it computes: entry by entry, each choice followed over all remaining entries, and the better of two answers kept.
-- Assumes nothing: these are definitions.
use Rattle.std.specs.Prelude.{Bool, true, false, ◌&&◌, ◌||◌, cond, List, [], ◌∷◌, ◌++◌, ℕ, zero, suc, ltb, eqb}
use Rattle.std.proofs.Math.Option.{Option, none, some}

-- The first number is below the second, or they are equal and then t.
abbrev pub before? : ℕ → ℕ → Bool → Bool
before? m n t = ltb m n || (eqb m n && t)

module _ {C : Type 0} (rank : C → ℕ) where
  -- The first string comes first in dictionary order, or they rank alike throughout.
  unfoldable pub first? : List C → List C → Bool
  first? [] ψ = true
  first? (a ∷ φ) [] = false
  first? (a ∷ φ) (b ∷ ψ) = before? (rank a) (rank b) (first? φ ψ)

  module _ (s : List C → ℕ) where
    -- The first string scores more, or as much and comes first.
    abbrev pub beats? : List C → List C → Bool
    beats? φ ψ = before? (s ψ) (s φ) (first? φ ψ)

    -- The better of two answers; an answer is a string, or none.
    unfoldable pub better : Option (List C) → Option (List C) → Option (List C)
    better none b = b
    better (some φ) none = some φ
    better (some φ) (some ψ) = some (cond (beats? φ ψ) φ ψ)

    -- The best of the answers to f over the choices.
    unfoldable pub best_over : (C → Option (List C)) → List C → Option (List C)
    best_over f [] = none
    best_over f (c ∷ cs) = better (f c) (best_over f cs)

    -- The best legal string that goes on from φ, with n choices left to make; a choice that is not to be kept is dropped as soon as it is
    -- made.
    unfoldable pub search : List C → (List C → Bool) → (List C → Bool) → ℕ → List C → Option (List C)
    search choices keep? legal? zero φ = cond (legal? φ) (some φ) none
    search choices keep? legal? (suc n) φ =
        best_over (λ c. let θ = φ ++ (c ∷ []) in let r = search choices keep? legal? n θ in cond (keep? θ) r none) choices
