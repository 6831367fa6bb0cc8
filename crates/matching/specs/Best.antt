-- The best string of choices. Document 01: the highest score; among equals, the first in dictionary order by rank.
-- Assumes nothing: these are definitions.
use Rattle.std.specs.Prelude.{List, [], ◌∷◌, ◌⊎◌, ◌≡◌, ℕ, ◌+◌, ◌<◌}
use Rattle.donors.specs.Rules.{Rules}
use Rattle.matching.specs.Legal.{Legal}

-- The first number is below the second, or they are equal and then P.
abbrev pub Before : ℕ → ℕ → Type 0 → Type 0
Before m n P = (m < n) ⊎ ((m ≡ n) × P)

module _ {C : Type 0} (rank : C → ℕ) where
  -- Of two strings as long as each other, the first comes first in dictionary order, or they rank alike throughout.
  abbrev pub First : List C → List C → Type 0
  First [] ψ = Unit {0}
  First (a ∷ φ) [] = ⊥
  First (a ∷ φ) (b ∷ ψ) = Before (rank a) (rank b) (First φ ψ)

  -- The first string scores more, or as much and comes first.
  abbrev pub Beats : (List C → ℕ) → List C → List C → Type 0
  Beats s φ ψ = Before (s ψ) (s φ) (First φ ψ)

  -- The string is one of those that P allows, and beats each of them.
  pub record Best (P : List C → Type 0) (s : List C → ℕ) (φ : List C) : Type 0 where
    pub legal : P φ
    pub top : (ψ : List C) → P ψ → Beats s φ ψ

-- How choices are scored: what a choice counts for an item, and the rank of choices, of which no two rank alike.
pub record Scoring (X C : Type 0) : Type 0 where
  pub weight : X → C → ℕ
  pub rank : C → ℕ
  pub distinct : (a b : C) → rank a ≡ rank b → a ≡ b

module _ {X C : Type 0} (𝓢 : Scoring X C) where
  -- The sum of what the choices count.
  unfoldable pub score : List X → List C → ℕ
  score [] φ = 0
  score (x ∷ xs) [] = 0
  score (x ∷ xs) (c ∷ φ) = 𝓢.weight x c + score xs φ

-- The string is the best legal one for the items.
abbrev pub IsBest : {X C H : Type 0} → Rules X C H → Scoring X C → List ℕ → List X → List C → Type 0
IsBest 𝓡 𝓢 R xs φ = Best 𝓢.rank (Legal 𝓡 R xs) (score 𝓢 xs) φ
