-- The best string of choices, as it computes.
-- Assumes nothing: these are definitions.
use Rattle.std.specs.Prelude.{Bool, true, false, ◌&&◌, List, [], ◌∷◌, ◌⊎◌, ◌≡◌, ℕ, T, eqb, length, replicate}
use Rattle.std.proofs.Math.Option.{get_or}
use Rattle.bases.specs.Same.{same?}
use Rattle.donors.specs.Apart.{chain?}
use Rattle.donors.specs.Rules.{Rules, list1, list2, edits, donor_of}
use Rattle.matching.specs.Best.{Scoring, score}
use Rattle.matching.specs.Search.{search}

-- P holds of some element.
abbrev pub Some {ℓ} : {A : Type ℓ} → (A → Type 0) → List A → Type 0
Some P [] = ⊥
Some P (x ∷ xs) = P x ⊎ Some P xs

-- Everything stands in the list.
abbrev pub Covers : {A : Type 0} → List A → Type 0
Covers {A} l = (a : A) → Some (λ (b : A). a ≡ b) l

-- The test holds of each element.
unfoldable pub every? {ℓ} : {A : Type ℓ} → (A → Bool) → List A → Bool
every? f [] = true
every? f (x ∷ xs) = f x && every? f xs

-- What a search needs of the rules: all choices, all copies, and a choice that every item may take and that leaves it out.
pub record Finite {X C H : Type 0} (𝓡 : Rules X C H) : Type 0 where
  pub choices : List C
  pub copies : List H
  pub out : C
  pub all_choices : Covers choices
  pub all_copies : Covers copies
  pub out_ok : (x : X) → T (𝓡.ok x out)
  pub out_room : (x : X) (h : H) → 𝓡.room x out h ≡ false

module _ {X C H : Type 0} (𝓡 : Rules X C H) (𝓕 : Finite 𝓡) where
  -- Each choice is one that its item may take.
  unfoldable pub allowed? : List X → List C → Bool
  allowed? [] φ = true
  allowed? (x ∷ xs) [] = true
  allowed? (x ∷ xs) (c ∷ φ) = 𝓡.ok x c && allowed? xs φ

  -- No overlap within a list on a copy.
  abbrev pub apart? : List X → List C → Bool
  apart? xs φ = every? (λ h. chain? 0 (edits 𝓡 list1 h xs φ) && chain? 0 (edits 𝓡 list2 h xs φ)) 𝓕.copies

  -- On each copy one donor.
  abbrev pub same_donors? : List ℕ → List X → List C → Bool
  same_donors? R xs φ = every? (λ h. same? (donor_of 𝓡 R list1 h xs φ) (donor_of 𝓡 R list2 h xs φ)) 𝓕.copies

  -- The choices made so far are allowed and do not overlap.
  abbrev pub keep? : List X → List C → Bool
  keep? xs φ = allowed? xs φ && apart? xs φ

  -- The string is legal.
  abbrev pub legal? : List ℕ → List X → List C → Bool
  legal? R xs φ = eqb (length φ) (length xs) && (keep? xs φ && same_donors? R xs φ)

  -- The best string for the items. To leave all out is always legal, so the search has an answer.
  unfoldable pub best_of : Scoring X C → List ℕ → List X → List C
  best_of 𝓢 R xs =
      get_or (search 𝓢.rank (score 𝓢 xs) 𝓕.choices (keep? xs) (legal? R xs) (length xs) []) (replicate (length xs) 𝓕.out)
