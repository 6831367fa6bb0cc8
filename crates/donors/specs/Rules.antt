-- The rules of a comparison, over any kind of items, choices and copies: what a choice does to a copy, and what a list's choices do.
-- Assumes nothing: these are definitions.
use Rattle.std.specs.Prelude.{Bool, true, false, ◌&&◌, List, [], ◌∷◌, ℕ, ◌+◌, ◌≤◌, T, length}
use Rattle.std.specs.Bool.{beq}
use Rattle.donors.specs.Donor.{Edit, donor}

-- The two lists.
abbrev pub list1 : Bool
list1 = true

abbrev pub list2 : Bool
list2 = false

-- Items X, choices C and copies H.
pub record Rules (X C H : Type 0) : Type 0 where
  -- the list that an item is of, and its span
  pub side : X → Bool
  pub start : X → ℕ
  pub len : X → ℕ
  -- the choice is one that the item may take
  pub ok : X → C → Bool
  -- the item takes its span on the copy, and puts this allele there
  pub room : X → C → H → Bool
  pub allele : X → C → H → List ℕ
  -- by how much, at the most, an allele that it puts is shorter or longer than the span
  pub shrink : X → ℕ
  pub grow : X → ℕ
  pub low : (x : X) (c : C) (h : H) → T (room x c h) → len x ≤ length (allele x c h) + shrink x
  pub high : (x : X) (c : C) (h : H) → T (room x c h) → length (allele x c h) ≤ len x + grow x

-- One more in front where the test holds.
abbrev pub put_if {ℓ} : {A : Type ℓ} → Bool → A → List A → List A
put_if true x xs = x ∷ xs
put_if false x xs = xs

module _ {X C H : Type 0} (𝓡 : Rules X C H) where
  -- What an item does to a copy that it takes its span on.
  abbrev pub edit_of : X → C → H → Edit
  edit_of x c h = record { start = 𝓡.start x; len = 𝓡.len x; new = 𝓡.allele x c h }

  -- The item is of list j and takes its span on copy h.
  abbrev pub takes? : Bool → H → X → C → Bool
  takes? j h x c = beq j (𝓡.side x) && 𝓡.room x c h

  -- The edits of list j on copy h: the items are those of both lists, with one choice for each; an item without a choice does nothing.
  unfoldable pub edits : Bool → H → List X → List C → List Edit
  edits j h [] φ = []
  edits j h (x ∷ xs) [] = []
  edits j h (x ∷ xs) (c ∷ φ) = put_if (takes? j h x c) (edit_of x c h) (edits j h xs φ)

  -- The donor of list j on copy h.
  abbrev pub donor_of : List ℕ → Bool → H → List X → List C → List ℕ
  donor_of R j h xs φ = donor R (edits j h xs φ)

  -- Each choice is one that its item may take.
  abbrev pub Allowed : List X → List C → Type 0
  Allowed [] φ = Unit {0}
  Allowed (x ∷ xs) [] = Unit {0}
  Allowed (x ∷ xs) (c ∷ φ) = T (𝓡.ok x c) × Allowed xs φ
