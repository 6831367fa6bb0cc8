-- Where items lie, and by how much their lists' donors can come to be apart.
-- Assumes nothing: these are definitions.
use Rattle.std.specs.Prelude.{Bool, true, false, List, [], ◌∷◌, ℕ, ◌+◌, ◌≤◌, max}
use Rattle.std.specs.Bool.{beq}
use Rattle.donors.specs.Apart.{All}
use Rattle.donors.specs.Rules.{Rules, list1, list2}

-- The number where the test holds, else 0.
abbrev pub only : Bool → ℕ → ℕ
only true n = n
only false n = 0

module _ {X C H : Type 0} (𝓡 : Rules X C H) where
  -- All end at b or before it.
  abbrev pub Ends : ℕ → List X → Type 0
  Ends b xs = All (λ (x : X). 𝓡.start x + 𝓡.len x ≤ b) xs

  -- All start at p or behind it.
  abbrev pub Starts : ℕ → List X → Type 0
  Starts p xs = All (λ (x : X). p ≤ 𝓡.start x) xs

  -- They stand in order of their starts.
  abbrev pub Sorted : List X → Type 0
  Sorted [] = Unit {0}
  Sorted (x ∷ xs) = Starts (𝓡.start x) xs × Sorted xs

  -- No span is empty.
  abbrev pub Solid : List X → Type 0
  Solid xs = All (λ (x : X). 1 ≤ 𝓡.len x) xs

  -- The sum over list j's items: of shrink it is document 01's A_j, of grow its B_j.
  unfoldable pub over : (X → ℕ) → Bool → List X → ℕ
  over f j [] = 0
  over f j (x ∷ xs) = only (beq j (𝓡.side x)) (f x) + over f j xs

  -- Document 01's g = max(B_1 + A_2, B_2 + A_1).
  abbrev pub reach : List X → ℕ
  reach xs = max (over 𝓡.grow list1 xs + over 𝓡.shrink list2 xs) (over 𝓡.grow list2 xs + over 𝓡.shrink list1 xs)
