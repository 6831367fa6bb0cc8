-- Overlap. Request c: two chosen entries of one list may not overlap on the same copy where both carry an allele other than REF.
-- Assumes nothing: these are definitions.
use Rattle.std.specs.Prelude.{Bool, true, ◌&&◌, List, [], ◌∷◌, ◌⊎◌, ℕ, ◌≤◌, leb}
use Rattle.donors.specs.Donor.{Edit, end}

-- P holds of each element.
abbrev pub All {ℓ} : {A : Type ℓ} → (A → Type 0) → List A → Type 0
All P [] = Unit {0}
All P (x ∷ xs) = P x × All P xs

-- P holds of each two elements, the earlier one first.
abbrev pub Pairwise {ℓ} : {A : Type ℓ} → (A → A → Type 0) → List A → Type 0
Pairwise P [] = Unit {0}
Pairwise P (x ∷ xs) = All (P x) xs × Pairwise P xs

-- Two spans do not overlap: one ends before the other starts, or where it starts.
abbrev pub Disjoint : Edit → Edit → Type 0
Disjoint e f = (end e ≤ f.start) ⊎ (end f ≤ e.start)

-- No two of the spans overlap.
abbrev pub NoOverlap : List Edit → Type 0
NoOverlap es = Pairwise Disjoint es

-- The same of spans in order: each starts at or behind the end of the one before it, and the first at a or behind it.
abbrev pub Chain : ℕ → List Edit → Type 0
Chain a [] = Unit {0}
Chain a (e ∷ es) = (a ≤ e.start) × Chain (end e) es

-- The same, as a test.
unfoldable pub chain? : ℕ → List Edit → Bool
chain? a [] = true
chain? a (e ∷ es) = leb a e.start && chain? (end e) es
