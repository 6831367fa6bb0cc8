-- The periods of a stretch of bases.
-- Assumes nothing: these are definitions.
use Rattle.std.specs.Prelude.{Bool, false, ◌||◌, List, ◌≡◌, ℕ, zero, suc, ◌+◌, ◌≤◌, ◌<◌, length, get_or, drop}
use Rattle.bases.specs.Same.{agree?}

-- A stretch has period q if its bases q apart are always equal. Where q is not below its length there are no such two.
abbrev pub Period : ℕ → List ℕ → Type 0
Period q y = (i : ℕ) → i + q < length y → get_or y i 0 ≡ get_or y (i + q) 0

-- The stretch has no period q with 1 ≤ q ≤ g.
abbrev pub NoPeriod : ℕ → List ℕ → Type 0
NoPeriod g y = (q : ℕ) → 1 ≤ q → q ≤ g → Period q y → ⊥

-- As tests. A stretch has period q if it agrees with what is left of it behind its first q bases;
abbrev pub period? : ℕ → List ℕ → Bool
period? q y = agree? y (drop q y)

-- some q with 1 ≤ q ≤ g is a period.
unfoldable pub any_period? : ℕ → List ℕ → Bool
any_period? zero y = false
any_period? (suc g) y = period? (suc g) y || any_period? g y
