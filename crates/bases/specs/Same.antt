-- Equal bases.
-- Assumes nothing: these are definitions.
use Rattle.std.specs.Prelude.{Bool, true, ◌&&◌, List, [], ◌∷◌, ℕ, eqb, length}
use Rattle.bases.specs.Letter.{bases_of}

-- Two lists agree as far as both go.
unfoldable pub agree? : List ℕ → List ℕ → Bool
agree? [] ys = true
agree? (x ∷ xs) [] = true
agree? (x ∷ xs) (y ∷ ys) = eqb x y && agree? xs ys

-- Two lists are equal.
abbrev pub same? : List ℕ → List ℕ → Bool
same? xs ys = eqb (length xs) (length ys) && agree? xs ys

-- Two runs of bytes spell the same bases.
abbrev pub same_bases? : List ℕ → List ℕ → Bool
same_bases? a b = same? (bases_of a) (bases_of b)
