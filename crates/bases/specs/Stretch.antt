-- A stretch of bases, by its first place and its length.
-- Assumes nothing: these are definitions.
use Rattle.std.specs.Prelude.{List, ℕ, take, drop}

-- The n bases from place a on.
abbrev pub stretch : List ℕ → ℕ → ℕ → List ℕ
stretch R a n = take n (drop a R)
