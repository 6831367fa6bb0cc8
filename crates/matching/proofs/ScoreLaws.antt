-- Laws of the card's score: what choices score at the most.
--     score_more    however choices go on, they score no more than with every entry left chosen
-- Assumes nothing.
use mathlib.Core.List.{List, [], ◌∷◌, ◌++◌}
use Prim.Native.Nat.{◌+◌, ◌≤◌}
use native.Mathlib.Omega.{arith}
use lib.ListN.{length, drop}
use Rattle.donors.specs.Choice.{Choice, plus, minus, out, Variant}
use Rattle.matching.specs.Best.{score}
use Rattle.matching.specs.Card.{counts, card_scoring}
use Rattle.matching.specs.Made.{weights}

counts_most : (x : Variant) (c : Choice) → counts x c ≤ x.weight
counts_most x plus = omega arith
counts_most x minus = omega arith
counts_most x out = omega arith

score_most : (xs : List Variant) (φ : List Choice) → score card_scoring xs φ ≤ weights xs
unfolding score weights
score_most [] φ = omega arith
score_most (x ∷ xs) [] = omega arith
score_most (x ∷ xs) (c ∷ φ) = omega (arith, score_most xs φ, counts_most x c)

pub score_more : (xs : List Variant) (φ τ : List Choice) → score card_scoring xs (φ ++ τ) ≤ score card_scoring xs φ + weights (drop (length φ) xs)
unfolding score
score_more [] φ τ = omega arith
score_more (x ∷ xs) [] τ = omega (arith, score_most (x ∷ xs) τ)
score_more (x ∷ xs) (c ∷ φ) τ = omega (arith, score_more xs φ τ)
