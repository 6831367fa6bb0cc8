-- The search midway: the choices made so far, and what is carried along with them.
-- Assumes nothing: these are definitions.
use Rattle.std.specs.Prelude.{Bool, List, [], ◌∷◌, ◌≡◌, ℕ, zero, suc, ◌+◌, T, length, drop}
use Rattle.std.proofs.Math.Option.{Option}
use Rattle.donors.specs.declared.table.Row.{Row}
use Rattle.donors.specs.Choice.{Choice, Variant, card_rules}
use Rattle.donors.specs.Table.{row_at}
use Rattle.matching.specs.declared.answer.Best.{Best}
use Rattle.matching.specs.Answer.{array_of, Answer, answer_of, these_choices}
use Rattle.matching.specs.Best.{score}
use Rattle.matching.specs.BestOf.{keep?, legal?}
use Rattle.matching.specs.Card.{rank_of, card_scoring, card_finite, card_best}
use Rattle.matching.specs.Search.{search}

-- The choices made so far do not overlap.
abbrev pub Kept : List Variant → List Choice → Type 0
Kept xs φ = T (keep? card_rules card_finite xs φ)

-- The choices are legal.
abbrev pub card_legal? : List ℕ → List Variant → List Choice → Bool
card_legal? R xs φ = legal? card_rules card_finite R xs φ

-- The card's search: the best legal string that goes on from φ, with so many choices left to make.
abbrev pub card_search : List ℕ → List Variant → ℕ → List Choice → Option (List Choice)
card_search R xs left φ =
    search rank_of (score card_scoring xs) card_finite.choices (keep? card_rules card_finite xs) (card_legal? R xs) left φ

-- The same, as the code answers.
abbrev pub answer_from : List ℕ → List Variant → ℕ → List Choice → Answer
answer_from R xs left φ = answer_of xs (card_search R xs left φ)

-- The best that gives the best choices for the entries.
abbrev pub best_answer : List ℕ → List Variant → Best
best_answer R xs = these_choices xs (card_best R xs)

-- The weights of entries, summed,
unfoldable pub weights : List Variant → ℕ
weights [] = 0
weights (x ∷ xs) = x.weight + weights xs

-- and those of the first n rows of a table.
unfoldable pub weights_to : List Row → ℕ → ℕ
weights_to t zero = 0
weights_to t (suc n) = weights_to t n + (row_at t n).weight

-- The choices made so far do not overlap; they stand in the array, and beside it is their score with every entry left chosen too.
pub record Made (xs : List Variant) (φ : List Choice) (choices : List ℕ) (top : ℕ) : Type 0 where
  pub array : choices ≡ array_of φ
  pub kept : Kept xs φ
  pub counted : top ≡ score card_scoring xs φ + weights (drop (length φ) xs)
