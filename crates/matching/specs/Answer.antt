-- The answer of a search as the code holds it: the choices are bytes, in an array of twelve.
-- Assumes nothing: these are definitions.
use Rattle.std.specs.Prelude as prelude
use Rattle.std.specs.Prelude.{Bool, true, List, ◌++◌, map, ℕ, ◌-◌, ltb, length, replicate, Some, None}
use Rattle.std.proofs.Math.Option.{Option, none, some}
use Rattle.bases.specs.Pick.{pick}
use Rattle.donors.specs.Choice.{Choice, plus, minus, out, Variant}
use Rattle.donors.specs.Table.{most}
use Rattle.matching.specs.declared.answer.Best.{Best}
use Rattle.matching.specs.Best.{score}
use Rattle.matching.specs.Card.{card_scoring}

-- The byte that writes a choice: `+`, `-` or `0`.
abbrev pub byte_of : Choice → ℕ
byte_of plus = 43
byte_of minus = 45
byte_of out = 48

-- Choices in an array: what is behind them is `0`.
unfoldable pub array_of : List Choice → List ℕ
array_of φ = map byte_of φ ++ replicate (most - length φ) 48

-- An answer: nothing, or the best choices and their score.
abbrev pub Answer : Type 0
Answer = prelude.Option Best

-- The best that gives these choices.
abbrev pub these_choices : List Variant → List Choice → Best
these_choices xs φ = record { score = score card_scoring xs φ; choices = array_of φ }

-- The answer that the code gives for one of matching's search.
abbrev pub answer_of : List Variant → Option (List Choice) → Answer
answer_of xs none = None
answer_of xs (some φ) = Some (these_choices xs φ)

-- An answer of that score is better than the best so far: nothing was found yet, or it scores more.
abbrev pub can_beat? : ℕ → Answer → Bool
can_beat? score None = true
can_beat? score (Some best) = ltb best.score score

-- The best so far, and an answer that comes behind it in dictionary order: the answer where it is better, else the best so far.
abbrev pub improved : Answer → Answer → Answer
improved best None = best
improved best (Some a) = pick (can_beat? a.score best) (Some a) best
