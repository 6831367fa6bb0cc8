-- The five numbers that a call answers.
-- Assumes nothing: these are definitions.
use Rattle.std.specs.Prelude.{ℕ, eqb}
use Rattle.bases.specs.Pick.{pick}
use Rattle.card.specs.declared.answer.Answer.{Answer}
use Rattle.card.specs.declared.refusal.Refusal.{Refusal}

abbrev pub answer : ℕ → ℕ → ℕ → ℕ → ℕ → Answer
answer number list line place value = record { number = number; list = list; line = line; place = place; value = value }

-- A refusal's four numbers, and 0.
abbrev pub refused_answer : Refusal → Answer
refused_answer r = answer r.number r.list r.line r.place 0

-- What a call answers: its refusal, or where there is none number 0 and a value.
abbrev pub answer_of : Refusal → ℕ → Answer
answer_of r value = pick (eqb r.number 0) (answer 0 0 0 0 value) (refused_answer r)
