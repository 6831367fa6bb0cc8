-- The five numbers that `card_allele` answers.
-- Assumes nothing: these are definitions.
use Rattle.std.specs.Prelude.{eqb}
use Rattle.bases.specs.Pick.{pick}
use Rattle.card.specs.declared.answer.Answer.{Answer}
use Rattle.card.specs.Allele.{Shown}
use Rattle.card.specs.Answer.{answer, refused_answer}

-- Where what is shown stands: 0 for the reference and 1 for the text, the start there, place 0, and the length.
unfoldable pub allele_answer : Shown → Answer
allele_answer s =
    pick (eqb s.refusal.number 0) (answer 0 (pick s.text 1 0) s.part.at 0 s.part.len) (refused_answer s.refusal)
