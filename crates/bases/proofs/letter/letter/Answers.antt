-- `bases::letter::letter` meets its contract: a letter without the bit of lower case is its upper-case byte. Assumes nothing.
use mathlib.Core.Path.{sym, ◌∙◌}
use Rattle.bases.proofs.LetterLaws.{letter_and}
use Rattle.bases.proofs.letter.letter.Goals as goal

pub returns-then-is_letter : goal.returns-then-is_letter
returns-then-is_letter c = letter_and c.args.byte (sym c.is_letter.ensures ∙ c.if-is_letter.true)
