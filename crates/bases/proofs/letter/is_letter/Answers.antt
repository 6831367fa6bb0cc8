-- `bases::letter::is_letter` meets its contract: a letter in upper or in lower case, or none. Assumes nothing.
use mathlib.Core.Path.{sym}
use native.Mathlib.Omega.{arith}
use Rattle.bases.proofs.LetterLaws.{byte_letter, other_letter}
use Rattle.bases.proofs.letter.is_letter.Goals as goal

pub returns-in-65 : goal.returns-in-65
returns-in-65 c = sym (byte_letter c.args.byte c.in-65.is)

pub returns-in_default : goal.returns-in_default
returns-in_default c = sym (other_letter c.args.byte (λ u. grind (arith, u)) (λ l. grind (arith, l)))
