-- `bases::letter::all_letters` meets its contract: each byte is asked until one is no letter. Assumes nothing.
use Rattle.std.proofs.Common.{rules, ◌≡◌}
use mathlib.Core.Path.{◌∙◌}
use Rattle.std.proofs.lemmas.Iterator.{YieldsList-from_slice}
use Rattle.std.proofs.lemmas.Iterator.Search.{all_from_yields_List}
use Rattle.std.specs.List.{list_all}
use Rattle.bases.specs.Letter.{is_letter?}
use Rattle.bases.proofs.LetterLaws.{letters_all}
use Rattle.bases.proofs.letter.all_letters.Goals as goal

pub returns : goal.returns
returns c = let h : c.all.result ≡ list_all is_letter? c.args.bytes.now = all_from_yields_List is_letter? _ _ _ c.all.ensures.ran (YieldsList-from_slice c.args.bytes.now (cc)) (λ x b q k. search rules) in h ∙ letters_all _
