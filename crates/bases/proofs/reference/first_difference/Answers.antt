-- `bases::reference::first_difference` meets its contract: the places are asked from `from` on. Assumes nothing.
use Rattle.std.proofs.Common.{rules, ◌-◌, length}
use mathlib.Core.Path.{refl, sym, ◌∙◌}
use Rattle.std.proofs.lemmas.Iterator.{YieldsList-from_range}
use Rattle.std.proofs.lemmas.Iterator.Adapters.{option_map_id}
use Rattle.std.proofs.lemmas.Iterator.Search.{find_from_yields_List}
use Rattle.bases.specs.Letter.{bases_of}
use Rattle.bases.specs.Nearest.{differ?}
use Rattle.bases.proofs.NearestLaws.{upper_find}
use Rattle.bases.proofs.reference.first_difference.Goals as goal

pub returns : goal.returns
returns c = let a = c.args in
    let n = length a.stretch.now - a.q in
    sym (option_map_id c.find.result)
    ∙ find_from_yields_List (differ? a.q (bases_of a.stretch.now)) _ _ c.find.result c.find.ensures.ran (YieldsList-from_range a.from n (n - a.from) (cc) refl) (λ x b q k. search rules)
    ∙ upper_find a.q (bases_of a.stretch.now) a.from (n - a.from)
