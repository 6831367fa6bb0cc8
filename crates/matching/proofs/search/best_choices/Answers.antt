-- `matching::search::best_choices` meets its contract: the search from nothing on, with the weights of all entries carried. Assumes
-- nothing.
use mathlib.Core.Path.{◌∙◌}
use native.Mathlib.Omega.{arith}
use Rattle.bases.specs.Letter.{bases_of}
use Rattle.matching.proofs.AnswerBest.{made_start, search_start}
use Rattle.matching.proofs.search.best_choices.Goals as goal

pub search-requires : goal.search-requires
search-requires c = let a = c.args in (
  c.requires,
  omega arith,
  made_start (bases_of a.reference.now) a.first.now a.second.now a.table.now a.n c.sum_weights-top.result c.sum_weights-top.ensures,
  tt,
)

pub unwrap-requires : goal.unwrap-requires
unwrap-requires c = let a = c.args in
    let e = c.search.ensures ∙ search_start (bases_of a.reference.now) a.first.now a.second.now a.table.now a.n in
    rw e

pub returns : goal.returns
returns c = let a = c.args in
    let e = c.search.ensures ∙ search_start (bases_of a.reference.now) a.first.now a.second.now a.table.now a.n in
    cc (c.unwrap.ensures, e)
