-- `card::mark::mark_planned` meets its contract: it answers what is told of the asked cluster. A score is at most the number of entries,
-- so it fits 32 bits. Assumes nothing.
use mathlib.Core.Path.{sym, ap, ◌∙◌}
use native.Mathlib.Omega.{arith}
use Rattle.bases.specs.Letter.{bases_of}
use Rattle.marks.specs.Marks.{told_score, clusters_of}
use Rattle.clusters.proofs.CardClusters.{clusters_plain}
use Rattle.card.proofs.ScoreLaws.{asked_score}
use Rattle.card.proofs.mark.mark_planned.Goals as goal

pub overflow_cast-score : goal.overflow_cast-score
overflow_cast-score c =
    let a = c.args in
    let r = bases_of a.lists.reference.now in
    let e = ap told_score (sym c.in-Scored.is ∙ c.mark_one.ensures.0) in
    omega (
      arith,
      e,
      asked_score r (clusters_of r a.lists.first.now a.lists.second.now) (clusters_plain r a.lists.first.now a.lists.second.now) a.cluster,
    )
