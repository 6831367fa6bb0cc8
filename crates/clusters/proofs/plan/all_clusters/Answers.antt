-- `clusters::plan::all_clusters` meets its contract. Assumes nothing.
use Rattle.std.proofs.Common.{refl}
use Rattle.clusters.proofs.NextLaws.{start_fits}
use Rattle.clusters.proofs.plan.all_clusters.Goals as goal

pub returns : goal.returns
returns c =
    let l = c.args.lists in
    rw c.start_heads.ensures (record { ready = l.ready; few = start_fits _ l.first.now l.second.now l.ready }, refl)
