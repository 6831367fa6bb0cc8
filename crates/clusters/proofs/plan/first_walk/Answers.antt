-- `clusters::plan::first_walk` meets its contract. Assumes nothing.
use Rattle.bases.specs.Letter.{bases_of}
use Rattle.clusters.proofs.NextLaws.{start_fits}
use Rattle.clusters.proofs.plan.first_walk.Goals as goal

pub walk_from-requires : goal.walk_from-requires
walk_from-requires c =
    rw c.start_heads.ensures (c.requires, start_fits (bases_of c.args.reference.now) c.args.first.now c.args.second.now c.requires)
