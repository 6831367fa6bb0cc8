-- The loop of `clusters::plan::fill_plan`: what is still to be written gives all records of the plan.
use Rattle.bases.specs.Letter.{bases_of}
use Rattle.clusters.specs.Plan.{plan_of}
use Rattle.clusters.specs.Walk.{clusters_left}
use Rattle.clusters.proofs.Filling.{Filling}
use Rattle.clusters.proofs.plan.fill_plan.Given as goal

abbrev pub invariant-loop-cluster : goal.invariant-loop-cluster
invariant-loop-cluster l =
    (goal.iterator-loop-cluster).can_next l.cluster-iterator
    × (goal.iterator-loop-cluster).is_finite l.cluster-iterator
    × Filling (plan_of (bases_of l.lists.reference.now) l.lists.first.now l.lists.second.now) l.fn.plan (clusters_left l.cluster-iterator) l.k l.plan
