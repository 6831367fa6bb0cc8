-- The loop of `clusters::plan::is_plan`: the records given are the plan's where those that are left are the ones that are left.
use Rattle.std.proofs.Common.{◌≡◌, ◌≤◌, length}
use Rattle.std.specs.Iterator.Adapters.{zip_first, zip_second}
use Rattle.std.specs.Slice.Iter.{iter_rest}
use Rattle.bases.specs.Letter.{bases_of}
use Rattle.clusters.specs.Lent.{is_plan?}
use Rattle.clusters.specs.Plan.{plan_of}
use Rattle.clusters.specs.Walk.{clusters_left}
use Rattle.clusters.proofs.plan.is_plan.Given as goal

abbrev pub invariant-loop-cluster : goal.invariant-loop-cluster
invariant-loop-cluster l =
    let left = clusters_left (zip_first l.cluster-iterator) in
    let given = iter_rest (zip_second l.cluster-iterator) in
    (goal.iterator-loop-cluster).can_next l.cluster-iterator
    × (goal.iterator-loop-cluster).is_finite l.cluster-iterator
    × (length left ≤ length given)
    × (is_plan? left given ≡ is_plan? (plan_of (bases_of l.lists.reference.now) l.lists.first.now l.lists.second.now) l.plan)
