-- `clusters::cluster::next_cluster` meets its contract. The loop's invariant: behind `count` entries of the cluster, how many more it
-- has is how many it has behind its first (`Walked`, of ClusterLaws). The measure is the number of entries that are left. Assumes
-- nothing.
use lib.ListN.{length}
use Rattle.bases.specs.Letter.{bases_of}
use Rattle.clusters.specs.Heads.{items_from}
use Rattle.clusters.proofs.ClusterLaws.{Walked}
use Rattle.clusters.proofs.cluster.next_cluster.Given as goal

abbrev pub invariant-loop-current : goal.invariant-loop-current
invariant-loop-current l = Walked (bases_of l.reference) l.first l.second l.initial.current l.initial.at l.current l.at l.count

abbrev pub decreases-loop-current : goal.decreases-loop-current
decreases-loop-current l = length (items_from l.first l.second l.at)
