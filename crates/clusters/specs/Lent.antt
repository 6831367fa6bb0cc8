-- The plan as records that are given: are they the plan of these lists? Document 01: only the first records, as many as there are clusters,
-- are judged.
-- Assumes nothing: these are definitions.
use Rattle.std.specs.Prelude.{Bool, true, false, ◌&&◌, List, [], ◌∷◌, eqb}
use Rattle.clusters.specs.declared.plan.Cluster.{Cluster}

-- The same cluster.
abbrev pub same_cluster? : Cluster → Cluster → Bool
same_cluster? c d = eqb c.first d.first && eqb c.count d.count

-- The records given begin with the plan's.
unfoldable pub is_plan? : List Cluster → List Cluster → Bool
is_plan? [] given = true
is_plan? (c ∷ cs) [] = false
is_plan? (c ∷ cs) (d ∷ given) = same_cluster? c d && is_plan? cs given
