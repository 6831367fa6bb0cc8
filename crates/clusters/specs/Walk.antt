-- The walk from cluster to cluster over two texts: each step has the next cluster's record and the cursors behind it.
-- Assumes nothing: these are definitions.
use Rattle.std.specs.Prelude.{not, List, ℕ, ◌+◌, ◌<◌, ◌^◌, length}
use Rattle.bases.specs.Letter.{bases_of}
use Rattle.clusters.specs.declared.heads.Heads.{Heads}
use Rattle.clusters.specs.declared.plan.Cluster.{Cluster}
use Rattle.clusters.specs.declared.plan.Clusters.{Clusters}
use Rattle.clusters.specs.declared.plan.Walk.{Walk}
use Rattle.clusters.specs.Heads.{Ready, start_heads, items_from, done?, variants_from, first_count, found_at}
use Rattle.clusters.specs.Plan.{records_from, card_plan}

module _ (reference first second : List ℕ) where
  -- The step at the cursors, whose next entry is entry i. Where none is left, the record has no entry and the cursors stay.
  abbrev pub walk_from : ℕ → Heads → Walk
  walk_from i h = record {
    more = not (done? first second h);
    cluster = record { first = i; count = first_count reference first second h };
    heads = (found_at reference first second h).heads;
  }

  -- The first step.
  abbrev pub first_walk : Walk
  first_walk = walk_from 0 (start_heads first second)

  -- The step behind one.
  abbrev pub next_walk : Walk → Walk
  next_walk w = walk_from (w.cluster.first + w.cluster.count) w.heads

-- What a walk over the clusters leans on: the entries from its cursors on can be read, and can be counted in 32 bits.
pub record Walks (w : Clusters) : Type 0 where
  pub ready : Ready (bases_of w.lists.reference.now) w.lists.first.now w.lists.second.now w.heads
  pub few : w.entry + length (items_from w.lists.first.now w.lists.second.now w.heads) < 2 ^ 32

-- The records of the clusters that are left.
abbrev pub clusters_left : Clusters → List Cluster
clusters_left w =
    records_from w.entry
    (card_plan (bases_of w.lists.reference.now)
    (variants_from (bases_of w.lists.reference.now) w.lists.first.now w.lists.second.now w.heads))
