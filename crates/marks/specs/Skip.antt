-- A walk from cluster to cluster.
-- Assumes nothing: these are definitions.
use Rattle.std.specs.Prelude.{List, ℕ, zero, suc, ◌+◌}
use Rattle.bases.specs.Pick.{pick}
use Rattle.marks.specs.declared.skip.Skipped.{Skipped}
use Rattle.clusters.specs.declared.heads.Heads.{Heads}
use Rattle.clusters.specs.Heads.{done?, first_count, found_at}

-- Where the cursors are, and how many entries are before them.
abbrev pub skipped : Heads → ℕ → Skipped
skipped h i = record { heads = h; entries = i }

module _ (reference first second : List ℕ) where
  -- Behind the next k clusters, from cursors before which there are i entries; where there are fewer clusters, behind the last.
  unfoldable pub skip_clusters : ℕ → Heads → ℕ → Skipped
  skip_clusters zero h i = skipped h i
  skip_clusters (suc k) h i =
      let behind = skip_clusters k (found_at reference first second h).heads (i + first_count reference first second h) in
      pick (done? first second h) (skipped h i) behind
