-- What making the text leans on.
-- Assumes nothing: these are definitions.
use Rattle.std.specs.Prelude.{List, ◌≡◌, ℕ, ◌≤◌, length, take}
use Rattle.marks.specs.Counts.{most_entries}
use Rattle.clusters.specs.Heads.{Readable, start_heads}
use Rattle.listed.specs.Listed.{numbers_from}
use Rattle.clusters.specs.Merged.{merged_items}
use Rattle.lines.specs.Lines.{largest_number}
use Rattle.told.specs.declared.marked.Marked.{Marked}

-- The records of both lists can be read; the plan's first records, as many as there are clusters, give each entry a cluster's number; each
-- entry has a mark; and the score can be printed.
pub record Makes (first second : List ℕ) (m : Marked) (marks : List ℕ) : Type 0 where
  pub readable : Readable first second (start_heads first second)
  pub few_clusters : m.clusters ≤ most_entries
  pub numbered : length (numbers_from 0 (take m.clusters m.plan)) ≡ length (merged_items first second)
  pub few_entries : length (merged_items first second) ≤ most_entries
  pub marked : length (merged_items first second) ≤ length marks
  pub printable : m.score ≤ largest_number
