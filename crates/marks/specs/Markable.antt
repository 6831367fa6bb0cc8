-- What it takes to mark clusters.
-- Assumes nothing: these are definitions.
use Rattle.std.specs.Prelude.{List, ℕ, ◌≤◌, length}
use Rattle.bases.specs.Reference.{longest_reference}
use Rattle.clusters.specs.declared.heads.Heads.{Heads}
use Rattle.clusters.specs.Heads.{Ready}

-- The entries from the cursors on can be read, and the reference is no longer than one may be: so their numbers fit into a table.
pub record Markable (reference first second : List ℕ) (h : Heads) : Type 0 where
  pub ready : Ready reference first second h
  pub short : length reference ≤ longest_reference
