-- What making the text asks, of two accepted lists with their plan, their marks and their score.
--     accepted_makes                it can be made
-- Assumes nothing.
use mathlib.Core.List.{List}
use mathlib.Core.Path.{◌≡◌}
use Prim.Native.Nat.{ℕ, ◌≤◌}
use native.Mathlib.Omega.{arith}
use lib.ListN.{length, take}
use Rattle.card.proofs.ReadyLaws.{Answerable}
use Rattle.clusters.specs.Heads.{start_heads}
use Rattle.marks.specs.Marks.{clusters_of, total_score}
use Rattle.clusters.specs.Merged.{merged_items}
use Rattle.clusters.specs.Plan.{plan_of}
use Rattle.clusters.proofs.HeadsLaws.{ready_readable}
use Rattle.listed.proofs.NumberLaws.{numbers_all}
use Rattle.compare.specs.Makes.{Makes}
use Rattle.told.specs.declared.marked.Marked.{Marked}

module _ (reference first second : List ℕ) where
  pub accepted_makes : Answerable reference first second → (m : Marked) (marks : List ℕ)
      → m.clusters ≡ length (plan_of reference first second) → take m.clusters m.plan ≡ plan_of reference first second → length (merged_items first second) ≤ length marks
      → m.score ≡ total_score reference (clusters_of reference first second) → Makes first second m marks
  accepted_makes a m marks n p l s =
      record {
        readable = ready_readable reference first second (start_heads first second) a.ready;
        few_clusters = omega (arith, n, a.clusters);
        numbered = rw p (numbers_all reference first second);
        few_entries = a.entries;
        marked = l;
        printable = omega (arith, s, a.score);
      }
