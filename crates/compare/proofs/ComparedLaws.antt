-- What is printed for two accepted lists.
--     accepted_text_lem    the text made of the lent plan and marks is that of the lists
-- Assumes nothing.
use mathlib.Core.List.{List, ◌++◌}
use mathlib.Core.Path.{◌≡◌}
use Prim.Native.Nat.{ℕ}
use native.Mathlib.Omega.{arith}
use Rattle.card.proofs.ClusterMarks.{marks_all}
use Rattle.clusters.specs.declared.plan.Cluster.{Cluster}
use Rattle.marks.specs.Marks.{clusters_of, all_marks, total_score}
use Rattle.clusters.specs.Merged.{merged_items}
use Rattle.clusters.specs.Plan.{plan_of}
use Rattle.vcf.specs.List.{judge_text}
use Rattle.compare.specs.Compared.{accepted_text}
use Rattle.compare.specs.Printed.{printed_text}
use Rattle.compare.proofs.TextLaws.{text_marks}

module _ (reference name first second : List ℕ) (accepted1 : (judge_text reference name first).number ≡ 0) (accepted2 : (judge_text reference name second).number ≡ 0) where
  pub accepted_text_lem : (plan : List Cluster) (marks more : List ℕ) (score : ℕ)
      → plan ≡ plan_of reference first second → marks ≡ all_marks reference (clusters_of reference first second) ++ more → score ≡ total_score reference (clusters_of reference first second)
      → printed_text plan (merged_items first second) marks score ≡ accepted_text reference first second
  accepted_text_lem plan marks more score p m s =
      rw (p, m, s)
      (text_marks (plan_of reference first second) (merged_items first second) (all_marks reference (clusters_of reference first second)) more (total_score reference (clusters_of reference first second))
      (omega (arith, marks_all reference name first second accepted1 accepted2)))
