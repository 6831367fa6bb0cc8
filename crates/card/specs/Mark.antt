-- The call `mark`: what it answers, and the lent marks afterwards.
-- Assumes nothing: these are definitions.
use Rattle.std.specs.Prelude.{Bool, not, ◌||◌, List, [], ◌∷◌, ◌++◌, ℕ, eqb, ltb, length}
use Rattle.bases.specs.Letter.{bases_of}
use Rattle.bases.specs.Pick.{pick}
use Rattle.marks.specs.declared.mark.Marked.{Marked}
use Rattle.marks.specs.declared.mark.Marked.TheVariants.{NoCluster, Undecided, Scored}
use Rattle.clusters.specs.declared.plan.Cluster.{Cluster}
use Rattle.clusters.specs.Lent.{is_plan?}
use Rattle.marks.specs.Marks.{decided?, score_of, clusters_of, cluster_at, is_cluster?, marks_after}
use Rattle.clusters.specs.Plan.{plan_of}
use Rattle.donors.specs.Choice.{Variant}
use Rattle.card.specs.declared.answer.Answer.{Answer}
use Rattle.card.specs.declared.refusal.Refusal.{Refusal}
use Rattle.card.specs.Answer.{answer, answer_of}
use Rattle.card.specs.Refusal.{refusal, Check, check, first_refusal, least_room, lists_checks}

-- The value that says that the asked cluster is undecided. No score is as large.
abbrev pub UNDECIDED : ℕ
UNDECIDED = 4294967295

-- The score of a cluster, or that it is undecided.
abbrev pub mark_value : List ℕ → List Variant → ℕ
mark_value reference c = pick (decided? c) (score_of reference c) UNDECIDED

-- Row 2: the plan or the marks are too small.
abbrev pub small_room? : ℕ → ℕ → Bool
small_room? plan marks = ltb plan least_room || ltb marks least_room

module _ (reference name first second : List ℕ) (plan : List Cluster) (k room : ℕ) where
  -- The rows in their order: 1; 2; list 1; list 2; 17; 16.
  abbrev pub mark_checks : List Check
  mark_checks =
      lists_checks reference name first second (small_room? (length plan) room)
      ++ (check (not (is_plan? (plan_of (bases_of reference) first second) plan)) (refusal 17 0 0 0)
      ∷ check (not (is_cluster? (clusters_of (bases_of reference) first second) k)) (refusal 16 0 0 0)
      ∷ [])

  -- Why cluster k is not marked, where so many marks are lent; four zeros where it is.
  abbrev pub mark_refusal : Refusal
  mark_refusal = first_refusal mark_checks

  -- The score of cluster k, or that it is undecided, or the refusal.
  abbrev pub marked : Answer
  marked = answer_of mark_refusal (mark_value (bases_of reference) (cluster_at (clusters_of (bases_of reference) first second) k))

-- What is answered for what was told of the asked cluster,
abbrev pub answer_told : Marked → Answer
answer_told NoCluster = answer 16 0 0 0 0
answer_told Undecided = answer 0 0 0 0 UNDECIDED
answer_told (Scored s) = answer 0 0 0 0 s

-- and what is answered where both lists are read: is the plan given theirs?
abbrev pub answer_asked : Bool → Marked → Answer
answer_asked same m = pick same (answer_told m) (answer 17 0 0 0 0)

-- The lent marks afterwards: those of the cluster's entries are written.
abbrev pub mark_after : List ℕ → List ℕ → List ℕ → List ℕ → List Cluster → ℕ → List ℕ → List ℕ
mark_after reference name first second plan k marks =
    pick (eqb (mark_refusal reference name first second plan k (length marks)).number 0)
    (marks_after (bases_of reference) (clusters_of (bases_of reference) first second) k marks)
    marks
