-- The call `mark_all`: what `plan` and then `mark` of each cluster leave, in one.
-- Assumes nothing: these are definitions.
use Rattle.std.specs.Prelude.{List, ℕ, eqb, length, replicate}
use Rattle.bases.specs.Letter.{bases_of}
use Rattle.bases.specs.Pick.{pick}
use Rattle.bases.specs.Put.{put}
use Rattle.clusters.specs.declared.plan.Cluster.{Cluster}
use Rattle.marks.specs.Marks.{clusters_of, all_marks, total_score}
use Rattle.clusters.specs.Plan.{plan_of}
use Rattle.card.specs.declared.all.AllMarked.{AllMarked}
use Rattle.card.specs.declared.answer.Answer.{Answer}
use Rattle.card.specs.declared.refusal.Refusal.{Refusal}
use Rattle.card.specs.Answer.{refused_answer}
use Rattle.card.specs.Mark.{small_room?}
use Rattle.card.specs.Refusal.{first_refusal, least_room, lists_checks}

-- An answer's first four numbers, the number of clusters, and the score summed over the decided ones.
abbrev pub all_marked : Answer → ℕ → ℕ → AllMarked
all_marked a clusters score =
    record { number = a.number; list = a.list; line = a.line; place = a.place; clusters = clusters; score = score }

module _ (reference name first second : List ℕ) (plan marks : ℕ) where
  -- Why nothing is marked, where so many records and marks are lent; four zeros where all is.
  abbrev pub all_refusal : Refusal
  all_refusal = first_refusal (lists_checks reference name first second (small_room? plan marks))

  -- The number of clusters and their summed score, or the refusal.
  abbrev pub all_answered : AllMarked
  all_answered =
      let r = refused_answer all_refusal in
      pick (eqb all_refusal.number 0)
      (all_marked r (length (plan_of (bases_of reference) first second))
      (total_score (bases_of reference) (clusters_of (bases_of reference) first second)))
      (all_marked r 0 0)

-- A plan of the least size, with nothing in it yet.
abbrev pub empty_plan : List Cluster
empty_plan = replicate least_room (record { first = 0; count = 0 })

module _ (reference name first second : List ℕ) (plan : List Cluster) (marks : List ℕ) where
  -- The lent records and the lent marks afterwards.
  abbrev pub all_plan : List Cluster
  all_plan = pick (eqb (all_refusal reference name first second (length plan) (length marks)).number 0)
      (put plan 0 (plan_of (bases_of reference) first second)) plan

  abbrev pub all_bytes : List ℕ
  all_bytes =
      pick (eqb (all_refusal reference name first second (length plan) (length marks)).number 0)
      (put marks 0 (all_marks (bases_of reference) (clusters_of (bases_of reference) first second)))
      marks
