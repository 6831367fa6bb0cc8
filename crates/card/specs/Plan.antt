-- The call `plan`: what it answers, and the lent records afterwards.
-- Assumes nothing: these are definitions.
use Rattle.std.specs.Prelude.{List, ℕ, eqb, ltb, length}
use Rattle.bases.specs.Letter.{bases_of}
use Rattle.bases.specs.Pick.{pick}
use Rattle.bases.specs.Put.{put}
use Rattle.clusters.specs.declared.plan.Cluster.{Cluster}
use Rattle.clusters.specs.Plan.{plan_of}
use Rattle.card.specs.declared.answer.Answer.{Answer}
use Rattle.card.specs.declared.refusal.Refusal.{Refusal}
use Rattle.card.specs.Answer.{answer_of}
use Rattle.card.specs.Refusal.{first_refusal, least_room, lists_checks}

module _ (reference name first second : List ℕ) (room : ℕ) where
  -- Why there is no plan; four zeros where there is.
  abbrev pub plan_refusal : Refusal
  plan_refusal = first_refusal (lists_checks reference name first second (ltb room least_room))

  -- The number of clusters, or the refusal.
  abbrev pub planned : Answer
  planned = answer_of plan_refusal (length (plan_of (bases_of reference) first second))

-- The lent records afterwards: the plan is written into the first of them, one a cluster.
abbrev pub plan_after : List ℕ → List ℕ → List ℕ → List ℕ → List Cluster → List Cluster
plan_after reference name first second plan =
    pick (eqb (plan_refusal reference name first second (length plan)).number 0)
    (put plan 0 (plan_of (bases_of reference) first second))
    plan
