-- `mark_all` leaves what `plan` and then `mark` of each cluster leave.
--     all_refused, all_given      what is answered and left, by the refusal
--     all_roomy                   where it is answered there is a mark for every entry
--     begins_itself               the plan that is written is the plan
--     one_by_one, all_of_them     asked for one by one, the clusters' marks are those that `mark_all` writes
-- Assumes nothing.
use mathlib.Core.Bool.{true}
use mathlib.Core.List.{List, [], ◌∷◌, ◌++◌, map}
use mathlib.Core.Logic.{◌≢◌}
use mathlib.Core.Path.{◌≡◌, refl, sym, ap, ◌∙◌}
use Prim.Native.Nat.{ℕ, zero, suc, ◌+◌, ◌≤◌}
use native.Mathlib.Nat.{zero-add}
use native.Mathlib.Omega.{arith}
use borrow.Author.Tests.{eq-eqb, ne_eqb, lt-ltb, ltb-false}
use lib.Dec.{ltb}
use lib.ListN.{length, take, drop}
use lib.Seq.{take-length}
use Rattle.bases.specs.Letter.{bases_of}
use Rattle.bases.specs.Put.{put}
use Rattle.bases.proofs.PutLaws.{put_none, put_put, put_length}
use Rattle.bases.proofs.TestLaws.{neither}
use Rattle.clusters.specs.declared.plan.Cluster.{Cluster}
use Rattle.clusters.specs.Lent.{is_plan?}
use Rattle.marks.specs.Marks.{marks_of, clusters_of, cluster_at, first_entry, all_marks, total_score}
use Rattle.clusters.specs.Plan.{plan_of}
use Rattle.clusters.proofs.JoinLaws.{first_within, join_more, join_long}
use Rattle.donors.specs.Choice.{Variant}
use Rattle.matching.specs.Cut.{join}
use Rattle.vcf.specs.List.{judge_text}
use Rattle.card.specs.All.{all_marked, all_refusal, all_answered, all_plan, all_bytes}
use Rattle.card.specs.Answer.{refused_answer}
use Rattle.card.specs.Mark.{small_room?, mark_after}
use Rattle.card.specs.Refusal.{least_room}
use Rattle.card.proofs.ClusterMarks.{marks_long, marks_none, whole_long, entries_most, plan_few}
use Rattle.card.proofs.ListsLaws.{lists_read}
use Rattle.card.proofs.MarkLaws.{mark_read}

pub begins_itself : (p rest : List Cluster) → is_plan? p (p ++ rest) ≡ true
unfolding is_plan?
begins_itself [] rest = refl
begins_itself (c ∷ p) rest = rw (eq-eqb c.first c.first refl, eq-eqb c.count c.count refl) (begins_itself p rest)

module _ (reference name first second : List ℕ) (plan : List Cluster) (marks : List ℕ) where
  pub all_refused : (all_refusal reference name first second (length plan) (length marks)).number ≢ 0
      → (all_answered reference name first second (length plan) (length marks) ≡ all_marked (refused_answer (all_refusal reference name first second (length plan) (length marks))) 0 0)
      × (all_plan reference name first second plan marks ≡ plan)
      × (all_bytes reference name first second plan marks ≡ marks)
  all_refused n =
      let e = ne_eqb (all_refusal reference name first second (length plan) (length marks)).number 0 n in
      (rw e, rw e, rw e)

  module _ (z : (all_refusal reference name first second (length plan) (length marks)).number ≡ 0) where
    abbrev cs : List (List Variant)
    cs = clusters_of (bases_of reference) first second

    pub all_given : (all_answered reference name first second (length plan) (length marks)
        ≡ all_marked (refused_answer (all_refusal reference name first second (length plan) (length marks)))
        (length (plan_of (bases_of reference) first second)) (total_score (bases_of reference) (clusters_of (bases_of reference) first second)))
        × (all_plan reference name first second plan marks ≡ put plan 0 (plan_of (bases_of reference) first second))
        × (all_bytes reference name first second plan marks ≡ put marks 0 (all_marks (bases_of reference) (clusters_of (bases_of reference) first second)))
    all_given =
        let e = eq-eqb (all_refusal reference name first second (length plan) (length marks)).number 0 z in
        (rw e, rw e, rw e)

    read1 : (judge_text (bases_of reference) name first).number ≡ 0
    read1 = (lists_read reference name first (small_room? (length plan) (length marks)) second z).0.accepted

    read2 : (judge_text (bases_of reference) name second).number ≡ 0
    read2 = (lists_read reference name first (small_room? (length plan) (length marks)) second z).1

    -- The marks after the first n clusters were asked for, one after the other, with the plan that is left.
    pub up_to : ℕ → List ℕ
    up_to zero = marks
    up_to (suc n) = mark_after reference name first second (put plan 0 (plan_of (bases_of reference) first second)) n (up_to n)

    -- the marks of the first n clusters
    abbrev these : ℕ → List ℕ
    these n = join (map (marks_of (bases_of reference)) (take n (clusters_of (bases_of reference) first second)))

    pub all_roomy : least_room ≤ length marks
    all_roomy =
        let small = (lists_read reference name first (small_room? (length plan) (length marks)) second z).0.roomy in
        ltb-false (length marks) least_room (neither (ltb (length plan) least_room) (ltb (length marks) least_room) small).1

    plan_long : length (put plan 0 (plan_of (bases_of reference) first second)) ≡ length plan
    plan_long = put_length plan 0 (omega arith) (plan_of (bases_of reference) first second) (omega (arith, plan_few (bases_of reference) name first second read1 read2, enough))
      where
        enough : least_room ≤ length plan
        enough =
            let small = (lists_read reference name first (small_room? (length plan) (length marks)) second z).0.roomy in
            ltb-false (length plan) least_room (neither (ltb (length plan) least_room) (ltb (length marks) least_room) small).0

    within : (n : ℕ) → length (these n) ≤ least_room
    within n =
        omega (
          arith,
          join_long (marks_of (bases_of reference)) (marks_long (bases_of reference)) (marks_none (bases_of reference)) cs n,
          first_within cs n,
          whole_long (bases_of reference) name first second read1 read2,
          entries_most (bases_of reference) name first second read1 read2,
        )

    -- asked for one by one
    pub one_by_one : (n : ℕ) → n ≤ length (clusters_of (bases_of reference) first second) → up_to n ≡ put marks 0
        (join (map (marks_of (bases_of reference)) (take n (clusters_of (bases_of reference) first second))))
    unfolding up_to join
    one_by_one zero h = sym (put_none marks 0)
    one_by_one (suc n) h =
        let before = one_by_one n (omega arith) in
        let same : length (put marks 0 (these n)) ≡ length marks = put_length marks 0 (omega arith) (these n) (omega (arith, within n, all_roomy)) in
        let z' : (all_refusal reference name first second (length (put plan 0 (plan_of (bases_of reference) first second))) (length (put marks 0 (these n)))).number ≡ 0 = rw (same, plan_long) z in
        let step = (mark_read reference name first second (put plan 0 (plan_of (bases_of reference) first second)) n (put marks 0 (these n)) z').1 in
        let first-n : first_entry cs n ≡ 0 + length (these n) = sym
        (zero-add (length (these n)) ∙ join_long (marks_of (bases_of reference)) (marks_long (bases_of reference)) (marks_none (bases_of reference)) cs n) in
        ap (mark_after reference name first second (put plan 0 (plan_of (bases_of reference) first second)) n) before
        ∙ step
        ∙ rw (begins_itself (plan_of (bases_of reference) first second) (drop (0 + length (plan_of (bases_of reference) first second)) plan), lt-ltb n (length cs) (omega arith), first-n)
        (put_put marks 0 (omega arith) (these n) (marks_of (bases_of reference) (cluster_at cs n))
        ∙ ap (put marks 0) (sym (join_more (marks_of (bases_of reference)) (marks_long (bases_of reference)) (marks_none (bases_of reference)) cs n (omega arith))))

    pub all_of_them : up_to (length (clusters_of (bases_of reference) first second)) ≡ all_bytes reference name first second plan marks
    all_of_them =
        one_by_one (length cs) (omega arith)
        ∙ ap (λ (l : List (List Variant)). put marks 0 (join (map (marks_of (bases_of reference)) l))) (take-length cs)
        ∙ sym all_given.2
