-- The call `mark`, in document 01's words.
--     mark_numbered                          a row of it that holds is not numbered 0
--     mark_refused_iff, mark_answered_iff    a refusal is given exactly if its row holds and none before it in the order does; an answer
--                                            exactly if none holds
--     Asked, mark_asked                      what is so where a cluster is answered
--     mark_kept, mark_written                the marks after a refused call, and after an answered one
--     mark_lists, mark_read                  what is answered and left where the lists are turned away, and where they are read
-- Assumes nothing.
use mathlib.Core.Bool.{Bool, true, false, not}
use mathlib.Core.List.{List, [], ◌∷◌}
use mathlib.Core.Logic.{◌↔◌, ◌≢◌}
use mathlib.Core.Path.{◌≡◌, refl}
use Prim.Native.Nat.{ℕ, ◌≤◌, ◌<◌}
use native.Mathlib.Nat.{suc-ne-zero}
use borrow.Author.Tests.{eq-eqb, ne_eqb, ltb-true, ltb-false, not-false, lt-ltb}
use lib.Dec.{eqb, ltb}
use lib.ListN.{length}
use Rattle.bases.specs.Letter.{bases_of}
use Rattle.bases.specs.First.{first_told}
use Rattle.bases.specs.Pick.{pick}
use Rattle.bases.specs.Put.{put}
use Rattle.bases.specs.Reference.{is_reference?}
use Rattle.bases.proofs.TestLaws.{neither}
use Rattle.clusters.specs.declared.plan.Cluster.{Cluster}
use Rattle.clusters.specs.Lent.{is_plan?}
use Rattle.marks.specs.declared.mark.Marked.TheVariants.{NoCluster, Undecided, Scored}
use Rattle.marks.specs.Marks.{decided?, score_of, clusters_of, first_entry, cluster_at, is_cluster?, marks_of, marked_of, asked_for, marks_after}
use Rattle.clusters.specs.Plan.{plan_of}
use Rattle.donors.specs.Choice.{Variant}
use Rattle.vcf.specs.List.{judge_text}
use Rattle.card.specs.declared.refusal.Refusal.{Refusal}
use Rattle.card.specs.Answer.{answer, refused_answer, answer_of}
use Rattle.card.specs.Refusal.{refusal, no_refusal, Check, check, first_refusal, least_room, lists_checks}
use Rattle.card.specs.Mark.{UNDECIDED, mark_value, small_room?, mark_checks, mark_refusal, marked, answer_told, answer_asked, mark_after}
use Rattle.card.proofs.ListsLaws.{check_numbered, accepted_of, lists_numbered}
use Rattle.bases.proofs.FirstLaws.{NoneHolds, First}
use Rattle.card.proofs.RefusalLaws.{Numbered, none_holds, first_keeps, first_goes, refused_iff, answered_iff}

module _ (reference name first second : List ℕ) (plan : List Cluster) (k room : ℕ) where
  pub mark_numbered : Numbered (mark_checks reference name first second plan k room)
  mark_numbered = (
    λ h. suc-ne-zero 0,
    (λ h. suc-ne-zero 1, (check_numbered reference name 1 first, (check_numbered reference name 2 second, (λ h. suc-ne-zero 16, (λ h. suc-ne-zero 15, tt))))),
  )

  pub mark_refused_iff : (r : Refusal) → ((mark_refusal reference name first second plan k room ≡ r) × (r.number ≢ 0)) ↔ First r (mark_checks reference name first second plan k room)
  mark_refused_iff = refused_iff (mark_checks reference name first second plan k room) mark_numbered

  pub mark_answered_iff : (mark_refusal reference name first second plan k room ≡ no_refusal) ↔ NoneHolds (mark_checks reference name first second plan k room)
  mark_answered_iff = answered_iff (mark_checks reference name first second plan k room) mark_numbered

  -- Cluster k is answered: the reference is one, the room is enough, both lists are accepted, the plan is theirs, and there is such a
  -- cluster.
  pub record Asked : Type 0 where
    pub right : is_reference? reference ≡ true
    pub enough : least_room ≤ length plan
    pub roomy : least_room ≤ room
    pub accepted1 : (judge_text (bases_of reference) name first).number ≡ 0
    pub accepted2 : (judge_text (bases_of reference) name second).number ≡ 0
    pub planned : is_plan? (plan_of (bases_of reference) first second) plan ≡ true
    pub there : k < length (clusters_of (bases_of reference) first second)

  pub mark_asked : (mark_refusal reference name first second plan k room).number ≡ 0 → Asked
  mark_asked e =
      let none = none_holds (mark_checks reference name first second plan k room) mark_numbered e in
      let both = neither (ltb (length plan) least_room) (ltb room least_room) none.1.0 in
      record {
        right = not-false (is_reference? reference) none.0;
        enough = ltb-false (length plan) least_room both.0;
        roomy = ltb-false room least_room both.1;
        accepted1 = accepted_of reference name 1 first none.1.1.0;
        accepted2 = accepted_of reference name 2 second none.1.1.1.0;
        planned = not-false (is_plan? (plan_of (bases_of reference) first second) plan) none.1.1.1.1.0;
        there = ltb-true k (length (clusters_of (bases_of reference) first second)) (not-false (is_cluster? (clusters_of (bases_of reference) first second) k) none.1.1.1.1.1.0);
      }

module _ (reference name first second : List ℕ) (plan : List Cluster) (k : ℕ) (marks : List ℕ) where
  pub mark_kept : (mark_refusal reference name first second plan k (length marks)).number ≢ 0 → mark_after reference name first second plan k marks ≡ marks
  mark_kept n = rw (ne_eqb (mark_refusal reference name first second plan k (length marks)).number 0 n)

  pub mark_written : (mark_refusal reference name first second plan k (length marks)).number ≡ 0
      → mark_after reference name first second plan k marks
      ≡ put marks (first_entry (clusters_of (bases_of reference) first second) k) (marks_of (bases_of reference) (cluster_at (clusters_of (bases_of reference) first second) k))
  mark_written e =
      let cs = clusters_of (bases_of reference) first second in
      rw (eq-eqb (mark_refusal reference name first second plan k (length marks)).number 0 e, lt-ltb k (length cs) (mark_asked reference name first second plan k (length marks) e).there)

  -- The refusal of the lists.
  abbrev lists : Refusal
  lists = first_refusal (lists_checks reference name first second (small_room? (length plan) (length marks)))

  abbrev asks : List Check
  asks =
      check (not (is_plan? (plan_of (bases_of reference) first second) plan)) (refusal 17 0 0 0)
      ∷ check (not (is_cluster? (clusters_of (bases_of reference) first second) k)) (refusal 16 0 0 0)
      ∷ []

  pub mark_lists : (first_refusal (lists_checks reference name first second (small_room? (length plan) (length marks)))).number ≢ 0
      → (marked reference name first second plan k (length marks) ≡ refused_answer (first_refusal (lists_checks reference name first second (small_room? (length plan) (length marks)))))
      × (mark_after reference name first second plan k marks ≡ marks)
  mark_lists n =
      let e : mark_refusal reference name first second plan k (length marks) ≡ lists = first_keeps (lists_checks reference name first second (small_room? (length plan) (length marks))) asks n in
      let f = ne_eqb lists.number 0 n in
      (rw (e, f), rw (e, f))

  pub mark_read : (first_refusal (lists_checks reference name first second (small_room? (length plan) (length marks)))).number ≡ 0
      → (marked reference name first second plan k (length marks) ≡ answer_asked (is_plan? (plan_of (bases_of reference) first second) plan)
      (asked_for (bases_of reference) (clusters_of (bases_of reference) first second) k))
      × (mark_after reference name first second plan k marks ≡ pick (is_plan? (plan_of (bases_of reference) first second) plan)
      (marks_after (bases_of reference) (clusters_of (bases_of reference) first second) k marks) marks)
  unfolding first_told
  mark_read z =
      let e : mark_refusal reference name first second plan k (length marks) ≡ first_refusal asks =
      first_goes (lists_checks reference name first second (small_room? (length plan) (length marks))) asks (lists_numbered reference name first (small_room? (length plan) (length marks)) second) z in
      rw e (go (is_plan? (plan_of (bases_of reference) first second) plan) (is_cluster? (clusters_of (bases_of reference) first second) k))
    where
      c : List Variant
      c = cluster_at (clusters_of (bases_of reference) first second) k

      told : (d : Bool) (s : ℕ) → answer 0 0 0 0 (pick d s UNDECIDED) ≡ answer_told (pick d (Scored s) Undecided)
      told true s = refl
      told false s = refl

      go : (s t : Bool)
          → (answer_of (pick (not s) (refusal 17 0 0 0) (pick (not t) (refusal 16 0 0 0) no_refusal)) (mark_value (bases_of reference) c)
          ≡ answer_asked s (pick t (marked_of (bases_of reference) c) NoCluster))
          × (pick (eqb (pick (not s) (refusal 17 0 0 0) (pick (not t) (refusal 16 0 0 0) no_refusal)).number 0)
          (pick t (put marks (first_entry (clusters_of (bases_of reference) first second) k) (marks_of (bases_of reference) c)) marks) marks
          ≡ pick s (pick t (put marks (first_entry (clusters_of (bases_of reference) first second) k) (marks_of (bases_of reference) c)) marks) marks)
      go true true = (told (decided? c) (score_of (bases_of reference) c), refl)
      go true false = (refl, refl)
      go false t = (refl, refl)
