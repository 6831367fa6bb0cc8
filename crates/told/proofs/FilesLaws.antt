-- What marking a run's files answers and leaves.
--     open_files, closed_files          by whether the reference file ends in LF
--     Tells, files_tell                 the answer's four numbers are the refusal's
--     accepted_files, files_answerable  where they are zeros, both lists are accepted, and walks over them can begin
--     files_clusters, files_score, files_plan_lem, files_marks_lem
--                                       and the answer, the plan and the marks are those of the lists
--     files_marked                      each entry has a mark
--     told_err, told_ok                 what `mark_files` tells, read back: the refusal, which can be printed and is what is told; or that nothing is
--                                       turned away
--     told_clusters, told_score, told_plan
--                                       and then the number of clusters, the score and the plan are those of the lists
-- Assumes nothing.
use mathlib.Core.Bool.{Bool, true, false}
use mathlib.Core.List.{List, ◌++◌}
use mathlib.Core.Logic.{◌≢◌}
use mathlib.Core.Path.{◌≡◌, refl, sym, ap, subst, ◌∙◌}
use Prim.Native.Nat.{ℕ, ◌+◌, ◌≤◌}
use native.Mathlib.Omega.{arith}
use borrow.Author.Tests.{eq-eqb, eqb-true, eqb-false}
use lib.Dec.{eqb}
use lib.ListN.{length, take, drop, length-append, length-replicate}
use lib.Seq.{take-append_seam}
use Rattle.std.specs.Prelude.{Result, Ok, Err, MatchResult}
use Rattle.bases.specs.Letter.{bases_of}
use Rattle.bases.specs.Pick.{pick}
use Rattle.bases.specs.Put.{put}
use Rattle.card.specs.declared.all.AllMarked.{AllMarked}
use Rattle.card.specs.declared.answer.Answer.{Answer}
use Rattle.card.specs.declared.refusal.Refusal.{Refusal}
use Rattle.card.specs.All.{all_marked, all_refusal, all_answered, empty_plan, all_plan, all_bytes}
use Rattle.card.specs.Answer.{answer, refused_answer}
use Rattle.card.specs.Refusal.{refusal, first_refusal, least_room, lists_checks}
use Rattle.card.proofs.ClusterMarks.{marks_all}
use Rattle.card.proofs.ListsLaws.{lists_read}
use Rattle.card.proofs.ReadyLaws.{Answerable, lists_answerable}
use Rattle.clusters.specs.declared.plan.Cluster.{Cluster}
use Rattle.marks.specs.Marks.{clusters_of, all_marks, total_score}
use Rattle.clusters.specs.Merged.{merged_items}
use Rattle.clusters.specs.Plan.{plan_of}
use Rattle.files.specs.File.{ends_in_lf?, reference_in}
use Rattle.lines.specs.Lines.{refused_text}
use Rattle.vcf.specs.List.{judge_text}
use Rattle.told.specs.declared.marked.Marked.{Marked}
use Rattle.told.specs.Files.{refusal_of, files_answered, files_plan, files_told, files_marks}
use Rattle.told.specs.Told.{told_text, Printable}
use Rattle.told.proofs.PrintableLaws.{lists_printable}
use Rattle.told.proofs.ToldLaws.{file_open, file_past, file_ends, told_refused, Numbers, answer_numbers}

empty_long : length empty_plan ≡ least_room
empty_long = length-replicate {A = Cluster} least_room (record { first = 0; count = 0 })

module _ (file name first second marks : List ℕ) where
  pub open_files : ends_in_lf? file ≡ false
      → (files_answered file name first second marks ≡ all_marked (answer 1 0 0 0 0) 0 0) × (files_plan file name first second marks ≡ empty_plan) × (files_marks file name first second marks ≡ marks)
  open_files e = (rw e, rw e, rw e)

  pub closed_files : ends_in_lf? file ≡ true
      → (files_answered file name first second marks ≡ all_answered (reference_in file) name first second least_room (length marks))
      × (files_plan file name first second marks ≡ all_plan (reference_in file) name first second empty_plan marks)
      × (files_marks file name first second marks ≡ all_bytes (reference_in file) name first second empty_plan marks)
  closed_files e = (rw e, rw e, rw e)

-- The four numbers of an answer are those of a refusal.
abbrev pub Tells : AllMarked → Refusal → Type 0
Tells a r = Numbers a.number a.list a.line a.place r

module _ (file name first second : List ℕ) (z : (refusal_of file name first second).number ≡ 0) where
  -- the refusal of the call on the bases of the file
  call_zero : (first_refusal (lists_checks (reference_in file) name first second false)).number ≡ 0
  call_zero =
      let checks = lists_checks (reference_in file) name first second false in
      sym (ap (λ (x : Refusal). x.number) (file_past file checks (file_ends file checks z))) ∙ z

  pub accepted_files : ((judge_text (bases_of (reference_in file)) name first).number ≡ 0) × ((judge_text (bases_of (reference_in file)) name second).number ≡ 0)
  accepted_files = let read = lists_read (reference_in file) name first false second call_zero in (read.0.accepted, read.1)

  pub files_answerable : Answerable (bases_of (reference_in file)) first second
  files_answerable = (lists_answerable (reference_in file) name first second false call_zero).0

module _ (file name first second before : List ℕ) (long : length before ≡ least_room) where
  abbrev r : List ℕ
  r = reference_in file

  abbrev called : Refusal
  called = all_refusal r name first second least_room (length before)

  -- where the file ends in LF, the refusal is that of the call
  same : ends_in_lf? file ≡ true → called ≡ refusal_of file name first second
  same e = rw long (sym (file_past file (lists_checks r name first second false) e))

  -- the answer's four numbers, whether it is a refusal or not
  four : (t : Bool) (a : Answer) (n s : ℕ) (q : Refusal) → a ≡ refused_answer q → Tells (pick t (all_marked a n s) (all_marked a 0 0)) q
  four true a n s q e = answer_numbers a q e
  four false a n s q e = answer_numbers a q e

  pub files_tell : Tells (files_answered file name first second before) (refusal_of file name first second)
  files_tell = by_end (ends_in_lf? file) refl
    where
      by_end : (t : Bool) → ends_in_lf? file ≡ t → Tells (files_answered file name first second before) (refusal_of file name first second)
      by_end true e =
          rw (closed_files file name first second before e).0
          (four (eqb called.number 0) (refused_answer called) (length (plan_of (bases_of r) first second)) (total_score (bases_of r) (clusters_of (bases_of r) first second))
          (refusal_of file name first second)
          (ap refused_answer (same e)))
      by_end false e =
          let q = file_open file (lists_checks r name first second false) e in
          rw ((open_files file name first second before e).0, q) (record { same_number = refl; same_list = refl; same_line = refl; same_place = refl })

  module _ (z : (refusal_of file name first second).number ≡ 0) where
    ends : ends_in_lf? file ≡ true
    ends = file_ends file (lists_checks r name first second false) z

    none : eqb called.number 0 ≡ true
    none = eq-eqb _ 0 (ap (λ (x : Refusal). x.number) (same ends) ∙ z)

    pub files_clusters : (files_answered file name first second before).clusters ≡ length (plan_of (bases_of (reference_in file)) first second)
    files_clusters = ap (λ (a : AllMarked). a.clusters) (closed_files file name first second before ends).0 ∙ rw none

    pub files_score : (files_answered file name first second before).score ≡ total_score (bases_of (reference_in file)) (clusters_of (bases_of (reference_in file)) first second)
    files_score = ap (λ (a : AllMarked). a.score) (closed_files file name first second before ends).0 ∙ rw none

    pub files_plan_lem : take (files_answered file name first second before).clusters (files_plan file name first second before) ≡ plan_of (bases_of (reference_in file)) first second
    files_plan_lem =
        let wrote : files_plan file name first second before ≡ put empty_plan 0 (plan_of (bases_of r) first second) = (closed_files file name first second before ends).1 ∙ rw (empty_long, none) in
        rw (files_clusters, wrote) (take-append_seam (plan_of (bases_of r) first second) (drop (0 + length (plan_of (bases_of r) first second)) empty_plan))

    pub files_marks_lem : files_marks file name first second before
        ≡ all_marks (bases_of (reference_in file)) (clusters_of (bases_of (reference_in file)) first second) ++ drop
        (0 + length (all_marks (bases_of (reference_in file)) (clusters_of (bases_of (reference_in file)) first second))) before
    files_marks_lem = (closed_files file name first second before ends).2 ∙ rw (empty_long, none)

    pub files_marked : length (merged_items first second) ≤ length (files_marks file name first second before)
    files_marked =
        let own = all_marks (bases_of r) (clusters_of (bases_of r) first second) in
        let accepted = accepted_files file name first second z in
        omega (
          arith,
          ap length files_marks_lem,
          length-append own (drop (0 + length own) before),
          marks_all (bases_of r) name first second accepted.0 accepted.1,
        )

  -- what is answered and planned, as a Result
  abbrev answered : AllMarked
  answered = files_answered file name first second before

  abbrev marked : Marked
  marked = record { clusters = answered.clusters; score = answered.score; plan = files_plan file name first second before }

  abbrev turned_away : Refusal
  turned_away = refusal answered.number answered.list answered.line answered.place

  away_same : turned_away ≡ refusal_of file name first second
  away_same = let t = files_tell in λ i. record { number = t.same_number i; list = t.same_list i; line = t.same_line i; place = t.same_place i }

  is_err : (q : Refusal) → Err q ≡ files_told file name first second before → (q ≡ turned_away) × (answered.number ≢ 0)
  is_err q = go (eqb answered.number 0) refl
    where
      Same : Result Marked Refusal → Type 0
      Same r = MatchResult r (λ _. ⊥) (λ d. q ≡ d)

      go : (t : Bool) → eqb answered.number 0 ≡ t → ◌≡◌ {A = Result Marked Refusal} (Err q) (pick t (Ok marked) (Err turned_away)) → (q ≡ turned_away) × (answered.number ≢ 0)
      go true z h = absurd (subst Same h refl)
      go false z h = (subst Same h refl, eqb-false answered.number 0 z)

  is_ok : (m : Marked) → Ok m ≡ files_told file name first second before → (answered.number ≡ 0) × (m ≡ marked)
  is_ok m = go (eqb answered.number 0) refl
    where
      Same : Result Marked Refusal → Type 0
      Same r = MatchResult r (λ d. m ≡ d) (λ _. ⊥)

      go : (t : Bool) → eqb answered.number 0 ≡ t → ◌≡◌ {A = Result Marked Refusal} (Ok m) (pick t (Ok marked) (Err turned_away)) → (answered.number ≡ 0) × (m ≡ marked)
      go true z h = (eqb-true answered.number 0 z, subst Same h refl)
      go false z h = absurd (subst Same h refl)

  pub told_err : (q : Refusal) → Err q ≡ files_told file name first second before
      → Printable q × ((text : List ℕ) → told_text (refusal_of file name first second) text ≡ refused_text q.number q.list q.line q.place)
  told_err q e =
      let r = refusal_of file name first second in
      let p = is_err q e in
      let s : q ≡ r = p.0 ∙ away_same in
      let n : r.number ≢ 0 = λ z. p.1 (ap (λ (x : Refusal). x.number) away_same ∙ z) in
      (rw s (lists_printable file (reference_in file) name first false second), λ text. rw s (told_refused r text n))

  module _ (m : Marked) (e : Ok m ≡ files_told file name first second before) where
    pub told_ok : (refusal_of file name first second).number ≡ 0
    told_ok = sym (ap (λ (x : Refusal). x.number) away_same) ∙ (is_ok m e).0

    pub told_clusters : m.clusters ≡ length (plan_of (bases_of (reference_in file)) first second)
    told_clusters = ap (λ (x : Marked). x.clusters) (is_ok m e).1 ∙ files_clusters told_ok

    pub told_score : m.score ≡ total_score (bases_of (reference_in file)) (clusters_of (bases_of (reference_in file)) first second)
    told_score = ap (λ (x : Marked). x.score) (is_ok m e).1 ∙ files_score told_ok

    pub told_plan : take m.clusters m.plan ≡ plan_of (bases_of (reference_in file)) first second
    told_plan = ap (λ (x : Marked). take x.clusters x.plan) (is_ok m e).1 ∙ files_plan_lem told_ok
