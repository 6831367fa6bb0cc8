-- The call `count`, in document 01's words.
--     count_refused_iff, count_answered_iff    a refusal is given exactly if its row holds and none before it in the order does; an
--                                              answer exactly if none holds
--     count_refused, count_given               what is answered, by the refusal
--     count_entries                            where every entry has a mark, the counts of each list add up to its entries
--     count_marked                             so they do on the marks that `mark_all` leaves
-- Assumes nothing.
use mathlib.Core.Bool.{Bool}
use mathlib.Core.List.{List}
use mathlib.Core.Logic.{◌↔◌, ◌≢◌}
use mathlib.Core.Path.{◌≡◌, sym, ap, ◌∙◌}
use Prim.Native.Nat.{ℕ, ◌+◌, ◌≤◌}
use native.Mathlib.Omega.{arith}
use borrow.Author.Tests.{eq-eqb, ne_eqb, ltb-false}
use lib.Dec.{ltb}
use lib.ListN.{length, take}
use lib.Seq.{take-append_seam}
use Rattle.bases.specs.Letter.{bases_of}
use Rattle.bases.specs.Put.{put}
use Rattle.bases.proofs.PutLaws.{put_length}
use Rattle.bases.proofs.TestLaws.{neither}
use Rattle.clusters.specs.declared.plan.Cluster.{Cluster}
use Rattle.marks.specs.Counts.{counts_of}
use Rattle.marks.specs.Marks.{clusters_of, all_marks}
use Rattle.clusters.specs.Merged.{merged_items}
use Rattle.marks.proofs.EntryCounts.{Marked, all_marked_lem, counts_entries}
use Rattle.vcf.specs.Entry.{entries_of}
use Rattle.card.specs.declared.count.Counted.{Counted}
use Rattle.card.specs.declared.refusal.Refusal.{Refusal}
use Rattle.card.specs.All.{all_refusal, all_bytes}
use Rattle.card.specs.Answer.{refused_answer}
use Rattle.card.specs.Count.{counted_of, no_counts, count_refusal, counted}
use Rattle.card.specs.Mark.{small_room?}
use Rattle.card.specs.Refusal.{no_refusal, least_room, lists_checks}
use Rattle.card.proofs.AllLaws.{all_given}
use Rattle.card.proofs.ClusterMarks.{marks_all}
use Rattle.card.proofs.ListsLaws.{lists_numbered, lists_read}
use Rattle.card.proofs.ReadyLaws.{lists_answerable}
use Rattle.bases.proofs.FirstLaws.{NoneHolds, First}
use Rattle.card.proofs.RefusalLaws.{refused_iff, answered_iff}

-- The counts of each list add up to its entries.
abbrev pub AddUp : List ℕ → List ℕ → Counted → Type 0
AddUp first second c =
    (c.matched1 + c.unmatched1 + c.undecided1 ≡ length (entries_of first)) × (c.matched2 + c.unmatched2 + c.undecided2 ≡ length (entries_of second))

module _ (reference name first second marks : List ℕ) where
  -- there is too little room
  abbrev small : Bool
  small = ltb (length marks) least_room

  pub count_refused_iff : (r : Refusal) → ((count_refusal reference name first second marks ≡ r) × (r.number ≢ 0)) ↔ First r (lists_checks reference name first second (ltb (length marks) least_room))
  count_refused_iff = refused_iff (lists_checks reference name first second small) (lists_numbered reference name first small second)

  pub count_answered_iff : (count_refusal reference name first second marks ≡ no_refusal) ↔ NoneHolds (lists_checks reference name first second (ltb (length marks) least_room))
  count_answered_iff = answered_iff (lists_checks reference name first second small) (lists_numbered reference name first small second)

  pub count_refused : (count_refusal reference name first second marks).number ≢ 0
      → counted reference name first second marks ≡ counted_of (refused_answer (count_refusal reference name first second marks)) no_counts
  count_refused n = rw (ne_eqb (count_refusal reference name first second marks).number 0 n)

  module _ (z : (count_refusal reference name first second marks).number ≡ 0) where
    pub count_given : counted reference name first second marks
        ≡ counted_of (refused_answer (count_refusal reference name first second marks)) (counts_of (merged_items first second) marks)
    count_given = rw (eq-eqb (count_refusal reference name first second marks).number 0 z)

    pub count_room : length (merged_items first second) ≤ length marks
    count_room =
        let a = lists_answerable reference name first second small z in
        omega (arith, a.0.entries, ltb-false (length marks) least_room a.1)

    pub count_entries : Marked (take (length (merged_items first second)) marks) → AddUp first second (counted reference name first second marks)
    count_entries u = rw count_given (counts_entries (entries_of first) (entries_of second) marks count_room u)

module _ (reference name first second : List ℕ) (plan : List Cluster) (marks : List ℕ) (z : (all_refusal reference name first second (length plan) (length marks)).number ≡ 0) where
  -- the marks of all clusters
  abbrev these : List ℕ
  these = all_marks (bases_of reference) (clusters_of (bases_of reference) first second)

  pub count_marked : ((count_refusal reference name first second (all_bytes reference name first second plan marks)).number ≡ 0)
      × AddUp first second (counted reference name first second (all_bytes reference name first second plan marks))
  count_marked =
      let r = lists_read reference name first (small_room? (length plan) (length marks)) second z in
      let most = (lists_answerable reference name first second (small_room? (length plan) (length marks)) z).0.entries in
      let long = marks_all (bases_of reference) name first second r.0.accepted r.1 in
      let roomy = (neither (ltb (length plan) least_room) (ltb (length marks) least_room) r.0.roomy).1 in
      let same : length (put marks 0 these) ≡ length marks = put_length marks 0 (omega arith) these (omega (arith, ltb-false (length marks) least_room roomy)) in
      let left : ltb (length (put marks 0 these)) least_room ≡ small_room? (length plan) (length marks) = ap (λ (n : ℕ). ltb n least_room) same ∙ roomy ∙ sym r.0.roomy in
      let e : (count_refusal reference name first second (put marks 0 these)).number ≡ 0 = rw left z in
      let front : take (length (merged_items first second)) (put marks 0 these) ≡ these = ap (λ (n : ℕ). take n (put marks 0 these)) (sym long) ∙ take-append_seam these _ in
      rw (all_given reference name first second plan marks z).2
      (e, count_entries reference name first second (put marks 0 these) e (rw front (all_marked_lem (bases_of reference) (clusters_of (bases_of reference) first second))))
