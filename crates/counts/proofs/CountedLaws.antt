-- What is printed, by what the card tells of the two lists, and the marks.
--     text_refused                    where it is refused, the refusal can be printed, and its line is what is printed
--     text_counts, text_few, text_accepted
--                                     else both lists can be counted, the counts can be printed, and their line is what is printed
--     counted_call                    the counts that are printed are those that the call `count` answers for the marks that `mark_all`
--                                     leaves
-- Assumes nothing.
use mathlib.Core.List.{List}
use mathlib.Core.Path.{◌≡◌, sym, ap, ◌∙◌}
use Prim.Native.Nat.{ℕ, ◌+◌, ◌≤◌}
use native.Mathlib.Omega.{arith}
use lib.Dec.{ltb}
use lib.ListN.{length, drop}
use Rattle.std.specs.Prelude.{Ok, Err}
use Rattle.bases.specs.Letter.{bases_of}
use Rattle.card.specs.declared.refusal.Refusal.{Refusal}
use Rattle.card.specs.All.{all_refusal, all_bytes}
use Rattle.card.specs.Answer.{answer, refused_answer}
use Rattle.card.specs.Count.{counted_of, counted}
use Rattle.card.specs.Mark.{small_room?}
use Rattle.card.specs.Refusal.{least_room, lists_checks}
use Rattle.card.proofs.AllLaws.{all_given}
use Rattle.card.proofs.ClusterMarks.{marks_all}
use Rattle.card.proofs.CountLaws.{count_given, count_marked}
use Rattle.card.proofs.ListsLaws.{lists_numbered, lists_read}
use Rattle.card.proofs.RefusalLaws.{first_none, none_holds}
use Rattle.clusters.specs.declared.plan.Cluster.{Cluster}
use Rattle.marks.specs.declared.count.Counts.{Counts}
use Rattle.marks.specs.Counts.{counts_of, most_entries, Few}
use Rattle.clusters.specs.Heads.{Readable, start_heads}
use Rattle.marks.specs.Marks.{clusters_of, all_marks}
use Rattle.clusters.specs.Merged.{merged_items}
use Rattle.marks.proofs.CountLaws.{counts_few, counts_marks}
use Rattle.clusters.proofs.HeadsLaws.{ready_readable}
use Rattle.files.specs.File.{reference_in}
use Rattle.lines.specs.Lines.{refused_text}
use Rattle.told.specs.declared.marked.Marked.{Marked}
use Rattle.told.specs.Files.{refusal_of, files_told, files_marks}
use Rattle.told.specs.Told.{Printable}
use Rattle.told.proofs.FilesLaws.{accepted_files, files_answerable, files_marks_lem, files_marked, told_err, told_ok}
use Rattle.told.proofs.ToldLaws.{told_text_lem}
use Rattle.counts.specs.Counted.{counts_line, counts_for, counted_text}

module _ (file name first second before : List ℕ) (long : length before ≡ least_room) where
  abbrev r : List ℕ
  r = reference_in file

  pub text_refused : (q : Refusal) → Err q ≡ files_told file name first second before
      → Printable q × (refused_text q.number q.list q.line q.place ≡ counted_text file name first second)
  unfolding counted_text
  text_refused q e = let t = told_err file name first second before long q e in (t.0, sym (t.1 (counts_line (counts_for (bases_of r) first second))))

  module _ (m : Marked) (e : Ok m ≡ files_told file name first second before) (marks : List ℕ) (wrote : marks ≡ files_marks file name first second before) where
    z : (refusal_of file name first second).number ≡ 0
    z = told_ok file name first second before long m e

    pub text_counts : Readable first second (start_heads first second) × (length (merged_items first second) ≤ length marks) × (length (merged_items first second) ≤ most_entries)
    text_counts =
        let a = files_answerable file name first second z in
        (ready_readable (bases_of r) first second (start_heads first second) a.ready, omega (arith, ap length wrote, files_marked file name first second before long z), a.entries)

    pub text_few : (c : Counts) → c ≡ counts_of (merged_items first second) marks → Few c.first × Few c.second
    text_few c e = rw e (counts_few (merged_items first second) marks text_counts.2)

    pub text_accepted : (c : Counts) → c ≡ counts_of (merged_items first second) marks → counts_line c ≡ counted_text file name first second
    unfolding counted_text
    text_accepted c e =
        let own = all_marks (bases_of r) (clusters_of (bases_of r) first second) in
        let accept = accepted_files file name first second z in
        let same = counts_marks (merged_items first second) own (drop (0 + length own) before) (omega (arith, marks_all (bases_of r) name first second accept.0 accept.1)) in
        ap counts_line (e ∙ ap (counts_of (merged_items first second)) (wrote ∙ files_marks_lem file name first second before long z) ∙ same)
        ∙ sym (told_text_lem (refusal_of file name first second) (counts_line (counts_for (bases_of r) first second)) z)

module _ (reference name first second : List ℕ) (plan : List Cluster) (marks : List ℕ) (z : (all_refusal reference name first second (length plan) (length marks)).number ≡ 0) where
  -- the marks of all clusters, and the bytes that hold them
  abbrev these : List ℕ
  these = all_marks (bases_of reference) (clusters_of (bases_of reference) first second)

  abbrev bytes : List ℕ
  bytes = all_bytes reference name first second plan marks

  pub counted_call : counted reference name first second (all_bytes reference name first second plan marks) ≡ counted_of (answer 0 0 0 0 0) (counts_for (bases_of reference) first second)
  counted_call =
      let zero = (count_marked reference name first second plan marks z).0 in
      let small = ltb (length bytes) least_room in
      let none = first_none (lists_checks reference name first second small) (none_holds (lists_checks reference name first second small) (lists_numbered reference name first small second) zero) in
      let read = lists_read reference name first (small_room? (length plan) (length marks)) second z in
      count_given reference name first second bytes zero
      ∙ ap (λ (r : Refusal). counted_of (refused_answer r) (counts_of (merged_items first second) bytes)) none
      ∙ ap (λ (ms : List ℕ). counted_of (answer 0 0 0 0 0) (counts_of (merged_items first second) ms)) (all_given reference name first second plan marks z).2
      ∙ ap (counted_of (answer 0 0 0 0 0))
      (counts_marks (merged_items first second) these (drop (0 + length these) marks) (omega (arith, marks_all (bases_of reference) name first second read.0.accepted read.1)))
