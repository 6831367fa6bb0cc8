-- What is printed, by what the card tells of the two lists, and the marks.
--     text_refused                    where it is refused, the refusal can be printed, and its line is what is printed
--     text_makes, text_accepted       else the text can be made of what is told and the marks, and is what is printed
-- Assumes nothing.
use mathlib.Core.List.{List}
use mathlib.Core.Path.{◌≡◌, sym, ap, ◌∙◌}
use Prim.Native.Nat.{ℕ, ◌+◌}
use native.Mathlib.Omega.{arith}
use lib.ListN.{length, take, drop}
use Rattle.std.specs.Prelude.{Ok, Err}
use Rattle.bases.specs.Letter.{bases_of}
use Rattle.card.specs.declared.refusal.Refusal.{Refusal}
use Rattle.card.specs.Refusal.{least_room}
use Rattle.marks.specs.Marks.{clusters_of, all_marks}
use Rattle.clusters.specs.Merged.{merged_items}
use Rattle.files.specs.File.{reference_in}
use Rattle.lines.specs.Lines.{refused_text}
use Rattle.told.specs.declared.marked.Marked.{Marked}
use Rattle.told.specs.Files.{refusal_of, files_told, files_marks}
use Rattle.told.specs.Told.{Printable}
use Rattle.told.proofs.FilesLaws.{accepted_files, files_answerable, files_marks_lem, files_marked, told_err, told_ok, told_clusters, told_score, told_plan}
use Rattle.told.proofs.ToldLaws.{told_text_lem}
use Rattle.compare.specs.Compared.{accepted_text, compared_text}
use Rattle.compare.specs.Makes.{Makes}
use Rattle.compare.specs.Printed.{printed_text}
use Rattle.compare.proofs.AcceptedText.{accepted_makes}
use Rattle.compare.proofs.ComparedLaws.{accepted_text_lem}

module _ (file name first second before : List ℕ) (long : length before ≡ least_room) where
  abbrev r : List ℕ
  r = reference_in file

  pub text_refused : (q : Refusal) → Err q ≡ files_told file name first second before
      → Printable q × (refused_text q.number q.list q.line q.place ≡ compared_text file name first second)
  unfolding compared_text
  text_refused q e = let t = told_err file name first second before long q e in (t.0, sym (t.1 (accepted_text (bases_of r) first second)))

  module _ (m : Marked) (e : Ok m ≡ files_told file name first second before) (marks : List ℕ) (wrote : marks ≡ files_marks file name first second before) where
    z : (refusal_of file name first second).number ≡ 0
    z = told_ok file name first second before long m e

    pub text_makes : Makes first second m marks
    text_makes =
        accepted_makes (bases_of r) first second (files_answerable file name first second z) m marks (told_clusters file name first second before long m e)
        (told_plan file name first second before long m e) (omega (arith, ap length wrote, files_marked file name first second before long z))
        (told_score file name first second before long m e)

    pub text_accepted : printed_text (take m.clusters m.plan) (merged_items first second) marks m.score ≡ compared_text file name first second
    unfolding compared_text
    text_accepted =
        let accept = accepted_files file name first second z in
        accepted_text_lem (bases_of r) name first second accept.0 accept.1 (take m.clusters m.plan) marks
        (drop (0 + length (all_marks (bases_of r) (clusters_of (bases_of r) first second))) before) m.score (told_plan file name first second before long m e)
        (wrote ∙ files_marks_lem file name first second before long z) (told_score file name first second before long m e)
        ∙ sym (told_text_lem (refusal_of file name first second) (accepted_text (bases_of r) first second) z)
