-- The bytes of a run's three files: reference.txt (bases, then one LF), first.vcf and second.vcf, and the name. Why they are refused,
-- and what marking their lists answers and leaves.
-- Assumes nothing: these are definitions.
use Rattle.std.specs.Prelude.{false, List, ◌∷◌, ℕ, eqb, length, Result, Ok, Err}
use Rattle.bases.specs.Pick.{pick}
use Rattle.card.specs.declared.all.AllMarked.{AllMarked}
use Rattle.card.specs.declared.refusal.Refusal.{Refusal}
use Rattle.card.specs.All.{all_marked, all_answered, empty_plan, all_plan, all_bytes}
use Rattle.card.specs.Answer.{answer}
use Rattle.card.specs.Refusal.{refusal, first_refusal, least_room, lists_checks}
use Rattle.clusters.specs.declared.plan.Cluster.{Cluster}
use Rattle.files.specs.File.{ends_in_lf?, reference_in}
use Rattle.told.specs.declared.marked.Marked.{Marked}
use Rattle.told.specs.Told.{file_check}

-- Why the files are refused: 1, also where the reference file does not end in LF; list 1; list 2. The room is never too small.
abbrev pub refusal_of : List ℕ → List ℕ → List ℕ → List ℕ → Refusal
refusal_of file name first second = first_refusal (file_check file ∷ lists_checks (reference_in file) name first second false)

module _ (file name first second marks : List ℕ) where
  -- What marking both lists on the bases of the file answers, or refusal 1.
  abbrev pub files_answered : AllMarked
  files_answered =
      pick (ends_in_lf? file)
      (all_answered (reference_in file) name first second least_room (length marks))
      (all_marked (answer 1 0 0 0 0) 0 0)

  -- The plan that is written, or none.
  abbrev pub files_plan : List Cluster
  files_plan = pick (ends_in_lf? file) (all_plan (reference_in file) name first second empty_plan marks) empty_plan

  -- The same as a Result: why the lists are refused, or what marking them tells.
  abbrev pub files_told : Result Marked Refusal
  files_told =
      let a = files_answered in
      pick (eqb a.number 0)
      (Ok (record { clusters = a.clusters; score = a.score; plan = files_plan }))
      (Err (refusal a.number a.list a.line a.place))

  -- The lent marks afterwards.
  abbrev pub files_marks : List ℕ
  files_marks = pick (ends_in_lf? file) (all_bytes (reference_in file) name first second empty_plan marks) marks
