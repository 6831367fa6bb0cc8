-- What a program tells of its files: its text, or the line of a refusal. Document 01: on refusal the only line is `refused`, number, list,
-- line and place; a reference file that does not end in LF is refused with 1.
-- Assumes nothing: these are definitions.
use Rattle.std.specs.Prelude.{not, List, ℕ, ◌≤◌, eqb}
use Rattle.bases.specs.Pick.{pick}
use Rattle.card.specs.declared.refusal.Refusal.{Refusal}
use Rattle.card.specs.Refusal.{Check, refusal, check}
use Rattle.files.specs.File.{ends_in_lf?}
use Rattle.lines.specs.Lines.{largest_number, refused_text}

-- Row 1, of a reference file that does not end in LF.
abbrev pub file_check : List ℕ → Check
file_check file = check (not (ends_in_lf? file)) (refusal 1 0 0 0)

-- The text where nothing is turned away, else the line of the refusal.
abbrev pub told_text : Refusal → List ℕ → List ℕ
told_text r text = pick (eqb r.number 0) text (refused_text r.number r.list r.line r.place)

-- Each of the four numbers can be printed.
pub record Printable (r : Refusal) : Type 0 where
  pub number : r.number ≤ largest_number
  pub list : r.list ≤ largest_number
  pub line : r.line ≤ largest_number
  pub place : r.place ≤ largest_number
