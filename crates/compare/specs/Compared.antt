-- What compare prints for the bytes of its three files: reference.txt (bases, then one LF), first.vcf and second.vcf, and the name.
-- Document 01: a file that can't be read counts as empty; a reference file that does not end in LF is refused with 1.
-- Assumes nothing: these are definitions.
use Rattle.std.specs.Prelude.{List, ℕ}
use Rattle.bases.specs.Letter.{bases_of}
use Rattle.marks.specs.Marks.{clusters_of, all_marks, total_score}
use Rattle.clusters.specs.Merged.{merged_items}
use Rattle.clusters.specs.Plan.{plan_of}
use Rattle.files.specs.declared.given.Given.{Given}
use Rattle.files.specs.File.{reference_in}
use Rattle.files.specs.Given.{name_in, file_in, first_in, second_in}
use Rattle.told.specs.Files.{refusal_of}
use Rattle.told.specs.Told.{told_text}
use Rattle.compare.specs.Printed.{printed_text}

-- The text for two accepted lists.
abbrev pub accepted_text : List ℕ → List ℕ → List ℕ → List ℕ
accepted_text reference first second =
    let cs = clusters_of reference first second in
    printed_text (plan_of reference first second) (merged_items first second) (all_marks reference cs) (total_score reference cs)

unfoldable pub compared_text : List ℕ → List ℕ → List ℕ → List ℕ → List ℕ
compared_text file name first second =
    told_text (refusal_of file name first second) (accepted_text (bases_of (reference_in file)) first second)

-- The same for what the program is given.
abbrev pub compared_in : List ℕ → Given → List ℕ
compared_in room g = compared_text (file_in room g) (name_in room g) (first_in room g) (second_in room g)
