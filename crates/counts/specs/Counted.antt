-- What counts prints for the bytes of a run's three files, reference.txt, first.vcf and second.vcf, and the name: one line with the six
-- counts of the run's marks. On refusal the only line is that of the refusal.
-- Assumes nothing: these are definitions.
use Rattle.std.specs.Prelude.{List, ℕ, ◌*◌}
use Rattle.bases.specs.Letter.{bases_of}
use Rattle.marks.specs.declared.count.Counts.{Counts}
use Rattle.marks.specs.Counts.{counts_of}
use Rattle.marks.specs.Marks.{clusters_of, all_marks}
use Rattle.clusters.specs.Merged.{merged_items}
use Rattle.files.specs.declared.given.Given.{Given}
use Rattle.files.specs.File.{reference_in}
use Rattle.files.specs.Given.{name_in, file_in, first_in, second_in}
use Rattle.lines.specs.Lines.{counts_fields, fields_most}
use Rattle.told.specs.Files.{refusal_of}
use Rattle.told.specs.Told.{told_text}

-- The line: matched, unmatched and undecided of list 1, then of list 2.
abbrev pub counts_line : Counts → List ℕ
counts_line c =
    counts_fields c.first.matched c.first.unmatched c.first.undecided
    c.second.matched c.second.unmatched c.second.undecided

-- The counts of two accepted lists: those of the marks that the card gives their entries.
abbrev pub counts_for : List ℕ → List ℕ → List ℕ → Counts
counts_for reference first second = counts_of (merged_items first second) (all_marks reference (clusters_of reference first second))

unfoldable pub counted_text : List ℕ → List ℕ → List ℕ → List ℕ → List ℕ
counted_text file name first second = told_text (refusal_of file name first second)
    (counts_line (counts_for (bases_of (reference_in file)) first second))

-- The same for what the program is given.
abbrev pub counted_in : List ℕ → Given → List ℕ
counted_in room g = counted_text (file_in room g) (name_in room g) (first_in room g) (second_in room g)

-- The most bytes that it has.
abbrev pub counted_most : ℕ
counted_most = 2 * fields_most
