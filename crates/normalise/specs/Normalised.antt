-- What normalise prints for the bytes of its two files: reference.txt (bases, then one LF) and first.vcf, and the name. Document 01: a
-- file that can't be read counts as empty; a reference file that does not end in LF is refused with 1.
-- Assumes nothing: these are definitions.
use Rattle.std.specs.Prelude.{false, List, ◌∷◌, ℕ}
use Rattle.bases.specs.Letter.{bases_of}
use Rattle.card.specs.declared.refusal.Refusal.{Refusal}
use Rattle.card.specs.Refusal.{first_refusal, list_checks}
use Rattle.files.specs.declared.given.Given.{Given}
use Rattle.files.specs.File.{reference_in}
use Rattle.files.specs.Given.{name_in, file_in, first_in}
use Rattle.written.specs.Written.{written_text}
use Rattle.told.specs.Told.{file_check, told_text}

-- Why the files are refused: 1, also where the reference file does not end in LF; the list's rows. The room is never too small.
abbrev pub list_refusal : List ℕ → List ℕ → List ℕ → Refusal
list_refusal file name text = first_refusal (file_check file ∷ list_checks (reference_in file) name text false)

-- The list in normal form, or the line of the refusal.
unfoldable pub normalised_text : List ℕ → List ℕ → List ℕ → List ℕ
normalised_text file name text = told_text (list_refusal file name text) (written_text (bases_of (reference_in file)) text)

-- The same for what the program is given.
abbrev pub normalised_in : List ℕ → Given → List ℕ
normalised_in room g = normalised_text (file_in room g) (name_in room g) (first_in room g)
