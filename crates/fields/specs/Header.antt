-- The lines above the records. Line 1 is exactly the version line. Then any number of lines that begin with ##. Then one column
-- line: ten fields, the first nine the names of the columns, the tenth not empty.
-- Assumes nothing: these are definitions.
use Rattle.std.specs.Prelude.{Bool, not, true, false, ◌&&◌, ◌||◌, List, ℕ, ◌+◌, eqb, ltb, length, drop}
use Rattle.bases.specs.Same.{same?}
use Rattle.fields.specs.Bytes.{TAB, version_line, column_names, hashes, until, begins?}

abbrev pub version_line? : List ℕ → Bool
version_line? l = same? version_line l

abbrev pub header_line? : List ℕ → Bool
header_line? l = begins? hashes l

-- Where the tenth column's name ends: at the next TAB, or at the end of the line.
abbrev pub tenth_end : List ℕ → ℕ
tenth_end l = length column_names + until TAB (drop (length column_names) l)

abbrev pub column_line? : List ℕ → Bool
column_line? l = begins? column_names l && (ltb (length column_names) (tenth_end l) && eqb (tenth_end l) (length l))

abbrev pub either? : Bool → Bool → Bool → Bool
either? true s t = s
either? false s t = t

-- Row 5 above the records: the n-th line of the text (from 1) is none that may stand there.
unfoldable pub header_wrong? : ℕ → List ℕ → Bool
header_wrong? n l = either? (eqb n 1) (not (version_line? l)) (not (header_line? l || column_line? l))
