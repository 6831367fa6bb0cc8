-- A list's text, judged: row 3, then the lines from the top, and on each line the rows in order.
-- Assumes nothing: these are definitions.
use Rattle.std.specs.Prelude.{Bool, true, false, not, ◌||◌, List, [], ◌∷◌, ℕ, ◌+◌, ◌-◌, eqb, ltb, length, get_or, Result}
use Rattle.bases.specs.declared.place.Pos.{Pos}
use Rattle.bases.specs.Pick.{pick}
use Rattle.vcf.specs.declared.list.Stage.{Stage}
use Rattle.vcf.specs.declared.list.Stage.TheVariants.{Above, Below}
use Rattle.vcf.specs.declared.list.Fault.{Fault}
use Rattle.fields.specs.Bytes.{LF}
use Rattle.fields.specs.Header.{header_line?, header_wrong?}
use Rattle.fields.specs.Pos.{no_pos}
use Rattle.records.specs.Record.{too_long?, pos_on, record_rows}
use Rattle.records.specs.Row.{Row, row, first_row, fault_result}

-- A byte in front of the first of some lines.
abbrev pub onto : ℕ → List (List ℕ) → List (List ℕ)
onto b [] = (b ∷ []) ∷ []
onto b (l ∷ ls) = (b ∷ l) ∷ ls

-- The lines of a text, each without its LF.
unfoldable pub lines_of : List ℕ → List (List ℕ)
lines_of [] = []
lines_of (b ∷ bs) = let ls = lines_of bs in pick (eqb b LF) ([] ∷ ls) (onto b ls)

abbrev pub longest_text : ℕ
longest_text = 65536

-- Row 3: over 65,536 bytes, or not ending in LF (so also empty).
abbrev pub text_wrong? : List ℕ → Bool
text_wrong? t = ltb longest_text (length t) || not (eqb (get_or t (length t - 1) 0) LF)

-- Above the records.
abbrev pub above : Stage
above = Above

-- Below the column line, behind so many records, the last at this POS.
abbrev pub below_at : ℕ → Pos → Stage
below_at records last = Below records last

-- Is it below the column line? Behind how many records, and at which POS is the last? (Above the records: 0, and no POS.)
abbrev pub below? : Stage → Bool
below? Above = false
below? (Below records last) = true

abbrev pub records_behind : Stage → ℕ
records_behind Above = 0
records_behind (Below records last) = records

abbrev pub last_pos : Stage → Pos
last_pos Above = no_pos
last_pos (Below records last) = last

-- Where a line leads: lines that begin with ## stay above the records, the next is the column line, and each line below it is a record.
abbrev pub next_stage : Stage → List ℕ → Stage
next_stage Above l = pick (header_line? l) above (below_at 0 no_pos)
next_stage (Below records last) l = below_at (records + 1) (pos_on l)

-- The rows that are tried on the n-th line of the text (from 1).
abbrev pub line_rows : List ℕ → List ℕ → Stage → ℕ → List ℕ → List Row
line_rows reference name Above n l = row 4 (too_long? l) ∷ row 5 (header_wrong? n l) ∷ []
line_rows reference name (Below records last) n l = record_rows reference name records last l

-- A fault: the number of its row, its line, and the place in that line that the row tells. No fault is three zeros.
abbrev pub fault : ℕ → ℕ → ℕ → Fault
fault number line place = record { number = number; line = line; place = place }

-- The first fault of lines, the first of which is the n-th of the text. A missing column line is told at the line number after the last.
unfoldable pub judge_lines : List ℕ → List ℕ → Stage → ℕ → List (List ℕ) → Fault
judge_lines reference name s n [] = pick (below? s) (fault 0 0 0) (fault 5 n 0)
judge_lines reference name s n (l ∷ ls) =
    let k = first_row (line_rows reference name s n l) in
    let rest = judge_lines reference name (next_stage s l) (n + 1) ls in
    pick (eqb k.number 0) rest (fault k.number n k.at)

-- The first fault of a list's text.
unfoldable pub judge_text : List ℕ → List ℕ → List ℕ → Fault
judge_text reference name t =
    let ls = judge_lines reference name above 1 (lines_of t) in
    pick (text_wrong? t) (fault 3 0 0) ls

-- What is judged, as a function's result.
abbrev pub judged : Fault → Result (Unit {0}) Fault
judged = fault_result (λ f. f.number)
