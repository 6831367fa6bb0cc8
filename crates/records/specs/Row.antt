-- The rows of document 01's table: a number, a place in the line, and whether it holds. The first that holds is the one that is told.
-- Assumes nothing: these are definitions.
use Rattle.std.specs.Prelude.{Bool, List, ℕ, Result, Ok, Err, eqb}
use Rattle.bases.specs.Pick.{pick}
use Rattle.bases.specs.First.{Test, test, first_told}
use Rattle.records.specs.declared.row.LineFault.{LineFault}

abbrev pub line_fault : ℕ → ℕ → LineFault
line_fault number at = record { number = number; at = at }

-- No row holds.
abbrev pub no_fault : LineFault
no_fault = line_fault 0 0

abbrev pub Row : Type 0
Row = Test LineFault

-- A row that tells the place where what is at fault begins, in bytes from the start of the line; and one that tells no place: 0.
abbrev pub row_at : ℕ → ℕ → Bool → Row
row_at number at t = test t (line_fault number at)

abbrev pub row : ℕ → Bool → Row
row number t = row_at number 0 t

-- Number and place of the first row that holds.
abbrev pub first_row : List Row → LineFault
first_row = first_told no_fault

-- A fault as a function's result: there is none where its number is 0.
abbrev pub fault_result : {A : Type 0} → (A → ℕ) → A → Result (Unit {0}) A
fault_result number f = pick (eqb (number f) 0) (Ok (tt {0})) (Err f)

-- What is told of a line, as a function's result.
abbrev pub told : LineFault → Result (Unit {0}) LineFault
told = fault_result (λ f. f.number)
