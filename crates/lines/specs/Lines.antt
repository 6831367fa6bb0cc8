-- Numbers and the line of a refusal, as the programs print them. Document 01: fields are TAB-separated; on refusal the only line is
-- `refused`, number, list, line, and by request a the place in the line.
-- Assumes nothing: these are definitions.
use Rattle.std.specs.Prelude.{List, [], ◌∷◌, ◌++◌, ℕ, ◌+◌, ◌*◌, length}
use Rattle.written.specs.Written.{digits_of}
use Rattle.fields.specs.Bytes.{LF, TAB}

-- A number in decimal, of at most seven digits; and the largest that is printed so.
abbrev pub most_digits : ℕ
most_digits = 7

abbrev pub number : ℕ → List ℕ
number n = digits_of most_digits n

abbrev pub largest_number : ℕ
largest_number = 6553599

-- A number and the byte behind it; three numbers, with TABs between, and the byte behind them.
abbrev pub field : ℕ → ℕ → List ℕ
field n end = number n ++ (end ∷ [])

abbrev pub fields : ℕ → ℕ → ℕ → ℕ → List ℕ
fields a b c end = field a TAB ++ field b TAB ++ field c end

-- The six counts of a run, those of list 1 and then those of list 2, as program counts prints them and lot_report reads them.
abbrev pub counts_fields : ℕ → ℕ → ℕ → ℕ → ℕ → ℕ → List ℕ
counts_fields matched1 unmatched1 undecided1 matched2 unmatched2 undecided2 =
    fields matched1 unmatched1 undecided1 TAB ++ fields matched2 unmatched2 undecided2 LF

-- refused, with the TAB behind it
abbrev pub refused_word : List ℕ
refused_word = 114 ∷ 101 ∷ 102 ∷ 117 ∷ 115 ∷ 101 ∷ 100 ∷ 9 ∷ []

-- The text for a refusal: its one line.
abbrev pub refused_text : ℕ → ℕ → ℕ → ℕ → List ℕ
refused_text n list line place = refused_word ++ fields n list line TAB ++ field place LF

-- The most bytes that a field, three fields and the text for a refusal have.
abbrev pub field_most : ℕ
field_most = most_digits + 1

abbrev pub fields_most : ℕ
fields_most = 3 * field_most

abbrev pub refused_most : ℕ
refused_most = length refused_word + fields_most + field_most
