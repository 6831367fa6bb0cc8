-- The entries of a list. An entry is its POS, REF, ALTs and the ordered pair of copy alleles that the genotype's digits name; REF and ALTs
-- are parts of the list's text.
-- Assumes nothing: these are definitions.
use Rattle.std.specs.Prelude.{Bool, true, not, ◌&&◌, List, [], ◌∷◌, ℕ, zero, suc, ◌+◌, ◌-◌, eqb, leb, length, take, drop}
use Rattle.bases.specs.Pick.{pick}
use Rattle.vcf.specs.declared.entry.Part.{Part}
use Rattle.vcf.specs.declared.entry.Entry.{Entry}
use Rattle.fields.specs.Allele.{alt_count}
use Rattle.fields.specs.Bytes.{LF, COMMA, until}
use Rattle.fields.specs.Field.{field_at, field, ten_fields?}
use Rattle.fields.specs.Genotype.{copy0, copy1}
use Rattle.fields.specs.Header.{header_line?}
use Rattle.vcf.specs.List.{lines_of}
use Rattle.records.specs.Record.{pos_on, genotype_on, genotype_wrong?}

-- The line that begins at a, without its LF.
abbrev pub line_at : List ℕ → ℕ → List ℕ
line_at t a = take (until LF (drop a t)) (drop a t)

-- Where the line behind the one at a begins.
abbrev pub next_line : List ℕ → ℕ → ℕ
next_line t a = a + until LF (drop a t) + 1

abbrev pub part : ℕ → ℕ → Part
part at len = record { at = at; len = len }

-- The bytes of a part of a text.
abbrev pub bytes_of : List ℕ → Part → List ℕ
bytes_of t p = take p.len (drop p.at t)

-- The last ALT of an entry.
abbrev pub last_alt : Entry → Part
last_alt e = pick (eqb e.alts 2) e.second e.first

-- The entry on a record's line that begins at a in its text.
abbrev pub entry_of : List ℕ → ℕ → Entry
entry_of l a =
    record {
      pos = pos_on l;
      reference = part (a + field_at 3 l) (length (field 3 l));
      first = part (a + field_at 4 l) (until COMMA (field 4 l));
      second = part (a + field_at 4 l + until COMMA (field 4 l) + 1) (length (field 4 l) - (until COMMA (field 4 l) + 1));
      alts = alt_count (field 4 l);
      copy0 = copy0 (genotype_on l);
      copy1 = copy1 (genotype_on l);
    }

-- How many bytes the lines above the records take: those that begin with ##, and the column line behind them.
unfoldable pub header_bytes : List (List ℕ) → ℕ
header_bytes [] = 0
header_bytes (l ∷ ls) = let n = header_bytes ls in length l + 1 + pick (header_line? l) n 0

-- Where the records begin.
abbrev pub records_at : List ℕ → ℕ
records_at t = header_bytes (lines_of t)

-- How many lines stand above the records: those that begin with ##, and the column line behind them.
unfoldable pub header_lines : List (List ℕ) → ℕ
header_lines [] = 0
header_lines (l ∷ ls) = let n = header_lines ls in 1 + pick (header_line? l) n 0

abbrev pub lines_above : List ℕ → ℕ
lines_above t = header_lines (lines_of t)

-- The entries on lines, the first of which begins at a.
unfoldable pub entries_from : ℕ → List (List ℕ) → List Entry
entries_from a [] = []
entries_from a (l ∷ ls) = entry_of l a ∷ entries_from (a + length l + 1) ls

-- The entries of a list's text.
abbrev pub entries_of : List ℕ → List Entry
entries_of t = entries_from (records_at t) (lines_of (drop (records_at t) t))

-- An entry can be read off the line: rows 6 and 11 do not hold on it.
abbrev pub readable? : List ℕ → Bool
readable? l = ten_fields? l && not (genotype_wrong? l)

unfoldable pub all_readable? : List (List ℕ) → Bool
all_readable? [] = true
all_readable? (l ∷ ls) = readable? l && all_readable? ls

-- An entry can be read off each line from a on.
abbrev pub readable_from? : List ℕ → ℕ → Bool
readable_from? t a = all_readable? (lines_of (drop a t))

-- Where the line k lines behind the one at a begins; where the text ends before, where that is told.
unfoldable pub skip_lines : ℕ → List ℕ → ℕ → ℕ
skip_lines zero t a = a
skip_lines (suc k) t a = pick (leb (length t) a) a (skip_lines k t (next_line t a))

-- Where record i begins; not below the text's length where there is none.
abbrev pub record_at : List ℕ → ℕ → ℕ
record_at t i = skip_lines i t (records_at t)
