-- The fields of a line, separated by TABs and numbered from 0.
-- Assumes nothing: these are definitions.
use Rattle.std.specs.Prelude.{Bool, ◌&&◌, List, ℕ, zero, suc, ◌+◌, eqb, ltb, length, take, drop}
use Rattle.fields.specs.declared.field.Fields.{Fields}
use Rattle.fields.specs.Bytes.{TAB, until}

-- Where the field that begins at a ends: at the next TAB, or at the end of the line.
abbrev pub field_end : List ℕ → ℕ → ℕ
field_end l a = a + until TAB (drop a l)

-- Where the field k fields behind the one at a begins.
unfoldable pub skip : ℕ → List ℕ → ℕ → ℕ
skip zero l a = a
skip (suc k) l a = skip k l (field_end l a + 1)

-- Where field k begins.
abbrev pub field_at : ℕ → List ℕ → ℕ
field_at k l = skip k l 0

-- The bytes from a up to the next TAB or the end.
abbrev pub field_from : List ℕ → ℕ → List ℕ
field_from l a = take (until TAB (drop a l)) (drop a l)

-- Field k.
abbrev pub field : ℕ → List ℕ → List ℕ
field k l = field_from l (field_at k l)

-- From a on the line is n fields, and none of them is empty.
unfoldable pub full? : ℕ → List ℕ → ℕ → Bool
full? zero l a = eqb a (length l + 1)
full? (suc n) l a = ltb a (field_end l a) && full? n l (field_end l a + 1)

-- How many fields a record has.
abbrev pub field_count : ℕ
field_count = 10

-- The line is exactly ten non-empty fields. Row 6 holds where it is not.
abbrev pub ten_fields? : List ℕ → Bool
ten_fields? l = full? field_count l 0

-- Where the fields that are read begin: POS, REF, ALT, FORMAT and the sample. (CHROM begins at 0.)
abbrev pub fields_of : List ℕ → Fields
fields_of l =
    record { pos = field_at 1 l; reference = field_at 3 l; alt = field_at 4 l; format = field_at 8 l; sample = field_at 9 l }
