-- The rows that are tried on a record's line, in order: 4, 5, 15, 6 to 9, 20 to 23, 11 to 14. Each row has its test.
-- Assumes nothing: these are definitions.
use Rattle.std.specs.Prelude.{Bool, not, ◌&&◌, ◌||◌, List, [], ◌∷◌, ◌++◌, ℕ, ◌+◌, eqb, leb, ltb, length}
use Rattle.bases.specs.Letter.{bases_of}
use Rattle.bases.specs.declared.place.Pos.{Pos}
use Rattle.bases.specs.Place.{place_of}
use Rattle.bases.specs.Same.{same?}
use Rattle.bases.specs.Stretch.{stretch}
use Rattle.fields.specs.Allele.{is_allele?, alt_count}
use Rattle.fields.specs.Bytes.{hash, begins?}
use Rattle.fields.specs.Field.{field, ten_fields?}
use Rattle.fields.specs.Genotype.{format_wrong?, genotype, copies_wrong?, copy0, copy1}
use Rattle.fields.specs.Pos.{no_pos, read_pos}
use Rattle.records.specs.Alt.{alt_rows}
use Rattle.records.specs.Row.{Row, row}

abbrev pub longest_line : ℕ
longest_line = 1024

-- Row 4: over 1,024 bytes.
abbrev pub too_long? : List ℕ → Bool
too_long? l = ltb longest_line (length l)

abbrev pub most_records : ℕ
most_records = 512

-- Row 7: CHROM is not the name that the caller gives.
abbrev pub chrom_wrong? : List ℕ → List ℕ → Bool
chrom_wrong? name l = not (same? name (field 0 l))

-- POS of a line; `no_pos` where row 8 holds.
abbrev pub pos_on : List ℕ → Pos
pos_on l = read_pos (field 1 l)

-- Row 9: REF is no allele.
abbrev pub ref_wrong? : List ℕ → Bool
ref_wrong? l = not (is_allele? (field 3 l))

-- The genotype of a line.
abbrev pub genotype_on : List ℕ → List ℕ
genotype_on l = genotype (field 9 l)

-- Row 11: FORMAT or the genotype is wrong.
abbrev pub genotype_wrong? : List ℕ → Bool
genotype_wrong? l = format_wrong? (field 8 l) || copies_wrong? (alt_count (field 4 l)) (genotype_on l)

-- Row 12: the genotype is 0/0.
abbrev pub no_alt? : List ℕ → Bool
no_alt? l = eqb (copy0 (genotype_on l)) 0 && eqb (copy1 (genotype_on l)) 0

-- Row 13: REF at this POS runs past the reference or differs from it. Here and below a reference is the list of its bases.
abbrev pub off_reference? : List ℕ → Pos → List ℕ → Bool
off_reference? reference pos ref =
    not (leb ((place_of pos).0 + length ref) (length reference) && same? (bases_of ref) (stretch reference (place_of pos).0 (length ref)))

-- The rows on the fields behind ALT, and on where REF lies, behind a record at POS `last` (`no_pos` where there is none).
abbrev pub later_rows : List ℕ → Pos → List ℕ → List Row
later_rows reference last l =
    row 11 (genotype_wrong? l)
    ∷ row 12 (no_alt? l)
    ∷ row 13 (off_reference? reference (pos_on l) (field 3 l))
    ∷ row 14 (ltb (pos_on l).0 last.0)
    ∷ []

-- The rows on the fields of a line: 7, 8, 9, those on ALT, and the later ones.
abbrev pub field_rows : List ℕ → List ℕ → Pos → List ℕ → List Row
field_rows reference name last l =
    row 7 (chrom_wrong? name l)
    ∷ row 8 (eqb (pos_on l).0 no_pos.0)
    ∷ row 9 (ref_wrong? l)
    ∷ (alt_rows l ++ later_rows reference last l)

-- The rows on a line below the column line, behind so many records, the last at POS `last`.
abbrev pub record_rows : List ℕ → List ℕ → ℕ → Pos → List ℕ → List Row
record_rows reference name records last l =
    row 4 (too_long? l)
    ∷ row 5 (begins? hash l)
    ∷ row 15 (leb most_records records)
    ∷ row 6 (not (ten_fields? l))
    ∷ field_rows reference name last l
