-- ALT on a record's line: rows 20 to 23. Each allele is tried in turn, the whole of the first before the second, and is told at the place
-- where it begins. The second allele is everything behind the first comma.
-- Assumes nothing: these are definitions.
use Rattle.std.specs.Prelude.{Bool, true, not, ◌&&◌, List, [], ◌∷◌, ◌++◌, ℕ, ◌+◌}
use Rattle.bases.specs.Letter.{all_letters?}
use Rattle.bases.specs.Same.{same_bases?}
use Rattle.fields.specs.Allele.{right_size?, first_alt, two_alts?, second_alt}
use Rattle.fields.specs.Bytes.{COMMA, until}
use Rattle.fields.specs.Field.{field_at, field}
use Rattle.records.specs.Row.{Row, row_at}

-- Where the first allele begins: where the field does.
abbrev pub first_at : List ℕ → ℕ
first_at l = field_at 4 l

-- Where the second begins: at the byte behind the first comma.
abbrev pub second_at : List ℕ → ℕ
second_at l = field_at 4 l + until COMMA (field 4 l) + 1

-- Row 20: the allele is empty or over 64.
abbrev pub size_wrong? : List ℕ → Bool
size_wrong? a = not (right_size? a)

-- Row 21: it has a wrong byte.
abbrev pub byte_wrong? : List ℕ → Bool
byte_wrong? a = not (all_letters? a)

-- Row 22: it is equal to REF. Row 23: the second is equal to the first.
abbrev pub equal_to? : List ℕ → List ℕ → Bool
equal_to? other a = same_bases? a other

-- Rows 20 to 22 of an allele beside REF, if it is there.
abbrev pub allele_rows : Bool → ℕ → List ℕ → List ℕ → List Row
allele_rows there place ref a =
    row_at 20 place (there && size_wrong? a) ∷ row_at 21 place (there && byte_wrong? a) ∷ row_at 22 place (there && equal_to? ref a) ∷ []

-- The rows on ALT.
abbrev pub alt_rows : List ℕ → List Row
alt_rows l =
    allele_rows true (first_at l) (field 3 l) (first_alt (field 4 l))
    ++ (allele_rows (two_alts? (field 4 l)) (second_at l) (field 3 l) (second_alt (field 4 l))
    ++ (row_at 23 (second_at l) (two_alts? (field 4 l) && equal_to? (first_alt (field 4 l)) (second_alt (field 4 l))) ∷ []))
