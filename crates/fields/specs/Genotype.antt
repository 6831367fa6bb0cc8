-- FORMAT is GT or begins with GT: . The sample's text up to its first colon, or its end, is the genotype: one digit, / or |, one digit.
-- Each digit is at most the number of ALTs. The two digits name the alleles of copies 0 and 1.
-- Assumes nothing: these are definitions.
use Rattle.std.specs.Prelude.{Bool, not, ◌&&◌, ◌||◌, List, [], ◌∷◌, ◌++◌, ℕ, ◌-◌, eqb, leb, length, get_or, take}
use Rattle.bases.specs.Same.{same?}
use Rattle.fields.specs.Bytes.{COLON, genotype_key, until, begins?}
use Rattle.fields.specs.Pos.{digit?}

abbrev pub format_wrong? : List ℕ → Bool
format_wrong? f = not (same? genotype_key f || begins? (genotype_key ++ (COLON ∷ [])) f)

-- The genotype in the sample's text.
abbrev pub genotype : List ℕ → List ℕ
genotype s = take (until COLON s) s

-- / or |
abbrev pub separator? : ℕ → Bool
separator? b = eqb b 47 || eqb b 124

-- One digit that is at most n.
abbrev pub digit_to? : ℕ → ℕ → Bool
digit_to? n b = digit? b && leb (b - 48) n

-- The genotype is wrong beside n ALTs.
unfoldable pub copies_wrong? : ℕ → List ℕ → Bool
copies_wrong? n g =
    not (eqb (length g) 3 && (digit_to? n (get_or g 0 0) && (separator? (get_or g 1 0) && digit_to? n (get_or g 2 0))))

-- The allele numbers of the two copies.
abbrev pub copy0 : List ℕ → ℕ
copy0 g = get_or g 0 0 - 48

abbrev pub copy1 : List ℕ → ℕ
copy1 g = get_or g 2 0 - 48
