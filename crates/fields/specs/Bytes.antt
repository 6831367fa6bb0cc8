-- The bytes that have a meaning in a list's text, its fixed byte strings, and where a byte is found.
-- Assumes nothing: these are definitions.
use Rattle.std.specs.Prelude.{Bool, ◌&&◌, List, [], ◌∷◌, ℕ, suc, eqb, leb, length}
use Rattle.bases.specs.Pick.{pick}
use Rattle.bases.specs.Same.{agree?}

abbrev pub LF : ℕ
LF = 10

abbrev pub TAB : ℕ
TAB = 9

abbrev pub COMMA : ℕ
COMMA = 44

abbrev pub COLON : ℕ
COLON = 58

-- ##fileformat=VCFv4.2
abbrev pub version_line : List ℕ
version_line =
    35 ∷ 35 ∷ 102 ∷ 105 ∷ 108 ∷ 101 ∷ 102 ∷ 111 ∷ 114 ∷ 109 ∷ 97 ∷ 116 ∷ 61 ∷ 86 ∷ 67 ∷ 70 ∷ 118 ∷
    52 ∷ 46 ∷ 50 ∷ []

-- #CHROM POS ID REF ALT QUAL FILTER INFO FORMAT, each with the TAB behind it
abbrev pub column_names : List ℕ
column_names =
    35 ∷ 67 ∷ 72 ∷ 82 ∷ 79 ∷ 77 ∷ 9 ∷ 80 ∷ 79 ∷ 83 ∷ 9 ∷ 73 ∷ 68 ∷ 9 ∷ 82 ∷ 69 ∷ 70 ∷ 9 ∷ 65 ∷ 76 ∷
    84 ∷ 9 ∷ 81 ∷ 85 ∷ 65 ∷ 76 ∷ 9 ∷ 70 ∷ 73 ∷ 76 ∷ 84 ∷ 69 ∷ 82 ∷ 9 ∷ 73 ∷ 78 ∷ 70 ∷ 79 ∷ 9 ∷ 70 ∷
    79 ∷ 82 ∷ 77 ∷ 65 ∷ 84 ∷ 9 ∷ []

-- ##
abbrev pub hashes : List ℕ
hashes = 35 ∷ 35 ∷ []

-- #
abbrev pub hash : List ℕ
hash = 35 ∷ []

-- GT
abbrev pub genotype_key : List ℕ
genotype_key = 71 ∷ 84 ∷ []

-- How many bytes stand before the first x: all of them where there is none.
unfoldable pub until : ℕ → List ℕ → ℕ
until x [] = 0
until x (b ∷ bs) = pick (eqb b x) 0 (suc (until x bs))

-- The list begins with p.
abbrev pub begins? : List ℕ → List ℕ → Bool
begins? p l = leb (length p) (length l) && agree? p l
