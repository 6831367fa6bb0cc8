-- REF and ALT. An allele is 1 to 64 of A, C, G, T, N. REF is one. ALT is one, or two with a comma between; each differs from REF, and the
-- two differ. The second is everything behind the first comma.
-- Assumes nothing: these are definitions.
use Rattle.std.specs.Prelude.{Bool, ◌&&◌, List, ℕ, ◌+◌, leb, ltb, length, take, drop}
use Rattle.bases.specs.Letter.{all_letters?}
use Rattle.bases.specs.Pick.{pick}
use Rattle.fields.specs.Bytes.{COMMA, until}

abbrev pub longest_allele : ℕ
longest_allele = 64

-- The bytes are 1 to 64. Row 20 holds where an ALT's are not.
abbrev pub right_size? : List ℕ → Bool
right_size? a = leb 1 (length a) && leb (length a) longest_allele

-- Row 9 holds where REF is none.
abbrev pub is_allele? : List ℕ → Bool
is_allele? a = right_size? a && all_letters? a

-- The first ALT.
abbrev pub first_alt : List ℕ → List ℕ
first_alt f = take (until COMMA f) f

-- There is a second ALT.
abbrev pub two_alts? : List ℕ → Bool
two_alts? f = ltb (until COMMA f) (length f)

-- The second ALT; empty where there is none.
abbrev pub second_alt : List ℕ → List ℕ
second_alt f = drop (until COMMA f + 1) f

-- The number of ALTs.
abbrev pub alt_count : List ℕ → ℕ
alt_count f = pick (two_alts? f) 2 1
