-- The letters of a reference and of an allele: A, C, G, T and N, in either case. N equals only N.
-- Which letter a byte is stands here and nowhere else. Two bases are equal if they are the same letter in either case: a base is the letter
-- that its byte is, as the upper-case byte, and so two are equal if their letters are.
-- Assumes nothing: these are definitions.
use Rattle.std.specs.Prelude.{Bool, true, not, ◌&&◌, ◌||◌, List, [], ◌∷◌, map, ℕ, ◌+◌, eqb}
use Rattle.bases.specs.Pick.{pick}

-- A, C, G, N and T, as bytes.
abbrev pub letters : List ℕ
letters = 65 ∷ 67 ∷ 71 ∷ 78 ∷ 84 ∷ []

-- The byte writes the letter x: in upper case, or in lower case, whose byte is 32 above.
abbrev pub writes? : ℕ → ℕ → Bool
writes? b x = eqb b x || eqb b (x + 32)

-- Which of some letters a byte writes; none, written 0.
unfoldable pub letter_among : List ℕ → ℕ → ℕ
letter_among [] b = 0
letter_among (x ∷ xs) b = pick (writes? b x) x (letter_among xs b)

-- The letter that a byte is, in either case. Any byte that is no letter is 0.
unfoldable pub letter_of : ℕ → ℕ
letter_of b = letter_among letters b

-- The byte is a letter.
abbrev pub is_letter? : ℕ → Bool
is_letter? b = not (eqb (letter_of b) 0)

-- Each byte is a letter.
unfoldable pub all_letters? : List ℕ → Bool
all_letters? [] = true
all_letters? (b ∷ bs) = is_letter? b && all_letters? bs

-- The bases that bytes spell.
abbrev pub bases_of : List ℕ → List ℕ
bases_of bs = map letter_of bs
