-- A record's line, as it is written into lent room.
-- Assumes nothing: these are definitions.
use Rattle.std.specs.Prelude.{List, [], ◌∷◌, ◌++◌, ℕ, zero, suc, ◌+◌, ◌-◌, ◌/◌, ◌%◌, ◌^◌, ◌≤◌, leb, length, take, drop}
use Rattle.bases.specs.declared.place.Pos.{Pos}
use Rattle.bases.specs.Pick.{pick}
use Rattle.bases.specs.Place.{pos_of}
use Rattle.bases.specs.Stretch.{stretch}
use Rattle.fields.specs.Bytes.{LF, TAB}
use Rattle.fields.specs.Field.{field_end, field_at}
use Rattle.normal.specs.declared.entry.NormalEntry.{NormalEntry}
use Rattle.normal.specs.Spelled.{OnBoth}
use Rattle.written.specs.Written.{decimal, alts_spelled}

-- The digit of a number that counts so many, where the number is not below that.
abbrev pub digit_at : ℕ → ℕ → List ℕ
digit_at n unit = pick (leb unit n) ((48 + n / unit % 10) ∷ []) []

-- What the digits of a number count, so many before its last digit: the powers of ten, from the largest.
abbrev pub tens : ℕ → List ℕ
tens zero = []
tens (suc k) = 10 ^ suc k ∷ tens k

-- The alleles of a normal form stand on the reference and in the line; so does what it takes of the reference for REF.
abbrev pub AltsOn : List ℕ → List ℕ → NormalEntry → Type 0
AltsOn reference l n = OnBoth reference l n.start n.first × OnBoth reference l n.start n.second

abbrev pub FormOn : List ℕ → List ℕ → NormalEntry → Type 0
FormOn reference l n = (n.start.0 + n.span ≤ length reference) × AltsOn reference l n

-- A line up to its REF, with another POS.
abbrev pub front_with : List ℕ → Pos → List ℕ
front_with l pos =
    let end = field_end l (field_at 1 l) in
    take (field_at 1 l) l ++ decimal pos.0 ++ take (field_at 3 l - end) (drop end l)

-- A line from its REF on, with the REF and so many ALTs of a normal form, and its LF.
abbrev pub back_with : List ℕ → List ℕ → ℕ → NormalEntry → List ℕ
back_with reference l alts n =
    stretch reference n.start.0 n.span ++ (TAB ∷ []) ++ alts_spelled reference l alts n ++ drop (field_end l (field_at 4 l)) l
    ++ (LF ∷ [])

-- A line with the POS, the REF and so many ALTs of a normal form, and its LF.
abbrev pub line_with : List ℕ → List ℕ → ℕ → NormalEntry → List ℕ
line_with reference l alts n = front_with l (pos_of n.start) ++ back_with reference l alts n
