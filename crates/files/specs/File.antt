-- The files of the programs. Document 01: reference.txt is bases, then one LF; the name is `chr1`, where a program is given no other.
-- Assumes nothing: these are definitions.
use Rattle.std.specs.Prelude.{Bool, ◌&&◌, List, [], ◌∷◌, ◌≡◌, ℕ, ◌-◌, ◌≤◌, eqb, ltb, length, get_or, take}
use Rattle.fields.specs.Bytes.{LF}

-- So many bytes are a first part of the room: `&room[..n]` is in bounds and has n bytes.
abbrev pub IsPrefixLen : ℕ → List ℕ → Type 0
IsPrefixLen n room = (n ≤ length room) × (n ≡ length (take n room))

-- chr1
abbrev pub chrom_name : List ℕ
chrom_name = 99 ∷ 104 ∷ 114 ∷ 49 ∷ []

-- The file ends in LF.
abbrev pub ends_in_lf? : List ℕ → Bool
ends_in_lf? file = ltb 0 (length file) && eqb (get_or file (length file - 1) 0) LF

-- The reference that the file holds: all but its last byte.
abbrev pub reference_in : List ℕ → List ℕ
reference_in file = take (length file - 1) file
