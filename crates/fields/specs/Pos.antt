-- POS: 1 to 65,535, decimal, no leading zero.
-- Assumes nothing: these are definitions.
use Rattle.std.specs.Prelude.{Bool, true, not, ◌&&◌, List, [], ◌∷◌, ℕ, ◌+◌, ◌-◌, ◌*◌, eqb, leb, get_or}
use Rattle.bases.specs.Pick.{pick}
use Rattle.bases.specs.declared.place.Pos.{Pos}

-- 0 to 9, as a byte.
abbrev pub digit? : ℕ → Bool
digit? b = leb 48 b && leb b 57

unfoldable pub all_digits? : List ℕ → Bool
all_digits? [] = true
all_digits? (b ∷ bs) = digit? b && all_digits? bs

-- The number that decimal digits write, behind digits that write v.
unfoldable pub value_from : ℕ → List ℕ → ℕ
value_from v [] = v
value_from v (b ∷ bs) = value_from (v * 10 + (b - 48)) bs

abbrev pub largest_pos : ℕ
largest_pos = 65535

-- The field is a POS.
unfoldable pub is_pos? : List ℕ → Bool
is_pos? f = all_digits? f && (not (eqb (get_or f 0 48) 48) && leb (value_from 0 f) largest_pos)

-- No POS: 0, which is none since POS counts from 1.
abbrev pub no_pos : Pos
no_pos = record { 0 = 0 }

-- The POS that the field writes; `no_pos` where it writes none, and then row 8 holds.
abbrev pub read_pos : List ℕ → Pos
read_pos f = record { 0 = pick (is_pos? f) (value_from 0 f) no_pos.0 }
