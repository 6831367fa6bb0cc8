-- A count in a line of runs.tsv: decimal, no leading zero (`0` itself is fine), of any size. What is above 4,294,967,295 is read as that,
-- and so is refused by the lot.
-- Assumes nothing: these are definitions.
use Rattle.std.specs.Prelude.{Bool, not, ◌&&◌, ◌||◌, List, ℕ, eqb, leb, length, get_or}
use Rattle.bases.specs.Pick.{pick}
use Rattle.fields.specs.Pos.{all_digits?, value_from}

-- The field is a count.
abbrev pub count? : List ℕ → Bool
count? f = all_digits? f && (eqb (length f) 1 || not (eqb (get_or f 0 48) 48))

-- The largest count that is told from larger ones.
abbrev pub largest_count : ℕ
largest_count = 4294967295

-- A number, or the largest count where it is above that.
abbrev pub capped : ℕ → ℕ
capped n = pick (leb n largest_count) n largest_count

-- The count that the field writes.
abbrev pub count_of : List ℕ → ℕ
count_of f = capped (value_from 0 f)
