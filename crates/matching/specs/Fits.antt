-- Whether a choice for the next row of a table overlaps the choices made before it. Overlap is judged on each copy, by what takes room
-- there.
-- Assumes nothing: these are definitions.
use Rattle.std.specs.Prelude.{Bool, not, ◌&&◌, ◌||◌, List, ℕ, zero, suc, ◌+◌, leb}
use Rattle.bases.specs.Pick.{pick}
use Rattle.donors.specs.declared.table.Row.{Row}
use Rattle.donors.specs.Choice.{Choice, Copy, copy0, copy1}
use Rattle.donors.specs.Table.{row_at, room_at?}
use Rattle.donors.specs.Walk.{takes_row?}

-- Where the last of the first n rows ends that takes its span for list j on copy h: 0 where none does.
unfoldable pub end_before : (t : List Row) (φ : List ℕ) → Bool → Copy → ℕ → ℕ
end_before t φ j h zero = 0
end_before t φ j h (suc n) = pick (takes_row? t φ j h n) ((row_at t n).start + (row_at t n).len) (end_before t φ j h n)

-- Row n with this choice takes no span on copy h, or starts where that row of its list ends, or behind it.
abbrev pub fits_on? : (t : List Row) (φ : List ℕ) → ℕ → Choice → Copy → Bool
fits_on? t φ n c h = not (room_at? (row_at t n) c h) || leb (end_before t φ (row_at t n).first h n) (row_at t n).start

-- The same on both copies.
abbrev pub fits? : (t : List Row) (φ : List ℕ) → ℕ → Choice → Bool
fits? t φ n c = fits_on? t φ n c copy0 && fits_on? t φ n c copy1
