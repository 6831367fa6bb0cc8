-- Where two bases q apart differ, nearest to a place: how the periods of a stretch are tried. For this crate's own functions.
-- Assumes nothing: these are definitions.
use Rattle.std.specs.Prelude.{Bool, not, List, Option, None, Some, ℕ, zero, suc, ◌+◌, ◌-◌, eqb, length, get_or}
use Rattle.bases.specs.Pick.{pick}

-- The bases at i and q behind it differ.
abbrev pub differ? : ℕ → List ℕ → ℕ → Bool
differ? q y i = not (eqb (get_or y i 0) (get_or y (i + q) 0))

-- The first of the n places from i on where they differ.
unfoldable pub upper : ℕ → List ℕ → ℕ → ℕ → Option ℕ
upper q y i zero = None
upper q y i (suc n) = pick (differ? q y i) (Some i) (upper q y (i + 1) n)

-- Both ways, of the n places from `above` up and of those below `below` down: one up, one down, in turn, and at last those left above.
unfoldable pub nearest : ℕ → List ℕ → ℕ → ℕ → ℕ → Option ℕ
nearest q y above n zero = upper q y above n
nearest q y above zero (suc below) = pick (differ? q y below) (Some below) (nearest q y above zero below)
nearest q y above (suc n) (suc below) =
    pick (differ? q y above) (Some above) (pick (differ? q y below) (Some below) (nearest q y (above + 1) n below))

-- From a place on, over all that have a base q behind them.
abbrev pub nearest_to : ℕ → ℕ → List ℕ → Option ℕ
nearest_to at q y = nearest q y at (length y - q - at) at
