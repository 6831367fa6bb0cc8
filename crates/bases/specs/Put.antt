-- What is written into lent room.
-- Assumes nothing: these are definitions.
use Rattle.std.specs.Prelude.{List, ◌++◌, ℕ, ◌+◌, length, take, drop}

-- Room with something written from a place on: nothing else of it changes.
abbrev pub put : {A : Type 0} → List A → ℕ → List A → List A
put d at s = take at d ++ s ++ drop (at + length s) d
