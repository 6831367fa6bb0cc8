-- What is written one behind another into lent room, by a writer that holds the room and where the next byte goes.
-- Assumes nothing: these are definitions.
use Rattle.std.specs.Prelude.{◌≡◌, List, ℕ, ◌+◌, ◌≤◌, length}
use Rattle.bases.specs.declared.put.Writer.{Writer}
use Rattle.bases.specs.Put.{put}

-- There is room for n bytes more.
abbrev pub HasRoom : Writer → ℕ → Type 0
HasRoom o n = o.at + n ≤ length o.room.now

-- The bytes s were written: they stand where the writer stood, it stands behind them, and nothing else of the room, which is the same, has
-- changed.
pub record Wrote (old : Writer) (s : List ℕ) (new : Writer) : Type 0 where
  pub at : new.at ≡ old.at + length s
  pub room : new.room.now ≡ put old.room.now old.at s
  pub long : length new.room.now ≡ length old.room.now
  pub same : new.room.ghost_name ≡ old.room.ghost_name
