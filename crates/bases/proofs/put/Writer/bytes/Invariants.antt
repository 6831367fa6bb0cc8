-- `bases::put::Writer::bytes` meets its contract. The loop's invariant: the first i bytes stand from where the writer stands on, and
-- nothing else has changed. Assumes nothing.
use mathlib.Core.Path.{◌≡◌}
use lib.ListN.{length}
use lib.Seq.{paste}
use Rattle.bases.proofs.put.Writer.bytes.Given as goal

abbrev pub invariant-loop-i : goal.invariant-loop-i
invariant-loop-i l = (l.self.at ≡ l.initial.self.at)
    × (l.self.room.ghost_name ≡ l.initial.self.room.ghost_name)
    × (length l.self.room.now ≡ length l.initial.self.room.now)
    × (l.self.room.now ≡ paste l.initial.self.room.now l.initial.self.at l.bytes l.i)
