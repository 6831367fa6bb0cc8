-- What a program prints.
--     wrote_within    what a writer wrote ends in its room
-- Assumes nothing.
use mathlib.Core.List.{List, ◌++◌}
use mathlib.Core.Path.{ap}
use Prim.Native.Nat.{ℕ, ◌+◌, ◌≤◌}
use native.Mathlib.Omega.{arith}
use lib.ListN.{length, take, drop, length-append}
use lib.Seq.{length-take-le}
use Rattle.bases.specs.declared.put.Writer.{Writer}
use Rattle.bases.specs.Wrote.{Wrote}

pub wrote_within : {o n : Writer} {s : List ℕ} → o.at ≤ length o.room.now → Wrote o s n → n.at ≤ length n.room.now
wrote_within {o} {n} {s} fits w =
    let more = drop (o.at + length s) o.room.now in
    omega (
      arith,
      w.at,
      ap length w.room,
      length-append (take o.at o.room.now ++ s) more,
      length-append (take o.at o.room.now) s,
      length-take-le o.at o.room.now fits,
    )
