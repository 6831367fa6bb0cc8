-- `fields::bytes::find` meets its contract. The loop's invariant: what is found from i on is what is found from the start on. Assumes nothing.
use mathlib.Core.Path.{◌≡◌}
use Prim.Native.Nat.{◌+◌}
use lib.ListN.{drop}
use Rattle.fields.specs.Bytes.{until}
use Rattle.fields.proofs.bytes.find.Given as goal

abbrev pub invariant-loop-i : goal.invariant-loop-i
invariant-loop-i l = l.i + until l.x (drop l.i l.bytes) ≡ l.from + until l.x (drop l.from l.bytes)
