-- `fields::bytes::find` meets its contract: the byte at i ends the search or is passed. Assumes nothing.
use mathlib.Core.Path.{◌≡◌, ◌∙◌}
use Prim.Native.Nat.{◌+◌, ◌<◌}
use native.Mathlib.Decide.{dec_lt}
use native.Mathlib.Omega.{arith}
use Rattle.std.proofs.Math.Nat.{max-eq_left, max-eq_right}
use lib.ListN.{length, drop}
use Rattle.fields.specs.Bytes.{until}
use Rattle.fields.proofs.BytesLaws.{until_stop, until_more, until_past}
use Rattle.fields.proofs.bytes.find.Goals as goal

pub returns-then-bytes-i : goal.returns-then-bytes-i
returns-then-bytes-i c = omega (arith, until_stop c.args.x c.args.bytes.now c.loop-i.i (omega arith) c.if-bytes-i.true)

pub loop-i-preserved : goal.loop-i-preserved
loop-i-preserved c = omega (arith, until_more c.args.x c.args.bytes.now c.loop-i.i (omega arith) c.if-bytes-i.false)

pub returns : goal.returns
returns c = let l = c.args.bytes.now in
    let past = until_past c.args.x l c.loop-i.i (omega arith) in
    go past (dec_lt c.args.from (length l))
  where
    go : until c.args.x (drop c.loop-i.i c.args.bytes.now) ≡ 0 → Dec (c.args.from < length c.args.bytes.now) → c.max.result ≡ c.args.from + until c.args.x (drop c.args.from c.args.bytes.now)
    go past (yes h) = c.max.ensures ∙ max-eq_right (omega arith) ∙ omega arith
    go past (no h) = c.max.ensures ∙ max-eq_left (omega arith) ∙ omega (arith, until_past c.args.x c.args.bytes.now c.args.from (omega arith))
