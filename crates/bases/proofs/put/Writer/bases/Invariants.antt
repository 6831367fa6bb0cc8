use Rattle.std.proofs.Common.{take}
use Rattle.bases.specs.Letter.{bases_of}
use Rattle.bases.specs.Wrote.{Wrote}
use Rattle.bases.proofs.put.Writer.bases.Given as goal

abbrev pub invariant-loop-byte : goal.invariant-loop-byte
invariant-loop-byte l = Wrote l.initial.self (bases_of (take l.byte-index l.bytes)) l.self
