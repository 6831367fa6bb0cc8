-- A walk over the lines of a text yields them all, in order.
--     YieldsList-from_lines_of     the chain proof of a walk, for the library's lemmas on chains of iterators
-- Assumes nothing.
use mathlib.Core.List.{List}
use mathlib.Core.Path.{◌≡◌}
use Prim.Native.Nat.{ℕ}
use Rattle.std.proofs.lemmas.Iterator.{YieldsList}
use Rattle.std.proofs.lemmas.Iterator.Consumers.{YieldsList-from_first}
use Rattle.std.specs.Iterator.{YieldsFirstRef}
use Rattle.vcf.specs.declared.lines.Lines.{Lines}
use Rattle.vcf.specs.Lines.{lines_left}
use Rattle.vcf.specs.List.{lines_of}

pub YieldsList-from_lines_of : {walk : Lines} (t : List ℕ) → lines_left walk ≡ lines_of t → YieldsList (YieldsFirstRef lines_left) (λ l. l.now) walk (lines_of t)
YieldsList-from_lines_of t e = YieldsList-from_first (λ l. l.now) lines_left (lines_of t) e
