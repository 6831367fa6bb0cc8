-- `vcf::entry::above` meets its contract. The loop's invariant: what was counted, and what the lines that are left add, is what all lines have.
-- Assumes nothing.
use mathlib.Core.Path.{◌≡◌}
use Prim.Native.Nat.{◌+◌}
use Rattle.vcf.specs.Entry.{header_bytes, records_at, header_lines, lines_above}
use Rattle.vcf.specs.Lines.{lines_left}
use Rattle.vcf.proofs.entry.above.Given as goal

abbrev pub invariant-loop-line : goal.invariant-loop-line
invariant-loop-line l = (l.lines + header_lines (lines_left l.line-iterator) ≡ lines_above l.text)
    × (l.bytes + header_bytes (lines_left l.line-iterator) ≡ records_at l.text)
