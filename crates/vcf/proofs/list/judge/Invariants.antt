-- `vcf::list::judge` meets its contract. The loop's invariant: the first fault of the lines that are left, at this stage and line number, is
-- that of all lines; and there are no more lines than bytes, nor records than lines. Assumes nothing.
use mathlib.Core.Path.{◌≡◌}
use Prim.Native.Nat.{◌+◌, ◌≤◌}
use lib.ListN.{length}
use Rattle.bases.specs.Letter.{bases_of}
use Rattle.vcf.specs.Lines.{lines_left}
use Rattle.vcf.specs.List.{lines_of, above, judge_lines, records_behind}
use Rattle.vcf.proofs.list.judge.Given as goal

abbrev pub invariant-loop-line : goal.invariant-loop-line
invariant-loop-line l = (judge_lines (bases_of l.reference) l.name l.stage l.n (lines_left l.line-iterator) ≡ judge_lines (bases_of l.reference) l.name above 1 (lines_of l.text))
    × (l.n + length (lines_left l.line-iterator) ≤ length l.text + 1)
    × (records_behind l.stage ≤ l.n)
