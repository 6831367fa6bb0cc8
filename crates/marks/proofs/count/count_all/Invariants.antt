-- The loop of `marks::count::count_all`: what is counted are the first marks, as many as were looked at.
use mathlib.Core.Path.{◌≡◌}
use lib.ListN.{take}
use Rattle.marks.specs.Counts.{count_all}
use Rattle.marks.proofs.count.count_all.Given as goal

abbrev pub invariant-loop-mark : goal.invariant-loop-mark
invariant-loop-mark l = l.count ≡ count_all (take l.mark-index l.marks)
