-- `lot_report::run::is_run` meets its contract. The loop's invariant: the line is a run exactly if it is the counts that are left from `at`
-- on. Assumes nothing.
use mathlib.Core.Path.{◌≡◌}
use Prim.Native.Nat.{◌+◌, ◌-◌, ◌≤◌}
use lib.ListN.{length}
use Rattle.lot_report.specs.Run.{counts_of_run, counts?, run?}
use Rattle.lot_report.proofs.run.is_run.Given as goal

abbrev pub invariant-loop : goal.invariant-loop
invariant-loop l = (l.at ≤ length l.line + 1) × (counts? (counts_of_run - l.counter) l.line l.at ≡ run? l.line)
