-- `lot_report::runs::first_runs` meets its contract. The loop's invariant: once the runs on the lines that are left are read into the room
-- from run n on, it is what it has to be (`filled`, of ReadLaws), and n and the lines still to take are 256 together. Assumes nothing.
use mathlib.Core.Path.{◌≡◌}
use Prim.Native.Nat.{◌+◌}
use Rattle.std.specs.Iterator.Adapters.{enumerate_source, enumerate_count, take_source, take_count}
use lib.Dec.{T}
use lib.ListN.{length, take}
use Rattle.bases.specs.Put.{put}
use Rattle.lot.specs.Run.{most_runs}
use Rattle.vcf.specs.Lines.{lines_left}
use Rattle.vcf.specs.List.{lines_of}
use Rattle.lot_report.specs.Run.{runs_on, no_runs, all_runs?}
use Rattle.lot_report.proofs.ReadLaws.{filled}
use Rattle.lot_report.proofs.runs.first_runs.Given as goal

abbrev pub invariant-loop-n : goal.invariant-loop-n
invariant-loop-n l =
    let n = enumerate_count l.n-iterator in
    let left = lines_left (take_source (enumerate_source l.n-iterator)) in
    (goal.iterator-loop-n).can_next l.n-iterator
    × (goal.iterator-loop-n).is_finite l.n-iterator
    × (n + take_count (enumerate_source l.n-iterator) ≡ most_runs)
    × T (all_runs? left)
    × (length l.runs ≡ most_runs)
    × (filled left n l.runs ≡ put no_runs 0 (take most_runs (runs_on (lines_of l.text))))
