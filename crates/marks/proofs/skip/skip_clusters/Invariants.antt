-- The loop of `marks::skip::skip_clusters`: behind as many clusters more as turns are left the walk comes to where it is to come, and the
-- entries before the cursors and behind them are no more than there are bytes.
use mathlib.Core.Path.{◌≡◌}
use Prim.Native.Nat.{◌+◌, ◌-◌, ◌≤◌}
use lib.ListN.{length}
use Rattle.bases.specs.Letter.{bases_of}
use Rattle.clusters.specs.Heads.{Ready, start_heads, items_from}
use Rattle.marks.specs.Skip.{skip_clusters}
use Rattle.marks.proofs.skip.skip_clusters.Given as goal

abbrev pub invariant-loop : goal.invariant-loop
invariant-loop l = record {
  comes : skip_clusters (bases_of l.lists.reference.now) l.lists.first.now l.lists.second.now (l.k - l.counter) l.heads l.entries ≡ skip_clusters (bases_of l.lists.reference.now) l.lists.first.now l.lists.second.now l.k (start_heads l.lists.first.now l.lists.second.now) 0;
  ready : Ready (bases_of l.lists.reference.now) l.lists.first.now l.lists.second.now l.heads;
  few : l.entries + length (items_from l.lists.first.now l.lists.second.now l.heads) ≤ length l.lists.first.now + length l.lists.second.now;
}
