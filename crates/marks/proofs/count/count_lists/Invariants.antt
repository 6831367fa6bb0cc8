-- The loop of `marks::count::count_lists`: what is counted are the entries that have come (`Counting`).
use Rattle.std.proofs.Common.{length}
use Rattle.std.specs.Iterator.Adapters.{zip_first, zip_second}
use Rattle.std.specs.Slice.Iter.{iter_rest}
use Rattle.clusters.specs.Items.{items_left}
use Rattle.clusters.specs.Merged.{merged_items}
use Rattle.marks.proofs.CountingLaws.{Counting}
use Rattle.marks.proofs.count.count_lists.Given as goal

abbrev pub invariant-loop-item : goal.invariant-loop-item
invariant-loop-item l =
    (goal.iterator-loop-item).can_next l.item-iterator
    × (goal.iterator-loop-item).is_finite l.item-iterator
    × Counting (merged_items l.first l.second) l.marks l.counts (items_left (zip_first l.item-iterator)) (iter_rest (zip_second l.item-iterator)) (length l.yielded)
