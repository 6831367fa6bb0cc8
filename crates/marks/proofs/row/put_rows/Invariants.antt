-- The loop of `marks::row::put_rows`: the rows of the entries that are left, written from place i on, give the whole table (`Filling`, of crate
-- clusters).
use Rattle.std.proofs.Common.{◌≤◌, length, map}
use Rattle.std.specs.Prelude.{take}
use Rattle.std.specs.Iterator.Adapters.{enumerate_source, enumerate_count, take_source, take_count}
use Rattle.donors.specs.Apart.{All}
use Rattle.clusters.specs.Heads.{items_from}
use Rattle.clusters.specs.Items.{items_left}
use Rattle.clusters.proofs.Filling.{Filling}
use Rattle.marks.specs.Row.{row_of, SmallEntry}
use Rattle.marks.proofs.row.put_rows.Given as goal

abbrev pub invariant-loop-i : goal.invariant-loop-i
invariant-loop-i l =
    let n = take_count (enumerate_source l.i-iterator) in
    let left = items_left (take_source (enumerate_source l.i-iterator)) in
    (goal.iterator-loop-i).can_next l.i-iterator
    × (goal.iterator-loop-i).is_finite l.i-iterator
    × (n ≤ length left)
    × All SmallEntry (take n left)
    × Filling (map row_of (take l.count (items_from l.first l.second l.fn.heads))) l.fn.table (map row_of (take n left)) (enumerate_count l.i-iterator) l.table
