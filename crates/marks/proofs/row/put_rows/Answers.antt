-- `marks::row::put_rows` meets its contract: the next entries are those that the walk yields. Assumes nothing.
use Rattle.std.proofs.Common.{◌≤◌, ap, length, map, arith, rules}
use Rattle.std.specs.Prelude.{take}
use lib.ListN.{length-take}
use Rattle.clusters.specs.Heads.{items_from}
use Rattle.clusters.proofs.CardClusters.{map_length}
use Rattle.clusters.proofs.Filling.{fill_more}
use Rattle.marks.specs.Row.{row_of}
use Rattle.marks.proofs.TakeLaws.{take_step}
use Rattle.marks.proofs.row.put_rows.Goals as goal

pub row_of-requires : goal.row_of-requires
row_of-requires c =
    let s = c.in-Some.ensures.steps in
    (rw (take_step _ _ s.0.0 s.0.1) at c.loop-i.invariant.3).0

pub loop-i-preserved : goal.loop-i-preserved
loop-i-preserved c =
    let a = c.args in
    let l = c.loop-i in
    let s = c.in-Some.ensures.steps in
    let split = take_step _ _ s.0.0 s.0.1 in
    let items = take a.count (items_from a.first.now a.second.now a.heads) in
    let room : length (map row_of items) ≤ length a.table.now =
    omega (arith, map_length row_of items, length-take a.count (items_from a.first.now a.second.now a.heads), c.requires.2) in (
      search rules,
      tt,
      omega (arith, l.invariant.2, ap length s.0.0, s.0.1),
      (rw split at l.invariant.3).1,
      rw (s.2, s.1, c.row_of.ensures) (fill_more (map row_of items) a.table.now l.invariant.4 (ap (map row_of) split) room),
    )
