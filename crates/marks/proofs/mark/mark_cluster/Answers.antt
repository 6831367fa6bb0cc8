-- `marks::mark::mark_cluster` meets its contract: of a cluster that is not too large the table is filled, searched over and its choices
-- written. Assumes nothing.
use Rattle.bases.specs.Letter.{bases_of}
use Rattle.clusters.proofs.HeadsLaws.{ready_readable}
use Rattle.marks.proofs.MarkLaws.{next_small, next_ready, next_undecided, next_decided}
use Rattle.marks.proofs.mark.mark_cluster.Goals as goal

pub returns-then-count-gt-MOST : goal.returns-then-count-gt-MOST
returns-then-count-gt-MOST c = let a = c.args in
    let r = bases_of a.lists.reference.now in
    let t1 = a.lists.first.now in
    let t2 = a.lists.second.now in
    let w = c.put_undecided in
    next_undecided r t1 t2 a.heads a.count c.requires.2 a.marks.now w.new.marks a.at c.if-count-gt-MOST.true w.ensures

pub put_rows-requires : goal.put_rows-requires
put_rows-requires c = let a = c.args in
    let r = bases_of a.lists.reference.now in
    let t1 = a.lists.first.now in
    let t2 = a.lists.second.now in
    let p = c.requires in
    (ready_readable r t1 t2 a.heads p.0.ready, p.2, c.if-count-gt-MOST.false, next_small r t1 t2 a.heads a.count p.2 p.0)

pub best_choices-best-requires : goal.best_choices-best-requires
best_choices-best-requires c = let a = c.args in
    let r = bases_of a.lists.reference.now in
    let t1 = a.lists.first.now in
    let t2 = a.lists.second.now in
    let p = c.requires in
    let w = c.put_rows in
    next_ready r t1 t2 a.heads a.count p.2 p.0 c.if-count-gt-MOST.false a.table.now w.new.table w.ensures

pub returns : goal.returns
returns c = let a = c.args in
    let r = bases_of a.lists.reference.now in
    let t1 = a.lists.first.now in
    let t2 = a.lists.second.now in
    let w = c.put_rows in
    let b = c.best_choices-best in
    let m = c.put_choices in
    next_decided r t1 t2 a.heads a.count c.requires.2 a.marks.now m.new.marks a.at c.if-count-gt-MOST.false
    a.table.now w.new.table w.ensures b.result b.ensures m.ensures
