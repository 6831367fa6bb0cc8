-- `marks::mark::mark_from` meets its contract. The loop's invariant: what is still to be marked gives the whole score and all marks
-- (`Marking`, of EveryLaws). The measure is the number of entries that are left. Assumes nothing.
use mathlib.Core.Bool.{true, false}
use mathlib.Core.Path.{◌≡◌, ap}
use native.Mathlib.Omega.{arith}
use Rattle.std.proofs.Common.{rules}
use Rattle.bases.specs.Letter.{bases_of}
use Rattle.clusters.specs.declared.cluster.Found.{Found}
use Rattle.clusters.specs.Heads.{done?}
use Rattle.clusters.proofs.NextLaws.{count_some, count_le}
use Rattle.marks.proofs.EveryLaws.{marking_start, marking_more, marking_last}
use Rattle.marks.proofs.mark.mark_from.Goals as goal

pub loop-heads-init : goal.loop-heads-init
loop-heads-init c = let a = c.args in
    let r = bases_of a.lists.reference.now in
    let t1 = a.lists.first.now in
    let t2 = a.lists.second.now in
    let p = c.requires in
    marking_start r t1 t2 a.marks.now a.from p.0 p.1

pub next_cluster-found-requires : goal.next_cluster-found-requires
next_cluster-found-requires c = let a = c.args in
    let r = bases_of a.lists.reference.now in
    let t1 = a.lists.first.now in
    let t2 = a.lists.second.now in
    let l = c.loop-heads in
    let d : done? t1 t2 l.heads ≡ false = search rules in
    (d, l.invariant.markable.ready)

pub mark_cluster-marked-requires : goal.mark_cluster-marked-requires
mark_cluster-marked-requires c = let a = c.args in
    let r = bases_of a.lists.reference.now in
    let t1 = a.lists.first.now in
    let t2 = a.lists.second.now in
    let l = c.loop-heads in
    let d : done? t1 t2 l.heads ≡ false = search rules in
    let e = ap (λ (z : Found). z.count) c.next_cluster-found.ensures in (
      l.invariant.markable,
      omega (arith, count_some r t1 t2 l.heads d),
      omega (arith, count_le r t1 t2 l.heads d),
      omega (arith, count_le r t1 t2 l.heads d, l.invariant.fits),
    )

pub overflow_add-total : goal.overflow_add-total
overflow_add-total c = let a = c.args in
    let r = bases_of a.lists.reference.now in
    let t1 = a.lists.first.now in
    let t2 = a.lists.second.now in
    let l = c.loop-heads in
    let d : done? t1 t2 l.heads ≡ false = search rules in
    let f = c.next_cluster-found in
    let k = c.mark_cluster-marked in
    let w = marking_more r t1 t2 a.marks.now a.from l.marks l.heads l.at l.total l.invariant d f.ensures k.ensures.0 k.ensures.1 in
    omega (arith, w.0.low, w.0.fits, w.0.space, c.well_formed)

pub overflow_add-at : goal.overflow_add-at
overflow_add-at c = let a = c.args in
    let r = bases_of a.lists.reference.now in
    let t1 = a.lists.first.now in
    let t2 = a.lists.second.now in
    let l = c.loop-heads in
    let d : done? t1 t2 l.heads ≡ false = search rules in
    let f = c.next_cluster-found in
    let k = c.mark_cluster-marked in
    let w = marking_more r t1 t2 a.marks.now a.from l.marks l.heads l.at l.total l.invariant d f.ensures k.ensures.0 k.ensures.1 in
    omega (arith, w.0.fits, w.0.space, c.well_formed)

pub loop-heads-smaller : goal.loop-heads-smaller
loop-heads-smaller c = let a = c.args in
    let r = bases_of a.lists.reference.now in
    let t1 = a.lists.first.now in
    let t2 = a.lists.second.now in
    let l = c.loop-heads in
    let d : done? t1 t2 l.heads ≡ false = search rules in
    let f = c.next_cluster-found in
    let k = c.mark_cluster-marked in
    let w = marking_more r t1 t2 a.marks.now a.from l.marks l.heads l.at l.total l.invariant d f.ensures k.ensures.0 k.ensures.1 in
    w.1

pub loop-heads-preserved : goal.loop-heads-preserved
loop-heads-preserved c = let a = c.args in
    let r = bases_of a.lists.reference.now in
    let t1 = a.lists.first.now in
    let t2 = a.lists.second.now in
    let l = c.loop-heads in
    let d : done? t1 t2 l.heads ≡ false = search rules in
    let f = c.next_cluster-found in
    let k = c.mark_cluster-marked in
    let w = marking_more r t1 t2 a.marks.now a.from l.marks l.heads l.at l.total l.invariant d f.ensures k.ensures.0 k.ensures.1 in
    rw c.score-score.ensures w.0

pub shape_of-marks : goal.shape_of-marks
shape_of-marks c = c.loop-heads.invariant.space

pub returns : goal.returns
returns c = let a = c.args in
    let r = bases_of a.lists.reference.now in
    let t1 = a.lists.first.now in
    let t2 = a.lists.second.now in
    let l = c.loop-heads in
    let d : done? t1 t2 l.heads ≡ true = search rules in
    marking_last r t1 t2 a.marks.now a.from l.marks l.heads l.at l.total l.invariant d
