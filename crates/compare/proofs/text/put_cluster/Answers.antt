-- `compare::text::put_cluster` meets its contract. The loop's invariant: behind k entries, what is left to write are the lines of the
-- others (`Putting`, of LinesLaws). Assumes nothing.
use mathlib.Core.Path.{ap}
use native.Mathlib.Omega.{arith}
use Rattle.clusters.specs.Merged.{key_of}
use Rattle.clusters.proofs.HeadsLaws.{items_step}
use Rattle.compare.proofs.LinesLaws.{putting_begin, putting_left, putting_more, putting_end}
use Rattle.compare.proofs.ReadLaws.{next_pos}
use Rattle.compare.proofs.text.put_cluster.Goals as goal

pub loop-mark-init : goal.loop-mark-init
loop-mark-init c = let a = c.args in
    let h = c.requires in
    putting_begin a.first.now a.second.now a.marks.now a.cluster a.heads a.out.now h.0 h.1 h.3

pub next_item-item-requires : goal.next_item-item-requires
next_item-item-requires c = let a = c.args in
    let l = c.loop-mark in
    let d = putting_left a.first.now a.second.now a.marks.now a.cluster a.heads a.out.now l.head l.mark-index l.out l.invariant c.loop-mark-test.true in
    (d, l.invariant.readable.readable1, l.invariant.readable.readable2)

pub put_entry-requires : goal.put_entry-requires
put_entry-requires c = let a = c.args in
    let l = c.loop-mark in
    let d = putting_left a.first.now a.second.now a.marks.now a.cluster a.heads a.out.now l.head l.mark-index l.out l.invariant c.loop-mark-test.true in
    (omega (arith, next_pos a.first.now a.second.now l.head d, ap key_of c.next_item-item.ensures), c.requires.2, omega (arith, l.invariant.room, c.loop-mark-test.true))

pub after-head-requires : goal.after-head-requires
after-head-requires c = let a = c.args in
    let l = c.loop-mark in
    let d = putting_left a.first.now a.second.now a.marks.now a.cluster a.heads a.out.now l.head l.mark-index l.out l.invariant c.loop-mark-test.true in
    rw c.next_item-item.ensures (items_step a.first.now a.second.now l.head d).inside

pub loop-mark-preserved : goal.loop-mark-preserved
loop-mark-preserved c = let a = c.args in
    let l = c.loop-mark in
    let p = c.put_entry in
    rw (c.after-head.ensures, c.next_item-item.ensures)
    (putting_more a.first.now a.second.now a.marks.now a.cluster a.heads a.out.now l.head l.mark-index l.out l.invariant c.loop-mark-test.true p.new.out
    (rw c.next_item-item.ensures at p.ensures))

pub returns : goal.returns
returns c = let a = c.args in
    let l = c.loop-mark in
    putting_end a.first.now a.second.now a.marks.now a.cluster a.heads a.out.now l.head l.mark-index l.out l.invariant c.loop-mark-test.false
