-- `marks::count::count_all` meets its contract. Assumes nothing.
use Rattle.std.proofs.Common.{◌≡◌, ap, sym, ◌∙◌, arith, length}
use lib.Seq.{take-length}
use Rattle.marks.specs.Counts.{count_all}
use Rattle.marks.proofs.CountLaws.{count_none, count_next, count_few}
use Rattle.marks.proofs.count.count_all.Goals as goal

pub loop-mark-init : goal.loop-mark-init
loop-mark-init c = count_none c.default-count.result c.default-count.ensures

pub add_mark-count-requires : goal.add_mark-count-requires
add_mark-count-requires c =
    let l = c.loop-mark in
    rw l.invariant (count_few c.args.marks.now l.mark-index (omega arith) (omega (arith, c.requires)))

pub loop-mark-preserved : goal.loop-mark-preserved
loop-mark-preserved c =
    let l = c.loop-mark in
    c.add_mark-count.ensures ∙ rw l.invariant (sym (count_next c.args.marks.now l.mark-index c.loop-mark-test.true))

pub returns : goal.returns
returns c =
    let l = c.loop-mark in
    let all : l.mark-index ≡ length c.args.marks.now = omega arith in
    l.invariant ∙ ap count_all (rw all (take-length c.args.marks.now))
