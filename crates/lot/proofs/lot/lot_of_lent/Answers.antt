-- `lot::lot::lot_of_lent` meets its contract: of the runs that are added up the sum is that of the first so many, and what is answered for
-- it is the lot. Assumes nothing.
use Rattle.std.proofs.Common.{◌≡◌, ◌≤◌, ◌<◌, ◌∙◌, length-take, arith}
use Rattle.std.proofs.lemmas.List.{get_or-take}
use Rattle.lot.specs.Run.{most_runs, no_run}
use Rattle.lot.specs.Sum.{runs_read}
use Rattle.lot.proofs.SumLaws.{sum_at, sum_more, sum_bounded, bounded_more, bounded_room, runs_read_le, runs_read_all, sum_answers}
use Rattle.lot.proofs.lot.lot_of_lent.Goals as goal

pub loop-run-init : goal.loop-run-init
unfolding sum_at
loop-run-init c = c.no_sum-sum.ensures

pub add_run-sum-requires : goal.add_run-sum-requires
add_run-sum-requires c =
    let l = c.loop-run in
    let few : l.run-index ≤ most_runs = omega (arith, length-take c.runs_read.result c.args.runs.now, runs_read_le c.args.n) in
    bounded_room l.run-index l.sum.total few (rw l.invariant (sum_bounded c.args.runs.now l.run-index))

pub loop-run-preserved : goal.loop-run-preserved
loop-run-preserved c =
    let l = c.loop-run in
    let runs = c.args.runs.now in
    let read : l.run-index < c.runs_read.result = omega (arith, length-take c.runs_read.result runs) in
    c.add_run-sum.ensures ∙ rw (get_or-take c.runs_read.result runs l.run-index no_run read, l.invariant) (sum_more runs l.run-index)

pub answer_of-requires : goal.answer_of-requires
answer_of-requires c =
    let l = c.loop-run in
    let few : l.run-index ≤ most_runs = omega (arith, length-take c.runs_read.result c.args.runs.now, runs_read_le c.args.n) in
    bounded_more l.run-index l.sum.total few (rw l.invariant (sum_bounded c.args.runs.now l.run-index))

pub returns : goal.returns
returns c =
    let l = c.loop-run in
    let runs = c.args.runs.now in
    let n = c.args.n in
    let all : l.run-index ≡ runs_read n = omega (arith, length-take c.runs_read.result runs) in
    c.answer_of.ensures ∙ rw (l.invariant, all) (sum_answers runs n (λ few. omega (arith, runs_read_all n few)))
