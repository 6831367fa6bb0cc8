-- `card::all::mark_all` meets its contract: where the lists are read, the least room holds every cluster and every entry, and the score
-- is at most the number of entries. Assumes nothing.
use mathlib.Core.Path.{◌≡◌, sym, ◌∙◌}
use borrow.Author.Rules.{rules}
use native.Mathlib.Omega.{arith}
use lib.ListN.{length}
use Rattle.card.specs.All.{all_refusal, all_marked}
use Rattle.card.specs.Answer.{answer}
use Rattle.card.specs.Mark.{small_room?}
use Rattle.card.proofs.AllLaws.{all_given}
use Rattle.card.proofs.ListsLaws.{lists_none}
use Rattle.card.proofs.ReadyLaws.{rooms_answerable}
use Rattle.card.proofs.RefusalLaws.{passed_on}
use Rattle.card.proofs.all.mark_all.Goals as goal

pub invariant_of-lists : goal.invariant_of-lists
invariant_of-lists c =
    let a = c.args in
    let can =
    rooms_answerable a.reference.now a.name.now a.first.now a.second.now (length a.plan.now) (length a.marks.now) c.is_small-small.result
    c.is_small-small.ensures (passed_on _ _ c.in_default.ensures) in
    record { ready = can.0.ready }

pub fill_plan-clusters-requires : goal.fill_plan-clusters-requires
fill_plan-clusters-requires c =
    let a = c.args in
    let can =
    rooms_answerable a.reference.now a.name.now a.first.now a.second.now (length a.plan.now) (length a.marks.now) c.is_small-small.result
    c.is_small-small.ensures (passed_on _ _ c.in_default.ensures) in
    omega (arith, can.0.clusters)

pub mark_every-score-requires : goal.mark_every-score-requires
mark_every-score-requires c =
    let a = c.args in
    let can =
    rooms_answerable a.reference.now a.name.now a.first.now a.second.now (length a.plan.now) (length a.marks.now) c.is_small-small.result
    c.is_small-small.ensures (passed_on _ _ c.in_default.ensures) in
    (can.0.short, omega (arith, can.0.entries))

pub overflow_cast-clusters : goal.overflow_cast-clusters
overflow_cast-clusters c =
    let a = c.args in
    let can =
    rooms_answerable a.reference.now a.name.now a.first.now a.second.now (length a.plan.now) (length a.marks.now) c.is_small-small.result
    c.is_small-small.ensures (passed_on _ _ c.in_default.ensures) in
    let n = c.fill_plan-clusters.ensures.0 in
    omega (arith, can.0.clusters)

pub overflow_cast-score : goal.overflow_cast-score
overflow_cast-score c =
    let a = c.args in
    let can =
    rooms_answerable a.reference.now a.name.now a.first.now a.second.now (length a.plan.now) (length a.marks.now) c.is_small-small.result
    c.is_small-small.ensures (passed_on _ _ c.in_default.ensures) in
    let n = c.mark_every-score.ensures.0 in
    omega (arith, can.0.score)

pub returns : goal.returns
returns c =
    let a = c.args in
    let z = passed_on _ (all_refusal a.reference.now a.name.now a.first.now a.second.now (length a.plan.now) (length a.marks.now)) (rw c.is_small-small.ensures at c.in_default.ensures) in
    let none = lists_none a.reference.now a.name.now a.first.now (small_room? (length a.plan.now) (length a.marks.now)) a.second.now z in
    let law = all_given a.reference.now a.name.now a.first.now a.second.now a.plan.now a.marks.now z in
    let zeros : c.default.result ≡ all_marked (answer 0 0 0 0 0) 0 0 = search rules in
    (rw (zeros, law.0, none, c.fill_plan-clusters.ensures.0, c.mark_every-score.ensures.0), c.fill_plan-clusters.ensures.1 ∙ sym law.1, c.mark_every-score.ensures.1 ∙ sym law.2)
