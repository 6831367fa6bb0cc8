-- `card::mark::mark` meets its contract: where the lists are turned away the marks are as they were. Where they are read, the least room
-- holds every cluster and every entry. Assumes nothing.
use mathlib.Core.Path.{sym, ◌∙◌}
use native.Mathlib.Omega.{arith}
use lib.ListN.{length}
use Rattle.card.specs.All.{all_refusal}
use Rattle.card.proofs.MarkLaws.{mark_lists, mark_read}
use Rattle.card.proofs.ReadyLaws.{rooms_answerable}
use Rattle.card.proofs.RefusalLaws.{passed_on, passed_not}
use Rattle.card.proofs.mark.mark.Goals as goal

pub returns-in-Err : goal.returns-in-Err
returns-in-Err c =
    let a = c.args in
    let some = passed_not c.in-Err.refusal (all_refusal a.reference.now a.name.now a.first.now a.second.now (length a.plan.now) (length a.marks.now)) (rw c.is_small-small.ensures at c.in-Err.ensures) in
    let law = mark_lists a.reference.now a.name.now a.first.now a.second.now a.plan.now a.cluster a.marks.now some.1 in
    (rw (law.0, some.0) c.into.ensures, sym law.1)

pub invariant_of-lists : goal.invariant_of-lists
invariant_of-lists c =
    let a = c.args in
    let can =
    rooms_answerable a.reference.now a.name.now a.first.now a.second.now (length a.plan.now) (length a.marks.now) c.is_small-small.result
    c.is_small-small.ensures (passed_on _ _ c.in_default.ensures) in
    record { ready = can.0.ready }

pub is_plan-same-requires : goal.is_plan-same-requires
is_plan-same-requires c =
    let a = c.args in
    let can =
    rooms_answerable a.reference.now a.name.now a.first.now a.second.now (length a.plan.now) (length a.marks.now) c.is_small-small.result
    c.is_small-small.ensures (passed_on _ _ c.in_default.ensures) in
    omega (arith, can.0.clusters)

pub mark_planned-requires : goal.mark_planned-requires
mark_planned-requires c =
    let a = c.args in
    let can =
    rooms_answerable a.reference.now a.name.now a.first.now a.second.now (length a.plan.now) (length a.marks.now) c.is_small-small.result
    c.is_small-small.ensures (passed_on _ _ c.in_default.ensures) in
    (can.0.short, omega (arith, can.0.entries))

pub returns : goal.returns
returns c =
    let a = c.args in
    let z = passed_on _ (all_refusal a.reference.now a.name.now a.first.now a.second.now (length a.plan.now) (length a.marks.now)) (rw c.is_small-small.ensures at c.in_default.ensures) in
    let law = mark_read a.reference.now a.name.now a.first.now a.second.now a.plan.now a.cluster a.marks.now z in
    let left = rw c.is_plan-same.ensures at c.mark_planned.ensures in
    (left.0 ∙ sym law.0, left.1 ∙ sym law.1)
