-- `card::plan::plan` meets its contract: accepted lists have at most 1,024 entries, and no more clusters, so what is lent has room.
-- Assumes nothing.
use Prim.Native.Nat.{◌≤◌}
use native.Mathlib.Omega.{arith}
use borrow.Author.Tests.{ltb-false}
use lib.Dec.{ltb}
use lib.ListN.{length}
use Rattle.card.specs.Refusal.{least_room}
use Rattle.card.proofs.ReadyLaws.{lists_answerable}
use Rattle.card.proofs.RefusalLaws.{passed_on}
use Rattle.card.proofs.plan.plan.Goals as goal

pub invariant_of-lists : goal.invariant_of-lists
invariant_of-lists c =
    let a = c.args in
    let small = ltb (length a.plan.now) least_room in
    let can = lists_answerable a.reference.now a.name.now a.first.now a.second.now small (passed_on _ _ c.in_default.ensures) in
    record { ready = can.0.ready }

pub fill_plan-requires : goal.fill_plan-requires
fill_plan-requires c =
    let a = c.args in
    let small = ltb (length a.plan.now) least_room in
    let z = passed_on _ _ c.in_default.ensures in
    let can = lists_answerable a.reference.now a.name.now a.first.now a.second.now small z in
    let roomy : least_room ≤ length a.plan.now = ltb-false (length a.plan.now) least_room can.1 in
    omega (arith, can.0.clusters)

pub overflow_cast-fill_plan : goal.overflow_cast-fill_plan
overflow_cast-fill_plan c =
    let a = c.args in
    let small = ltb (length a.plan.now) least_room in
    let z = passed_on _ _ c.in_default.ensures in
    let can = lists_answerable a.reference.now a.name.now a.first.now a.second.now small z in
    let n = c.fill_plan.ensures.0 in
    omega (arith, can.0.clusters)
