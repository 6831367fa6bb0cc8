-- `card::entries::entries` meets its contract: accepted lists have at most 1,024 entries, so what is lent has room. Assumes nothing.
use Prim.Native.Nat.{◌≤◌}
use native.Mathlib.Omega.{arith}
use borrow.Author.Tests.{ltb-false}
use lib.Dec.{ltb}
use lib.ListN.{length}
use Rattle.bases.specs.Letter.{bases_of}
use Rattle.listed.proofs.ListedLaws.{listed_length}
use Rattle.card.specs.Refusal.{least_room}
use Rattle.card.proofs.ReadyLaws.{lists_answerable}
use Rattle.card.proofs.RefusalLaws.{passed_on}
use Rattle.card.proofs.entries.entries.Goals as goal

pub invariant_of-lists : goal.invariant_of-lists
invariant_of-lists c =
    let a = c.args in
    let small = ltb (length a.entries.now) least_room in
    let can = lists_answerable a.reference.now a.name.now a.first.now a.second.now small (passed_on _ _ c.in_default.ensures) in
    record { ready = can.0.ready }

pub fill_entries-requires : goal.fill_entries-requires
fill_entries-requires c =
    let a = c.args in
    let small = ltb (length a.entries.now) least_room in
    let z = passed_on _ _ c.in_default.ensures in
    let can = lists_answerable a.reference.now a.name.now a.first.now a.second.now small z in
    let roomy : least_room ≤ length a.entries.now = ltb-false (length a.entries.now) least_room can.1 in
    omega (arith, can.0.entries)

pub overflow_cast-fill_entries : goal.overflow_cast-fill_entries
overflow_cast-fill_entries c =
    let a = c.args in
    let small = ltb (length a.entries.now) least_room in
    let z = passed_on _ _ c.in_default.ensures in
    let can = lists_answerable a.reference.now a.name.now a.first.now a.second.now small z in
    let n = c.fill_entries.ensures.0 in
    omega (arith, can.0.entries, listed_length (bases_of a.reference.now) a.first.now a.second.now)
