-- `counts::counted::count_text` meets its contract: what is printed goes by what the card tells of the files. Assumes nothing.
use Prim.Native.Nat.{ℕ}
use native.Mathlib.Omega.{arith}
use lib.ListN.{replicate, length-replicate}
use Rattle.card.specs.Refusal.{least_room}
use Rattle.counts.proofs.CountedLaws.{text_refused, text_counts, text_few, text_accepted}
use Rattle.counts.proofs.counted.count_text.Goals as goal

pub count_lists-requires : goal.count_lists-requires
count_lists-requires c = let a = c.args in
    let told = c.in-Ok.ensures in
    text_counts a.file.now a.name.now a.first.now a.second.now (replicate least_room 0) (length-replicate {A = ℕ} least_room 0) c.in-Ok.field-0 told.0 _ told.1

pub put_counts-requires : goal.put_counts-requires
put_counts-requires c = let a = c.args in
    let told = c.in-Ok.ensures in
    let n = c.count_lists in
    let few = text_few a.file.now a.name.now a.first.now a.second.now (replicate least_room 0) (length-replicate {A = ℕ} least_room 0) c.in-Ok.field-0 told.0 _ told.1
    n.result n.ensures in
    (few.0, few.1, c.requires)

pub put_refused-requires : goal.put_refused-requires
put_refused-requires c = let a = c.args in (
  (text_refused a.file.now a.name.now a.first.now a.second.now (replicate least_room 0) (length-replicate {A = ℕ} least_room 0) c.in-Err.refusal c.in-Err.ensures.0).0,
  omega (arith, c.requires),
)

pub returns-in-Ok : goal.returns-in-Ok
returns-in-Ok c = let a = c.args in
    let told = c.in-Ok.ensures in
    let n = c.count_lists in
    rw (← text_accepted a.file.now a.name.now a.first.now a.second.now (replicate least_room 0) (length-replicate {A = ℕ} least_room 0) c.in-Ok.field-0 told.0 _ told.1
    n.result n.ensures)
    c.put_counts.ensures

pub returns-in-Err : goal.returns-in-Err
returns-in-Err c = let a = c.args in
    rw (← (text_refused a.file.now a.name.now a.first.now a.second.now (replicate least_room 0) (length-replicate {A = ℕ} least_room 0) c.in-Err.refusal c.in-Err.ensures.0).1)
    c.put_refused.ensures
