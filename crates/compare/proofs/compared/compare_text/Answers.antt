-- `compare::compared::compare_text` meets its contract: what is printed goes by what the card tells of the files. Assumes nothing.
use Prim.Native.Nat.{ℕ}
use native.Mathlib.Omega.{arith}
use lib.ListN.{replicate, length-replicate}
use Rattle.card.specs.Refusal.{least_room}
use Rattle.compare.proofs.MarkedLaws.{text_refused, text_makes, text_accepted}
use Rattle.compare.proofs.compared.compare_text.Goals as goal

pub make_text-requires : goal.make_text-requires
make_text-requires c = let a = c.args in
    let told = c.in-Ok.ensures in
    (text_makes a.file.now a.name.now a.first.now a.second.now (replicate least_room 0) (length-replicate {A = ℕ} least_room 0) c.in-Ok.marked told.0 _ told.1, c.requires)

pub put_refused-requires : goal.put_refused-requires
put_refused-requires c = let a = c.args in (
  (text_refused a.file.now a.name.now a.first.now a.second.now (replicate least_room 0) (length-replicate {A = ℕ} least_room 0) c.in-Err.refusal c.in-Err.ensures.0).0,
  omega (arith, c.requires),
)

pub returns-in-Ok : goal.returns-in-Ok
returns-in-Ok c = let a = c.args in
    let told = c.in-Ok.ensures in
    rw (← text_accepted a.file.now a.name.now a.first.now a.second.now (replicate least_room 0) (length-replicate {A = ℕ} least_room 0) c.in-Ok.marked told.0 _ told.1)
    c.make_text.ensures

pub returns-in-Err : goal.returns-in-Err
returns-in-Err c = let a = c.args in
    rw (← (text_refused a.file.now a.name.now a.first.now a.second.now (replicate least_room 0) (length-replicate {A = ℕ} least_room 0) c.in-Err.refusal c.in-Err.ensures.0).1)
    c.put_refused.ensures
