-- The call `plan`, in document 01's words.
--     plan_refused_iff, plan_answered_iff    a refusal is given exactly if its row holds and none before it in the order does; an answer
--                                            exactly if none holds
--     answer_refused, answer_given           what such a call answers, and what is left of what it is lent, by the refusal
-- Assumes nothing.
use mathlib.Core.List.{List}
use mathlib.Core.Logic.{◌↔◌, ◌≢◌}
use mathlib.Core.Path.{◌≡◌}
use Prim.Native.Nat.{ℕ}
use borrow.Author.Tests.{eq-eqb, ne_eqb}
use lib.Dec.{eqb, ltb}
use Rattle.bases.specs.Pick.{pick}
use Rattle.card.specs.declared.refusal.Refusal.{Refusal}
use Rattle.card.specs.Answer.{answer, refused_answer, answer_of}
use Rattle.card.specs.Plan.{plan_refusal}
use Rattle.card.specs.Refusal.{no_refusal, least_room, lists_checks}
use Rattle.card.proofs.ListsLaws.{lists_numbered}
use Rattle.bases.proofs.FirstLaws.{NoneHolds, First}
use Rattle.card.proofs.RefusalLaws.{refused_iff, answered_iff}

module _ (reference name first second : List ℕ) (room : ℕ) where
  pub plan_refused_iff : (r : Refusal) → ((plan_refusal reference name first second room ≡ r) × (r.number ≢ 0)) ↔ First r (lists_checks reference name first second (ltb room least_room))
  plan_refused_iff = refused_iff (lists_checks reference name first second (ltb room least_room)) (lists_numbered reference name first (ltb room least_room) second)

  pub plan_answered_iff : (plan_refusal reference name first second room ≡ no_refusal) ↔ NoneHolds (lists_checks reference name first second (ltb room least_room))
  plan_answered_iff = answered_iff (lists_checks reference name first second (ltb room least_room)) (lists_numbered reference name first (ltb room least_room) second)

module _ {A : Type 0} (r : Refusal) (n : ℕ) (written ys : List A) where
  pub answer_refused : r.number ≢ 0 → (answer_of r n ≡ refused_answer r) × (pick (eqb r.number 0) written ys ≡ ys)
  answer_refused h =
      let e = ne_eqb r.number 0 h in
      (rw e, rw e)

  pub answer_given : r.number ≡ 0 → (answer_of r n ≡ answer 0 0 0 0 n) × (pick (eqb r.number 0) written ys ≡ written)
  answer_given z =
      let e = eq-eqb r.number 0 z in
      (rw e, rw e)
