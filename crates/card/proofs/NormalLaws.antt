-- The call `normal`, in document 01's words.
--     normal_refused_iff, normal_answered_iff    a refusal is given exactly if its row holds and none before it in the order does; an
--                                                answer exactly if none holds
--     normal_refused, normal_given               what is answered and what is left of the room, by the refusal
-- Assumes nothing.
use mathlib.Core.List.{List}
use mathlib.Core.Logic.{◌↔◌, ◌≢◌}
use mathlib.Core.Path.{◌≡◌}
use Prim.Native.Nat.{ℕ}
use borrow.Author.Tests.{eq-eqb, ne_eqb}
use lib.Dec.{ltb}
use lib.ListN.{length}
use Rattle.bases.specs.Letter.{bases_of}
use Rattle.bases.specs.Put.{put}
use Rattle.written.specs.Written.{written_text}
use Rattle.card.specs.declared.refusal.Refusal.{Refusal}
use Rattle.card.specs.Answer.{answer, refused_answer}
use Rattle.card.specs.Normal.{normal_refusal, written, normal_after}
use Rattle.card.specs.Refusal.{no_refusal, list_checks}
use Rattle.card.proofs.ListsLaws.{list_numbered}
use Rattle.bases.proofs.FirstLaws.{NoneHolds, First}
use Rattle.card.proofs.RefusalLaws.{refused_iff, answered_iff}

module _ (reference name text : List ℕ) (room : ℕ) where
  pub normal_refused_iff : (r : Refusal) → ((normal_refusal reference name text room ≡ r) × (r.number ≢ 0)) ↔ First r (list_checks reference name text (ltb room (length text)))
  normal_refused_iff = refused_iff (list_checks reference name text (ltb room (length text))) (list_numbered reference name text (ltb room (length text)))

  pub normal_answered_iff : (normal_refusal reference name text room ≡ no_refusal) ↔ NoneHolds (list_checks reference name text (ltb room (length text)))
  normal_answered_iff = answered_iff (list_checks reference name text (ltb room (length text))) (list_numbered reference name text (ltb room (length text)))

module _ (reference name text out : List ℕ) where
  pub normal_refused : (normal_refusal reference name text (length out)).number ≢ 0
      → (written reference name text (length out) ≡ refused_answer (normal_refusal reference name text (length out))) × (normal_after reference name text out ≡ out)
  normal_refused n =
      let e = ne_eqb (normal_refusal reference name text (length out)).number 0 n in
      (rw e, rw e)

  pub normal_given : (normal_refusal reference name text (length out)).number ≡ 0
      → (written reference name text (length out) ≡ answer 0 0 0 0 (length (written_text (bases_of reference) text))) ×
      (normal_after reference name text out ≡ put out 0 (written_text (bases_of reference) text))
  normal_given z =
      let e = eq-eqb (normal_refusal reference name text (length out)).number 0 z in
      (rw e, rw e)
