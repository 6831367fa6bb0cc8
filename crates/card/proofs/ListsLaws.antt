-- The rows of a call's lists, tried in their order.
--     check_numbered, list_numbered, lists_numbered     a row that holds is not numbered 0
--     accepted_of                           a list of which no row holds is accepted
--     list_no_reference, list_small, list_fault, list_clear       the refusal of a call with one list
--     passed_fault, list_last, lists_last                         where no row before those of a list holds, its fault decides
--     lists_first, lists_fault, lists_clear                       the refusal of a call with two
--     lists_none                            and where none holds
--     Read, list_read, lists_read           where there is none: the reference is one, the room is enough, and the lists are accepted
-- Assumes nothing.
use mathlib.Core.Bool.{Bool, true, false, not}
use mathlib.Core.List.{List, [], ◌∷◌}
use mathlib.Core.Logic.{◌≢◌}
use mathlib.Core.Path.{◌≡◌, refl, ap, ◌∙◌}
use Prim.Native.Nat.{ℕ}
use native.Mathlib.Nat.{suc-ne-zero}
use borrow.Author.Tests.{eq-eqb, ne_eqb, eqb-true, not-false}
use lib.Dec.{T, T_not, eqb}
use Rattle.bases.specs.Letter.{bases_of}
use Rattle.bases.specs.First.{first_told}
use Rattle.bases.specs.Pick.{pick}
use Rattle.bases.specs.Reference.{is_reference?}
use Rattle.bases.proofs.TestLaws.{of_true}
use Rattle.vcf.specs.declared.list.Fault.{Fault}
use Rattle.vcf.specs.List.{judge_text}
use Rattle.card.specs.Refusal.{refusal, no_refusal, passed, first_refusal, fault_in, list_check, list_checks, lists_checks}
use Rattle.card.proofs.RefusalLaws.{Numbered, first_none, none_holds, first_keeps, first_goes}

-- A call with one list goes on: the reference is one, the room is enough, and the list is accepted.
pub record Read (reference name first : List ℕ) (small : Bool) : Type 0 where
  pub right : is_reference? reference ≡ true
  pub roomy : small ≡ false
  pub accepted : (judge_text (bases_of reference) name first).number ≡ 0

pub passed_fault : (j : ℕ) (f : Fault) → passed (pick (not (eqb f.number 0)) (fault_in j f) no_refusal) ≡ passed (fault_in j f)
passed_fault j f = go (eqb f.number 0) refl
  where
    go : (t : Bool) → eqb f.number 0 ≡ t → passed (pick (not t) (fault_in j f) no_refusal) ≡ passed (fault_in j f)
    go true e = rw e
    go false e = refl

module _ (reference name : List ℕ) where
  pub check_numbered : (j : ℕ) (text : List ℕ) → T (list_check j reference name text).holds → (list_check j reference name text).told.number ≢ 0
  check_numbered j text h e = T_not (eqb (judge_text (bases_of reference) name text).number 0) h (of_true (eq-eqb _ _ e))

  pub accepted_of : (j : ℕ) (text : List ℕ) → (list_check j reference name text).holds ≡ false → (judge_text (bases_of reference) name text).number ≡ 0
  accepted_of j text h = eqb-true (judge_text (bases_of reference) name text).number 0 (not-false (eqb (judge_text (bases_of reference) name text).number 0) h)

  module _ (first : List ℕ) (small : Bool) where
    pub list_numbered : Numbered (list_checks reference name first small)
    list_numbered = (λ h. suc-ne-zero 0, (λ h. suc-ne-zero 1, (check_numbered 1 first, tt)))

    pub list_no_reference : is_reference? reference ≡ false → first_refusal (list_checks reference name first small) ≡ refusal 1 0 0 0
    unfolding first_told
    list_no_reference e = rw e

    pub list_small : is_reference? reference ≡ true → small ≡ true → first_refusal (list_checks reference name first small) ≡ refusal 2 0 0 0
    unfolding first_told
    list_small e s = rw (e, s)

    pub list_fault : is_reference? reference ≡ true → small ≡ false → (f : Fault) → f ≡ judge_text (bases_of reference) name first → f.number ≢ 0
        → first_refusal (list_checks reference name first small) ≡ refusal f.number 1 f.line f.place
    unfolding first_told
    list_fault e s f g n = rw (e, s, ← g, ne_eqb f.number 0 n)

    pub list_clear : Read reference name first small → first_refusal (list_checks reference name first small) ≡ no_refusal
    unfolding first_told
    list_clear r = rw (r.right, r.roomy, eq-eqb _ _ r.accepted)

    pub list_last : is_reference? reference ≡ true → small ≡ false
        → passed (first_refusal (list_checks reference name first small)) ≡ passed (fault_in 1 (judge_text (bases_of reference) name first))
    unfolding first_told
    list_last e s = rw (e, s) (passed_fault 1 (judge_text (bases_of reference) name first))

    pub list_read : (first_refusal (list_checks reference name first small)).number ≡ 0 → Read reference name first small
    list_read e =
        let none = none_holds (list_checks reference name first small) list_numbered e in
        record { right = not-false (is_reference? reference) none.0; roomy = none.1.0; accepted = accepted_of 1 first none.1.1.0 }

    module _ (second : List ℕ) where
      pub lists_numbered : Numbered (lists_checks reference name first second small)
      lists_numbered = (λ h. suc-ne-zero 0, (λ h. suc-ne-zero 1, (check_numbered 1 first, (check_numbered 2 second, tt))))

      pub lists_first : (first_refusal (list_checks reference name first small)).number ≢ 0
          → first_refusal (lists_checks reference name first second small) ≡ first_refusal (list_checks reference name first small)
      lists_first n = first_keeps (list_checks reference name first small) (list_check 2 reference name second ∷ []) n

      behind : (first_refusal (list_checks reference name first small)).number ≡ 0
          → first_refusal (lists_checks reference name first second small) ≡ first_refusal (list_check 2 reference name second ∷ [])
      behind e = first_goes (list_checks reference name first small) (list_check 2 reference name second ∷ []) list_numbered e

      pub lists_fault : (first_refusal (list_checks reference name first small)).number ≡ 0 → (f : Fault) → f ≡ judge_text (bases_of reference) name second → f.number ≢ 0
          → first_refusal (lists_checks reference name first second small) ≡ refusal f.number 2 f.line f.place
      unfolding first_told
      lists_fault e f g n = behind e ∙ rw (← g, ne_eqb f.number 0 n)

      pub lists_clear : (first_refusal (list_checks reference name first small)).number ≡ 0 → (judge_text (bases_of reference) name second).number ≡ 0
          → first_refusal (lists_checks reference name first second small) ≡ no_refusal
      unfolding first_told
      lists_clear e g = behind e ∙ rw (eq-eqb _ _ g)

      pub lists_last : (first_refusal (list_checks reference name first small)).number ≡ 0
          → passed (first_refusal (lists_checks reference name first second small)) ≡ passed (fault_in 2 (judge_text (bases_of reference) name second))
      unfolding first_told
      lists_last e = ap passed (behind e) ∙ passed_fault 2 (judge_text (bases_of reference) name second)

      pub lists_none : (first_refusal (lists_checks reference name first second small)).number ≡ 0 → first_refusal (lists_checks reference name first second small) ≡ no_refusal
      lists_none e = first_none (lists_checks reference name first second small) (none_holds (lists_checks reference name first second small) lists_numbered e)

      pub lists_read : (first_refusal (lists_checks reference name first second small)).number ≡ 0
          → Read reference name first small × ((judge_text (bases_of reference) name second).number ≡ 0)
      lists_read e =
          let none = none_holds (lists_checks reference name first second small) lists_numbered e in (
            record { right = not-false (is_reference? reference) none.0; roomy = none.1.0; accepted = accepted_of 1 first none.1.1.0 },
            accepted_of 2 second none.1.1.1.0,
          )
