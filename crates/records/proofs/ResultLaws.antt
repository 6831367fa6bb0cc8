-- Laws of a fault as a function's result.
--     result_err, result_ok      what it says, read back: a fault is the one that is told, and is numbered; where there is none, none is told
--     result_numbered            a fault that is numbered is the result
--     result_exit                what the exit of a `?` returns
-- Assumes nothing.
use mathlib.Core.Bool.{Bool, true, false}
use mathlib.Core.Logic.{◌≢◌}
use mathlib.Core.Path.{◌≡◌, refl, sym, ap, subst, ◌∙◌}
use Prim.Native.Nat.{ℕ}
use borrow.Author.Tests.{ne_eqb, eqb-true, eqb-false}
use lib.Dec.{eqb}
use Rattle.std.specs.Prelude.{Result, Ok, Err, MatchResult, IsErrAnd, ⊤}
use Rattle.std.proofs.lemmas.Result.{err_from_is_err_and}
use Rattle.bases.specs.Pick.{pick}
use Rattle.records.specs.Row.{fault_result}

module _ {A : Type 0} (number : A → ℕ) where
  pub result_err : (e f : A) → Err e ≡ fault_result number f → (e ≡ f) × (number e ≢ 0)
  result_err e f = go (eqb (number f) 0) refl
    where
      Same : Result (Unit {0}) A → Type 0
      Same r = MatchResult r (λ _. ⊥) (λ d. e ≡ d)

      go : (t : Bool) → eqb (number f) 0 ≡ t → ◌≡◌ {A = Result (Unit {0}) A} (Err e) (pick t (Ok (tt {0})) (Err f)) → (e ≡ f) × (number e ≢ 0)
      go true z h = absurd (subst Same h refl)
      go false z h = let s : e ≡ f = subst Same h refl in (s, λ n. eqb-false (number f) 0 z (ap number (sym s) ∙ n))

  pub result_ok : (x : Unit {0}) (f : A) → Ok x ≡ fault_result number f → number f ≡ 0
  result_ok x f = go (eqb (number f) 0) refl
    where
      go : (t : Bool) → eqb (number f) 0 ≡ t → ◌≡◌ {A = Result (Unit {0}) A} (Ok x) (pick t (Ok (tt {0})) (Err f)) → number f ≡ 0
      go true z h = eqb-true (number f) 0 z
      go false z h = absurd (subst (λ (r : Result (Unit {0}) A). MatchResult r (λ _. ⊤) (λ _. ⊥)) h tt)

  pub result_numbered : (e f : A) → e ≡ f → number e ≢ 0 → Err e ≡ fault_result number f
  result_numbered e f s h = rw (← s, ne_eqb (number e) 0 h)

  pub result_exit : (r : Result (Unit {0}) A) (e f : A) → IsErrAnd r (λ y. y ≡ e) → e ≡ f → number e ≢ 0 → r ≡ fault_result number f
  result_exit r e f x s h = let p = err_from_is_err_and r x in p.1 ∙ ap Err p.2 ∙ result_numbered e f s h
