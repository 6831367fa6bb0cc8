-- The first of a call's refusals, in document 01's words: "The first found is answered", "A refusal is given only when its row holds",
-- and an input with no fault is answered. They are the laws of bases/proofs/FirstLaws.antt, of refusals.
--     Numbered                         a row that holds is not numbered 0
--     first_holds, first_not           the first refusal, by the check in front
--     first_none, none_holds           four zeros where no row holds, and number 0 only there
--     first_keeps, first_goes          checks behind others: where one of those holds they are not reached, else they decide
--     refused_iff, answered_iff        a refusal is given exactly if it is the first whose row holds; four zeros exactly if no row holds
--     passed_on, passed_not            a call goes on exactly where number is 0, and else is turned away with the refusal
-- Assumes nothing.
use mathlib.Core.Bool.{true, false}
use mathlib.Core.List.{List, ◌∷◌, ◌++◌}
use mathlib.Core.Logic.{◌↔◌, ◌≢◌}
use mathlib.Core.Path.{◌≡◌, refl, sym}
use Prim.Native.Nat.{ℕ}
use Rattle.std.specs.Prelude.{Ok, Err}
use Rattle.bases.proofs.FirstLaws as first
use Rattle.bases.proofs.FirstLaws.{NoneHolds, First}
use Rattle.records.proofs.ResultLaws.{result_ok, result_err}
use Rattle.card.specs.declared.refusal.Refusal.{Refusal}
use Rattle.card.specs.Refusal.{no_refusal, Check, first_refusal, passed}

abbrev number_of : Refusal → ℕ
number_of r = r.number

abbrev pub Numbered : List Check → Type 0
Numbered = first.Numbered no_refusal number_of

pub first_holds : (c : Check) (cs : List Check) → c.holds ≡ true → first_refusal (c ∷ cs) ≡ c.told
first_holds = first.first_holds no_refusal

pub first_not : (c : Check) (cs : List Check) → c.holds ≡ false → first_refusal (c ∷ cs) ≡ first_refusal cs
first_not = first.first_not no_refusal

pub first_none : (cs : List Check) → NoneHolds cs → first_refusal cs ≡ no_refusal
first_none = first.first_none no_refusal

pub none_holds : (cs : List Check) → Numbered cs → (first_refusal cs).number ≡ 0 → NoneHolds cs
none_holds = first.none_holds no_refusal number_of

pub first_keeps : (cs ds : List Check) → (first_refusal cs).number ≢ 0 → first_refusal (cs ++ ds) ≡ first_refusal cs
first_keeps = first.first_keeps no_refusal number_of refl

pub first_goes : (cs ds : List Check) → Numbered cs → (first_refusal cs).number ≡ 0 → first_refusal (cs ++ ds) ≡ first_refusal ds
first_goes = first.first_goes no_refusal number_of

pub refused_iff : (cs : List Check) → Numbered cs → (r : Refusal) → ((first_refusal cs ≡ r) × (r.number ≢ 0)) ↔ First r cs
refused_iff = first.refused_iff no_refusal number_of refl

pub answered_iff : (cs : List Check) → Numbered cs → (first_refusal cs ≡ no_refusal) ↔ NoneHolds cs
answered_iff = first.answered_iff no_refusal number_of refl

pub passed_on : (x : Unit {0}) (r : Refusal) → Ok x ≡ passed r → r.number ≡ 0
passed_on = result_ok number_of

pub passed_not : (q r : Refusal) → Err q ≡ passed r → (r ≡ q) × (r.number ≢ 0)
passed_not q r e = let p = result_err number_of q r e in (sym p.0, rw p.0 at p.1)
