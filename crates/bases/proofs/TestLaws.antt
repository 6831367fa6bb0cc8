-- Laws of tests: `T t` says that the test t holds.
--     of_true, of_false     what a test's value says
--     is_true, is_false     a test's value from what it says
--     both, either, neither a test made of two
--     one_test              two tests that say the same are equal
-- Assumes nothing.
use mathlib.Core.Bool.{Bool, true, false, ◌&&◌, ◌||◌}
use mathlib.Core.Logic.{◌↔◌, ◌⊎◌, inl, inr, ⊎_elim}
use mathlib.Core.Path.{◌≡◌, refl, sym, subst}
use lib.Dec.{T}

pub of_true : {t : Bool} → t ≡ true → T t
of_true e = subst T (sym e) tt

pub of_false : {t : Bool} → t ≡ false → T t → ⊥
of_false e h = subst T e h

pub is_true : (t : Bool) → T t → t ≡ true
is_true true h = refl
is_true false h = absurd h

pub is_false : (t : Bool) → (T t → ⊥) → t ≡ false
is_false true h = absurd (h tt)
is_false false h = refl

pub both : (s t : Bool) → T (s && t) ↔ (T s × T t)
both true t = (λ h. (tt, h), λ h. h.1)
both false t = (λ h. absurd h, λ h. h.0)

pub either : (s t : Bool) → T (s || t) ↔ (T s ⊎ T t)
either true t = (λ h. inl tt, λ h. tt)
either false t = (λ h. inr h, ⊎_elim (λ h. absurd h) (λ h. h))

pub neither : (s t : Bool) → s || t ≡ false → (s ≡ false) × (t ≡ false)
neither true t e = absurd (of_false e tt)
neither false t e = (refl, e)

pub one_test : (s t : Bool) → (T s ↔ T t) → s ≡ t
one_test true t f = sym (is_true t (f.0 tt))
one_test false t f = sym (is_false t (λ h. f.1 h))
