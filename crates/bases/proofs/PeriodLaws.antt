-- Laws of periods.
--     period_past                        where q is not below the length
--     period_iff                         the test for a period says that it is one
--     any_period_at, any_period_zero, any_period_stop, any_period_more
--                                        some q in 1 .. g is a period: by g, and for g = 0
--     any_period_iff, no_period_iff      the test for a period in 1 .. g says whether there is one
--     no_period_long                     a stretch with no period in 1 .. g is longer than g
-- Assumes nothing.
use mathlib.Core.Bool.{true, false, ◌||◌}
use mathlib.Core.List.{List}
use mathlib.Core.Logic.{◌↔◌, inl, inr, ⊎_elim}
use mathlib.Core.Path.{◌≡◌, refl, sym, ap, ◌∙◌}
use Prim.Native.Nat.{ℕ, zero, suc, ◌+◌, ◌-◌, ◌≤◌, ◌<◌}
use native.Mathlib.Decide.{dec_lt}
use native.Mathlib.Nat.{not-suc-le-zero, le_of_suc-le-suc, eq-or-lt_of_le}
use native.Mathlib.Omega.{arith}
use lib.Dec.{T}
use lib.ListN.{length, get_or, drop, length-drop}
use lib.Seq.{get_or-drop}
use Rattle.bases.specs.Letter.{bases_of}
use Rattle.bases.specs.Period.{Period, NoPeriod, period?, any_period?}
use Rattle.bases.proofs.LetterLaws.{bases_length}
use Rattle.bases.proofs.SameLaws.{agree_past_second, agree_iff}
use Rattle.bases.proofs.TestLaws.{either, of_false, is_false}

pub period_past : (s : List ℕ) (q : ℕ) → length s ≤ q → period? q (bases_of s) ≡ true
period_past s q h = agree_past_second (bases_of s) (bases_of s) q (rw bases_length h)

pub period_iff : (q : ℕ) (y : List ℕ) → T (period? q y) ↔ Period q y
period_iff q y = (to, of)
  where
    to : T (period? q y) → Period q y
    to t i h =
        let e : q + i ≡ i + q = omega arith in
        (agree_iff y (drop q y)).0 t i (omega arith) (rw length-drop (omega arith)) ∙ get_or-drop q y i 0 ∙ ap (λ (j : ℕ). get_or y j 0) e

    of : Period q y → T (period? q y)
    of p = (agree_iff y (drop q y)).1 (λ i h k.
        let l : i < length y - q = rw length-drop at k in
        let e : i + q ≡ q + i = omega arith in
        p i (omega arith) ∙ ap (λ (j : ℕ). get_or y j 0) e ∙ sym (get_or-drop q y i 0))

pub any_period_iff : (g : ℕ) (y : List ℕ) → T (any_period? g y) ↔ ((q : ℕ) × (1 ≤ q) × (q ≤ g) × Period q y)
unfolding any_period?
any_period_iff zero y = (λ t. absurd t, λ s. absurd (omega arith))
any_period_iff (suc g) y = (to (any_period_iff g y), of (any_period_iff g y))
  where
    Some : ℕ → Type 0
    Some g = (q : ℕ) × (1 ≤ q) × (q ≤ g) × Period q y

    to : T (any_period? g y) ↔ Some g → T (period? (suc g) y || any_period? g y) → Some (suc g)
    to r t = ⊎_elim
        (λ h. (suc g, omega arith, omega arith, (period_iff (suc g) y).0 h))
        (λ h. let s = r.0 h in (s.0, s.1, omega arith, s.3))
        ((either (period? (suc g) y) (any_period? g y)).0 t)

    of : T (any_period? g y) ↔ Some g → Some (suc g) → T (period? (suc g) y || any_period? g y)
    of r s = (either (period? (suc g) y) (any_period? g y)).1 (⊎_elim
        (λ e. inl ((period_iff (suc g) y).1 (rw (← e) s.3)))
        (λ h. inr (r.1 (s.0, s.1, le_of_suc-le-suc h, s.3)))
        (eq-or-lt_of_le s.2))

pub any_period_at : (g : ℕ) (y : List ℕ) → 0 < g → any_period? g y ≡ period? g y || any_period? (g - 1) y
unfolding any_period?
any_period_at zero y h = absurd (not-suc-le-zero h)
any_period_at (suc g) y h = let e : suc g - 1 ≡ g = omega arith in rw e

pub any_period_zero : (y : List ℕ) → any_period? 0 y ≡ false
unfolding any_period?
any_period_zero y = refl

pub any_period_stop : (g : ℕ) (y : List ℕ) → 0 < g → period? g y ≡ true → any_period? g y ≡ true
any_period_stop g y h e = any_period_at g y h ∙ rw e

pub any_period_more : (g : ℕ) (y : List ℕ) → 0 < g → period? g y ≡ false → any_period? g y ≡ any_period? (g - 1) y
any_period_more g y h e = any_period_at g y h ∙ rw e

pub no_period_iff : (g : ℕ) (y : List ℕ) → (any_period? g y ≡ false) ↔ NoPeriod g y
no_period_iff g y = (
  λ e q a b p. of_false e ((any_period_iff g y).1 (q, a, b, p)),
  λ n. is_false (any_period? g y) (λ t. let s = (any_period_iff g y).0 t in n s.0 s.1 s.2 s.3),
)

pub no_period_long : (g : ℕ) (y : List ℕ) → 1 ≤ g → NoPeriod g y → g < length y
no_period_long g y h n = go (dec_lt g (length y))
  where
    go : Dec (g < length y) → g < length y
    go (yes k) = k
    go (no k) = absurd (n g h (omega arith) (λ i l. absurd (omega arith)))
