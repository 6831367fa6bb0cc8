-- Laws of what is answered for a lot.
--     row_many, row_none         more than 256 runs are row 30; where no row holds
--     answer_same                the totals do not matter where a row holds
--     answer_refused, answer_given   what is answered where a row holds, and where none does
-- Assumes nothing.
use mathlib.Core.Bool.{Bool, true, false, ◌||◌, or-true}
use mathlib.Core.Logic.{◌≢◌}
use mathlib.Core.Path.{◌≡◌, refl, ap, ◌∙◌}
use Prim.Native.Nat.{ℕ}
use native.Mathlib.Omega.{arith}
use borrow.Author.Tests.{eqb-true, ne_eqb}
use lib.Dec.{eqb, ltb}
use Rattle.bases.specs.Pick.{pick}
use Rattle.lot.specs.declared.run.Run.{Run}
use Rattle.lot.specs.Lot.{row_of, refused_lot, given_lot, answer_of}
use Rattle.lot.specs.Run.{most_runs}

pub row_many : (n : ℕ) (large : Bool) → ltb most_runs n ≡ true → row_of n large ≡ 30
row_many n large e = ap (λ (t : Bool). pick t 30 (pick large 31 0)) (ap (λ (t : Bool). eqb n 0 || t) e ∙ or-true (eqb n 0))

pub row_none : (n : ℕ) (large : Bool) → row_of n large ≡ 0 → (eqb n 0 || ltb most_runs n ≡ false) × (large ≡ false)
row_none n large e = go (eqb n 0 || ltb most_runs n) large e
  where
    go : (t u : Bool) → pick {A = ℕ} t 30 (pick u 31 0) ≡ 0 → (t ≡ false) × (u ≡ false)
    go true u z = absurd (omega arith)
    go false true z = absurd (omega arith)
    go false false z = (refl, refl)

pub answer_same : (number : ℕ) (s t : Run) → (number ≡ 0 → s ≡ t) → answer_of number s ≡ answer_of number t
answer_same number s t h = go (eqb number 0) refl
  where
    go : (b : Bool) → eqb number 0 ≡ b → pick b (given_lot s) (refused_lot number) ≡ pick b (given_lot t) (refused_lot number)
    go true e = ap given_lot (h (eqb-true number 0 e))
    go false e = refl

pub answer_refused : (row : ℕ) (t : Run) → row ≢ 0 → answer_of row t ≡ refused_lot row
answer_refused row t h = ap (λ (b : Bool). pick b (given_lot t) (refused_lot row)) (ne_eqb row 0 h)

pub answer_given : (row : ℕ) (t : Run) → row ≡ 0 → answer_of row t ≡ given_lot t
answer_given row t e = ap (λ (k : ℕ). answer_of k t) e
