-- The refusals of a lot, in the request's words: 30 no run or more than 256, 31 a run's counts exceed 512 in a list, 30 first. A refusal
-- is given exactly where its row holds and 30 does not come before it, and every other lot is answered.
--     WrongRuns, wrong_iff        row 30
--     Large, large_iff            a run's counts exceed 512 in a list
--     HasLarge, any_large_iff     one of the runs is such: row 31
--     number_of                   the number that is answered is the row
--     lot_refused_iff             when a lot is refused, and with which number
--     lot_answered_iff            when it is answered
-- Assumes nothing.
use mathlib.Core.Bool.{Bool, true, false, true≢false, ◌||◌}
use mathlib.Core.List.{List, [], ◌∷◌}
use mathlib.Core.Logic.{◌↔◌, ◌≢◌, ◌⊎◌, inl, inr, ⊎_elim}
use mathlib.Core.Path.{◌≡◌, refl, sym, ap, ◌∙◌}
use Prim.Native.Nat.{ℕ, zero, suc, ◌<◌}
use native.Mathlib.Omega.{arith}
use borrow.Author.Tests.{eqb-true, eq-eqb, ltb-true, lt-ltb}
use lib.Dec.{eqb, ltb}
use lib.ListN.{length, get_or}
use Rattle.bases.specs.Pick.{pick}
use Rattle.records.specs.Record.{most_records}
use Rattle.lot.specs.declared.answer.Lot.{Lot}
use Rattle.lot.specs.declared.run.Run.{Run}
use Rattle.lot.specs.Lot.{refused_lot, given_lot, answer_of, lot_row, lot_of}
use Rattle.lot.proofs.LotLaws.{row_none, answer_refused, answer_given}
use Rattle.lot.specs.Run.{most_runs, truth_of, called_of, large?, any_large?, no_run, total_of}

-- A test of two holds where one of them does.
or_iff : {P Q : Type 0} (s t : Bool) → ((s ≡ true) ↔ P) → ((t ≡ true) ↔ Q) → ((s || t) ≡ true) ↔ (P ⊎ Q)
or_iff true t p q = (λ e. inl (p.0 refl), λ h. refl)
or_iff false t p q = (λ e. inr (q.0 e), ⊎_elim (λ h. absurd (true≢false (sym (p.1 h)))) (λ h. q.1 h))

abbrev pub WrongRuns : ℕ → Type 0
WrongRuns n = (n ≡ 0) ⊎ (most_runs < n)

pub wrong_iff : (n : ℕ) → ((eqb n 0 || ltb most_runs n) ≡ true) ↔ WrongRuns n
wrong_iff n = or_iff (eqb n 0) (ltb most_runs n) (eqb-true n 0, eq-eqb n 0) (ltb-true most_runs n, lt-ltb most_runs n)

abbrev pub Large : Run → Type 0
Large r = (most_records < truth_of r) ⊎ (most_records < called_of r)

pub large_iff : (r : Run) → (large? r ≡ true) ↔ Large r
large_iff r =
    or_iff (ltb most_records (truth_of r)) (ltb most_records (called_of r)) (ltb-true most_records (truth_of r), lt-ltb most_records (truth_of r))
    (ltb-true most_records (called_of r), lt-ltb most_records (called_of r))

abbrev pub HasLarge : List Run → Type 0
HasLarge rs = (k : ℕ) × ((k < length rs) × Large (get_or rs k no_run))

pub any_large_iff : (rs : List Run) → (any_large? rs ≡ true) ↔ HasLarge rs
unfolding any_large?
any_large_iff [] = (λ e. absurd (true≢false (sym e)), λ h. absurd (omega (arith, h.1.0)))
any_large_iff (r ∷ rs) =
    let one = or_iff (large? r) (any_large? rs) (large_iff r) (any_large_iff rs) in
    (λ e. ⊎_elim (λ l. (0, (omega arith, l))) (λ h. (suc h.0, (omega (arith, h.1.0), h.1.1))) (one.0 e), λ h. one.1 (which h.0 h.1.0 h.1.1))
  where
    which : (k : ℕ) → k < length (r ∷ rs) → Large (get_or (r ∷ rs) k no_run) → Large r ⊎ HasLarge rs
    which zero h l = inl l
    which (suc k) h l = inr (k, (omega arith, l))

pub number_of : (row : ℕ) (t : Run) → (answer_of row t).number ≡ row
number_of row t = go (eqb row 0) refl
  where
    go : (b : Bool) → eqb row 0 ≡ b → (pick b (given_lot t) (refused_lot row)).number ≡ row
    go true e = sym (eqb-true row 0 e)
    go false e = refl

-- The row of two tests, and what it says of them.
row_cases : (t u : Bool) (number : ℕ) → pick t 30 (pick u 31 0) ≡ number → number ≢ 0 → ((number ≡ 30) × (t ≡ true)) ⊎ ((number ≡ 31) × ((t ≡ true → ⊥) × (u ≡ true)))
row_cases true u number e h = inl (sym e, refl)
row_cases false true number e h = inr (sym e, ((λ z. true≢false (sym z)), refl))
row_cases false false number e h = absurd (h (sym e))

row_here : (t u : Bool) (number : ℕ) → ((number ≡ 30) × (t ≡ true)) ⊎ ((number ≡ 31) × ((t ≡ true → ⊥) × (u ≡ true))) → (pick t 30 (pick u 31 0) ≡ number) × (number ≢ 0)
row_here t u number (inl h) = rw h.1 (sym h.0, λ z. absurd (omega (arith, h.0)))
row_here true u number (inr h) = absurd (h.1.0 refl)
row_here false u number (inr h) = rw h.1.1 (sym h.0, λ z. absurd (omega (arith, h.0)))

row_is_none : (t u : Bool) → (t ≡ true → ⊥) → (u ≡ true → ⊥) → pick {A = ℕ} t 30 (pick u 31 0) ≡ 0
row_is_none true u h k = absurd (h refl)
row_is_none false true h k = absurd (k refl)
row_is_none false false h k = refl

module _ (rs : List Run) where
  abbrev wrong : Bool
  wrong = eqb (length rs) 0 || ltb most_runs (length rs)

  pub lot_refused_iff : (number : ℕ) → ((lot_of rs ≡ refused_lot number) × (number ≢ 0))
      ↔ (((number ≡ 30) × WrongRuns (length rs)) ⊎ ((number ≡ 31) × ((WrongRuns (length rs) → ⊥) × HasLarge rs)))
  unfolding lot_of
  lot_refused_iff number =
      let w = wrong_iff (length rs) in
      let l = any_large_iff rs in (
        λ h. ⊎_elim (λ c. inl (c.0, w.0 c.1)) (λ c. inr (c.0, ((λ z. c.1.0 (w.1 z)), l.0 c.1.1)))
            (row_cases wrong (any_large? rs) number (sym (number_of (lot_row rs) (total_of rs)) ∙ ap (λ (z : Lot). z.number) h.0) h.1),
        λ h.
            let here = row_here wrong (any_large? rs) number (⊎_elim (λ c. inl (c.0, w.1 c.1)) (λ c. inr (c.0, ((λ z. c.1.0 (w.0 z)), l.1 c.1.1))) h) in
            (ap (λ (k : ℕ). answer_of k (total_of rs)) here.0 ∙ answer_refused number (total_of rs) here.1, here.1),
      )

  pub lot_answered_iff : (lot_of rs ≡ given_lot (total_of rs)) ↔ ((WrongRuns (length rs) → ⊥) × (HasLarge rs → ⊥))
  unfolding lot_of
  lot_answered_iff =
      let w = wrong_iff (length rs) in
      let l = any_large_iff rs in (
        λ h.
            let none = row_none (length rs) (any_large? rs) (sym (number_of (lot_row rs) (total_of rs)) ∙ ap (λ (z : Lot). z.number) h) in
            ((λ z. true≢false (sym (w.1 z) ∙ none.0)), (λ z. true≢false (sym (l.1 z) ∙ none.1))),
        λ h. answer_given (lot_row rs) (total_of rs) (row_is_none wrong (any_large? rs) (λ z. h.0 (w.0 z)) (λ z. h.1 (l.0 z))),
      )
