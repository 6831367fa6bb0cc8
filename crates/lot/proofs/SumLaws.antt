-- Laws of runs that are added up one by one.
--     sum_at                  the sum of the first k
--     SumsFit, room_fits     the six sums of adding a run; they fit where there is room
--     add_large, add_small   what adding a run gives
--     sum_bounded            its entries are at most 512 a run, in each list
--     bounded_more, bounded_room   so many are at most those of 256 runs, and there is room for one run more
--     runs_read_le, runs_read_few   no more than 256 runs are added up, and no more than there are
--     runs_read_all          all of 256 at most
--     sum_none, sum_more     the sum before the first run, and with one more
--     sum_large, sum_total   it tells whether a run is too large; where none is, it is the total
--     sum_answers            what is answered for the sum of the runs that are added up is the lot
--     lot_of_all, first_given  the lot of runs that are all given, and of runs of which the first are
-- Assumes nothing.
use mathlib.Core.Bool.{Bool, true, false, ◌||◌}
use mathlib.Core.List.{List}
use mathlib.Core.Path.{◌≡◌, refl, sym, ap, ◌∙◌}
use Prim.Native.Nat.{ℕ, zero, suc, ◌+◌, ◌≤◌, ◌<◌, ◌^◌}
use native.Mathlib.Numerals.{add-one}
use native.Mathlib.Omega.{arith}
use borrow.Author.Tests.{le-ltb, ltb-false}
use lib.Dec.{ltb}
use lib.ListN.{length, get_or, take}
use lib.Seq.{take-length}
use Rattle.bases.proofs.TestLaws.{neither}
use Rattle.bases.specs.Pick.{pick}
use Rattle.lot.specs.declared.answer.Lot.{Lot}
use Rattle.lot.specs.declared.run.Run.{Run}
use Rattle.lot.specs.declared.sum.Sum.{Sum}
use Rattle.lot.specs.Lot.{row_of, answer_of, lot_of, lot_of_first}
use Rattle.lot.specs.Run.{most_runs, large?, any_large?, no_run, both_runs, total_of}
use Rattle.lot.specs.Sum.{runs_read, no_sum, add_run, Bounded, HasRoom}
use Rattle.lot.proofs.LotLaws.{row_many, row_none, answer_same}
use Rattle.lot.proofs.RunLaws.{small_truth, small_called, any_large_more, total_more}

unfoldable pub sum_at : List Run → ℕ → Sum
sum_at rs zero = no_sum
sum_at rs (suc k) = add_run (sum_at rs k) (get_or rs k no_run)

add_bounded : (k : ℕ) (s : Sum) (r : Run) → Bounded k s.total → Bounded (suc k) (add_run s r).total
add_bounded k s r b = go (large? r) refl
  where
    go : (t : Bool) → large? r ≡ t → Bounded (suc k) (pick {A = Sum} t (record { total = s.total; large = true }) (record { total = both_runs s.total r; large = s.large })).total
    go true e = record { truth = omega (arith, b.truth); called = omega (arith, b.called) }
    go false e = record { truth = omega (arith, b.truth, small_truth r e); called = omega (arith, b.called, small_called r e) }

pub sum_bounded : (rs : List Run) (k : ℕ) → Bounded k (sum_at rs k).total
unfolding sum_at
sum_bounded rs zero = record { truth = omega arith; called = omega arith }
sum_bounded rs (suc k) = add_bounded k (sum_at rs k) (get_or rs k no_run) (sum_bounded rs k)

pub bounded_more : (k : ℕ) (t : Run) → k ≤ most_runs → Bounded k t → Bounded most_runs t
bounded_more k t h b = record { truth = omega (arith, b.truth); called = omega (arith, b.called) }

pub bounded_room : (k : ℕ) (t : Run) → k ≤ most_runs → Bounded k t → HasRoom t
bounded_room k t h b = record { truth = omega (arith, b.truth); called = omega (arith, b.called) }

-- The six sums of adding a run fit.
pub record SumsFit (t r : Run) : Type 0 where
  pub matched1 : t.matched1 + r.matched1 < 2 ^ 32
  pub unmatched1 : t.unmatched1 + r.unmatched1 < 2 ^ 32
  pub undecided1 : t.undecided1 + r.undecided1 < 2 ^ 32
  pub matched2 : t.matched2 + r.matched2 < 2 ^ 32
  pub unmatched2 : t.unmatched2 + r.unmatched2 < 2 ^ 32
  pub undecided2 : t.undecided2 + r.undecided2 < 2 ^ 32

pub room_fits : (t r : Run) → HasRoom t → large? r ≡ false → SumsFit t r
room_fits t r room e =
    let one = small_truth r e in
    let two = small_called r e in
    record {
      matched1 = omega (arith, room.truth, one);
      unmatched1 = omega (arith, room.truth, one);
      undecided1 = omega (arith, room.truth, one);
      matched2 = omega (arith, room.called, two);
      unmatched2 = omega (arith, room.called, two);
      undecided2 = omega (arith, room.called, two);
    }

pub add_large : (s : Sum) (r : Run) → large? r ≡ true → add_run s r ≡ record { total = s.total; large = true }
add_large s r e = ap (λ (t : Bool). pick t (record { total = s.total; large = true }) (record { total = both_runs s.total r; large = s.large })) e

pub add_small : (s : Sum) (r : Run) → large? r ≡ false → add_run s r ≡ record { total = both_runs s.total r; large = s.large }
add_small s r e = ap (λ (t : Bool). pick t (record { total = s.total; large = true }) (record { total = both_runs s.total r; large = s.large })) e

add_told : (s : Sum) (r : Run) → (add_run s r).large ≡ s.large || large? r
add_told s r = go (large? r) s.large
  where
    go : (t u : Bool) → (pick {A = Sum} t (record { total = s.total; large = true }) (record { total = both_runs s.total r; large = u })).large ≡ u || t
    go true true = refl
    go true false = refl
    go false true = refl
    go false false = refl

pub runs_read_le : (n : ℕ) → runs_read n ≤ most_runs
runs_read_le n = go (ltb most_runs n) refl
  where
    go : (t : Bool) → ltb most_runs n ≡ t → pick t 0 n ≤ most_runs
    go true e = omega arith
    go false e = ltb-false most_runs n e

pub runs_read_few : (n : ℕ) → runs_read n ≤ n
runs_read_few n = go (ltb most_runs n)
  where
    go : (t : Bool) → pick t 0 n ≤ n
    go true = omega arith
    go false = omega arith

pub runs_read_all : (n : ℕ) → n ≤ most_runs → runs_read n ≡ n
runs_read_all n h = ap (λ (t : Bool). pick t 0 n) (le-ltb most_runs n h)

module _ (rs : List Run) where
  pub sum_none : no_sum ≡ sum_at rs 0
  unfolding sum_at
  sum_none = refl

  pub sum_more : (k : ℕ) → add_run (sum_at rs k) (get_or rs k no_run) ≡ sum_at rs (k + 1)
  unfolding sum_at
  sum_more k = sym (ap (sum_at rs) (add-one k))

  pub sum_large : (k : ℕ) → k ≤ length rs → (sum_at rs k).large ≡ any_large? (take k rs)
  unfolding any_large? sum_at
  sum_large zero h = refl
  sum_large (suc k) h =
      add_told (sum_at rs k) (get_or rs k no_run) ∙ ap (λ (t : Bool). t || large? (get_or rs k no_run)) (sum_large k (omega arith))
      ∙ sym (any_large_more rs k no_run (omega arith))

  pub sum_total : (k : ℕ) → k ≤ length rs → any_large? (take k rs) ≡ false → (sum_at rs k).total ≡ total_of (take k rs)
  unfolding total_of sum_at
  sum_total zero h e = refl
  sum_total (suc k) h e =
      let each = neither (any_large? (take k rs)) (large? (get_or rs k no_run)) (sym (any_large_more rs k no_run (omega arith)) ∙ e) in
      ap (λ (s : Sum). s.total) (add_small (sum_at rs k) (get_or rs k no_run) each.1) ∙ ap (λ (t : Run). both_runs t (get_or rs k no_run)) (sum_total k (omega arith) each.0)
      ∙ sym (total_more rs k no_run (omega arith))

  abbrev answered : ℕ → Sum → Lot
  answered n s = answer_of (row_of n s.large) s.total

  few_answers : (n : ℕ) → n ≤ length rs → answered n (sum_at rs n) ≡ lot_of_first n rs
  unfolding lot_of_first
  few_answers n h =
      ap (λ (t : Bool). answer_of (row_of n t) (sum_at rs n).total) (sum_large n h)
      ∙ answer_same (row_of n (any_large? (take n rs))) (sum_at rs n).total (total_of (take n rs)) (λ e. sum_total n h (row_none n (any_large? (take n rs)) e).1)

  pub sum_answers : (n : ℕ) → (n ≤ most_runs → n ≤ length rs) → answered n (sum_at rs (runs_read n)) ≡ lot_of_first n rs
  unfolding lot_of_first
  sum_answers n h = go (ltb most_runs n) refl
    where
      go : (t : Bool) → ltb most_runs n ≡ t → answered n (sum_at rs (pick t 0 n)) ≡ lot_of_first n rs
      go true e =
          ap (λ (k : ℕ). answer_of k (sum_at rs 0).total) (row_many n (sum_at rs 0).large e)
          ∙ sym (ap (λ (k : ℕ). answer_of k (total_of (take n rs))) (row_many n (any_large? (take n rs)) e))
      go false e = few_answers n (h (ltb-false most_runs n e))

  pub lot_of_all : lot_of_first (length rs) rs ≡ lot_of rs
  unfolding lot_of lot_of_first
  lot_of_all = rw (take-length rs) refl

-- The lot of runs of which the first are given in an array, all of them where they are 256 at most.
pub first_given : (all given : List Run) → (length all ≤ most_runs → take (length all) given ≡ all) → lot_of_first (length all) given ≡ lot_of all
unfolding lot_of lot_of_first
first_given all given h = go (ltb most_runs (length all)) refl
  where
    go : (t : Bool) → ltb most_runs (length all) ≡ t → lot_of_first (length all) given ≡ lot_of all
    go true e =
        ap (λ (k : ℕ). answer_of k (total_of (take (length all) given))) (row_many (length all) (any_large? (take (length all) given)) e)
        ∙ sym (ap (λ (k : ℕ). answer_of k (total_of all)) (row_many (length all) (any_large? all) e))
    go false e = ap (λ (rs : List Run). answer_of (row_of (length all) (any_large? rs)) (total_of rs)) (h (ltb-false most_runs (length all) e))
