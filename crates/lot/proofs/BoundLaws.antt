-- What is answered for a lot is bounded, whatever the runs are.
--     total_bounded     runs that are not too large have at most 512 entries each, in each list
--     FewShare          a share is of no more entries than 256 runs have, and of parts per million it has at most a million, or NONE
--     FewLot            a lot's numbers are so
--     share_few         a share of so many entries is so
--     lot_few, lot_of_first_few      every answer is so
-- Assumes nothing.
use mathlib.Core.Bool.{Bool, true, false}
use mathlib.Core.List.{List, [], ◌∷◌}
use mathlib.Core.Logic.{◌⊎◌, inl, inr, ⊎_elim}
use mathlib.Core.Path.{◌≡◌, refl, sym}
use Prim.Native.Nat.{ℕ, ◌-◌, ◌*◌, ◌≤◌, ◌<◌, zero-le}
use native.Mathlib.Nat.{eq-or-lt_of_le}
use native.Mathlib.Omega.{arith}
use borrow.Author.Tests.{eqb-true, eqb-false, ltb-false}
use lib.Dec.{eqb, ltb}
use lib.ListN.{length, take, length-take}
use Rattle.bases.proofs.TestLaws.{neither}
use Rattle.bases.specs.Pick.{pick}
use Rattle.records.specs.Record.{most_records}
use Rattle.lot.specs.declared.answer.Lot.{Lot}
use Rattle.lot.specs.declared.run.Run.{Run}
use Rattle.lot.specs.declared.share.Share.{Share}
use Rattle.lot.specs.Lot.{row_of, refused_lot, given_lot, answer_of, lot_of, lot_of_first}
use Rattle.lot.specs.Run.{most_runs, truth_of, called_of, large?, any_large?, total_of}
use Rattle.lot.specs.Share.{million, NONE, share_of}
use Rattle.lot.specs.Sum.{Bounded}
use Rattle.lot.proofs.LotLaws.{row_none}
use Rattle.lot.proofs.RunLaws.{small_truth, small_called}
use Rattle.lot.proofs.ShareLaws.{ppm_none, ppm_le}
use Rattle.lot.proofs.SumLaws.{bounded_more}

pub total_bounded : (rs : List Run) → any_large? rs ≡ false → Bounded (length rs) (total_of rs)
unfolding any_large? total_of
total_bounded [] e = record { truth = omega arith; called = omega arith }
total_bounded (r ∷ rs) e =
    let each = neither (large? r) (any_large? rs) e in
    let b = total_bounded rs each.1 in
    record { truth = omega (arith, b.truth, small_truth r each.0); called = omega (arith, b.called, small_called r each.0) }

pub record FewShare (s : Share) : Type 0 where
  pub part : s.top ≤ s.bottom
  pub few : s.bottom ≤ most_runs * most_records
  pub ppm : ((s.bottom ≡ 0) × (s.ppm ≡ NONE)) ⊎ ((0 < s.bottom) × (s.ppm ≤ million))

pub record FewLot (l : Lot) : Type 0 where
  pub total : Bounded most_runs l.total
  pub truth : l.truth ≤ most_runs * most_records
  pub called : l.called ≤ most_runs * most_records
  pub recall : (l.number ≡ 0) → FewShare l.recall
  pub precision : (l.number ≡ 0) → FewShare l.precision

pub share_few : (top bottom : ℕ) → top ≤ bottom → bottom ≤ most_runs * most_records → FewShare (share_of top bottom)
share_few top bottom p h = record { part = p; few = h; ppm = ⊎_elim (λ z. inl (sym z, ppm_none top bottom (sym z))) (λ some. inr (some, ppm_le top bottom some p)) (eq-or-lt_of_le zero-le) }

answer_few : (row : ℕ) (t : Run) → (row ≡ 0 → Bounded most_runs t) → FewLot (answer_of row t)
answer_few row t h = go (eqb row 0) refl
  where
    go : (b : Bool) → eqb row 0 ≡ b → FewLot (pick b (given_lot t) (refused_lot row))
    go true e =
        let b = h (eqb-true row 0 e) in
        record {
          total = b;
          truth = b.truth;
          called = b.called;
          recall = λ _. share_few t.matched1 (truth_of t - t.undecided1) (omega arith) (omega (arith, b.truth));
          precision = λ _. share_few t.matched2 (called_of t - t.undecided2) (omega arith) (omega (arith, b.called));
        }
    go false e = record {
      total = record { truth = omega arith; called = omega arith };
      truth = omega arith;
      called = omega arith;
      recall = λ z. absurd (eqb-false row 0 e z);
      precision = λ z. absurd (eqb-false row 0 e z);
    }

pub lot_few : (rs : List Run) → FewLot (lot_of rs)
unfolding lot_of
lot_few rs = answer_few (row_of (length rs) (any_large? rs)) (total_of rs) (λ z.
    let none = row_none (length rs) (any_large? rs) z in
    bounded_more (length rs) (total_of rs) (ltb-false most_runs (length rs) (neither (eqb (length rs) 0) (ltb most_runs (length rs)) none.0).1) (total_bounded rs none.1))

pub lot_of_first_few : (n : ℕ) (rs : List Run) → FewLot (lot_of_first n rs)
unfolding lot_of_first
lot_of_first_few n rs = answer_few (row_of n (any_large? (take n rs))) (total_of (take n rs)) (λ z.
    let none = row_none n (any_large? (take n rs)) z in
    let few : n ≤ most_runs = ltb-false most_runs n (neither (eqb n 0) (ltb most_runs n) none.0).1 in
    bounded_more (length (take n rs)) (total_of (take n rs)) (omega (arith, length-take n rs)) (total_bounded (take n rs) none.1))
