-- Laws of the lots that are printed.
--     lot_alone, alone_answered      the lot of one run, as the code makes it; it is answered where the run is not too large
--     answered_few, answered_small   of an answered lot: there are 256 runs at most, and none is too large
--     lot_printable, lot_told        each number of an answered lot can be printed; what any lot tells
-- Assumes nothing.
use mathlib.Core.Bool.{Bool, true, false, ◌||◌}
use mathlib.Core.List.{List, [], ◌∷◌}
use mathlib.Core.Logic.{⊎_elim}
use mathlib.Core.Path.{◌≡◌, refl, sym, ◌∙◌}
use Prim.Native.Nat.{◌≤◌}
use native.Mathlib.Omega.{arith}
use borrow.Author.Tests.{ltb-false}
use lib.Dec.{eqb, ltb}
use lib.ListN.{length, replicate}
use Rattle.bases.proofs.TestLaws.{neither}
use Rattle.bases.specs.Pick.{pick}
use Rattle.lot.proofs.BoundLaws.{FewShare, lot_few}
use Rattle.lot.proofs.LotLaws.{row_none}
use Rattle.lot.proofs.RefusalLaws.{number_of}
use Rattle.lot.proofs.SumLaws.{first_given}
use Rattle.lot.specs.declared.run.Run.{Run}
use Rattle.lot.specs.declared.share.Share.{Share}
use Rattle.lot.specs.declared.answer.Lot.{Lot}
use Rattle.lot.specs.Lot.{lot_row, refused_lot, given_lot, lot_of, lot_of_first}
use Rattle.lot.specs.Run.{most_runs, large?, any_large?, total_of}
use Rattle.lot_report.specs.Printable.{PrintableShare, Printable}

pub lot_alone : (r x : Run) (l : Lot) → x ≡ r → l ≡ lot_of_first 1 (replicate most_runs x) → l ≡ lot_of (r ∷ [])
lot_alone r x l e k = k ∙ rw e (first_given (r ∷ []) (replicate most_runs r) (λ few. refl))

-- The number of a lot.
lot_row_lem : (rs : List Run) → (lot_of rs).number ≡ lot_row rs
unfolding lot_of
lot_row_lem rs = number_of (lot_row rs) (total_of rs)

pub alone_answered : (r : Run) → large? r ≡ false → (lot_of (r ∷ [])).number ≡ 0
unfolding any_large?
alone_answered r e = lot_row_lem (r ∷ []) ∙ rw e

share_printable : (s : Share) → FewShare s → PrintableShare s
share_printable s f = record {
  top = omega (arith, f.part, f.few);
  bottom = omega (arith, f.few);
  ppm = λ h. ⊎_elim (λ z. absurd (h z.0)) (λ z. omega (arith, z.1)) f.ppm;
}

module _ (rs : List Run) (e : (lot_of rs).number ≡ 0) where
  none : (eqb (length rs) 0 ≡ false) × (ltb most_runs (length rs) ≡ false) × (any_large? rs ≡ false)
  none =
      let n = row_none (length rs) (any_large? rs) (sym (lot_row_lem rs) ∙ e) in
      let m = neither (eqb (length rs) 0) (ltb most_runs (length rs)) n.0 in
      (m.0, m.1, n.1)

  pub answered_few : length rs ≤ most_runs
  answered_few = ltb-false most_runs (length rs) none.1

  pub answered_small : any_large? rs ≡ false
  answered_small = none.2

  pub lot_printable : Printable (lot_of rs)
  lot_printable =
      let f = lot_few rs in
      record {
        truth = omega (arith, f.truth);
        matched1 = omega (arith, f.total.truth);
        undecided1 = omega (arith, f.total.truth);
        called = omega (arith, f.called);
        matched2 = omega (arith, f.total.called);
        undecided2 = omega (arith, f.total.called);
        recall = share_printable (lot_of rs).recall (f.recall e);
        precision = share_printable (lot_of rs).precision (f.precision e);
      }

pub lot_told : (rs : List Run) → ((lot_of rs).number ≤ 31) × ((lot_of rs).list ≡ 0) × ((lot_of rs).line ≡ 0) × ((lot_of rs).place ≡ 0)
unfolding lot_of
lot_told rs = (omega (arith, lot_row_lem rs, few (eqb (length rs) 0 || ltb most_runs (length rs)) (any_large? rs)), (go (eqb (lot_row rs) 0)).0, (go (eqb (lot_row rs) 0)).1, (go (eqb (lot_row rs) 0)).2)
  where
    few : (t u : Bool) → pick t 30 (pick u 31 0) ≤ 31
    few true u = omega arith
    few false true = omega arith
    few false false = omega arith

    told : Bool → Lot
    told t = pick t (given_lot (total_of rs)) (refused_lot (lot_row rs))

    go : (t : Bool) → ((told t).list ≡ 0) × ((told t).line ≡ 0) × ((told t).place ≡ 0)
    go true = (refl, refl, refl)
    go false = (refl, refl, refl)
