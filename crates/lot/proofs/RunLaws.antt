-- Laws of runs and of their totals.
--     small_truth, small_called       a run that is not too large has at most 512 entries in each list
--     within_small                    and a run that has no more is not too large
--     any_large_append, total_append  of two lists of runs together
--     any_large_more, total_more      of the first k runs and one more
-- Assumes nothing.
use mathlib.Core.Bool.{Bool, true, false, ◌||◌}
use mathlib.Core.List.{List, [], ◌∷◌, ◌++◌}
use mathlib.Core.Path.{◌≡◌, refl, sym, ap, ◌∙◌}
use Prim.Native.Nat.{ℕ, suc, ◌+◌, ◌≤◌, ◌<◌}
use native.Mathlib.Nat.{zero-add, add-zero}
use native.Mathlib.Omega.{arith}
use borrow.Author.Tests.{ltb-false, le-ltb}
use lib.ListN.{length, get_or, take}
use lib.Seq.{take-suc}
use Rattle.bases.proofs.TestLaws.{neither}
use Rattle.records.specs.Record.{most_records}
use Rattle.lot.specs.declared.run.Run.{Run}
use Rattle.lot.specs.Run.{truth_of, called_of, above?, large?, any_large?, no_run, both_runs, total_of}

module _ (r : Run) (small : large? r ≡ false) where
  abbrev within : (above? r.matched1 r.unmatched1 r.undecided1 ≡ false) × (above? r.matched2 r.unmatched2 r.undecided2 ≡ false)
  within = neither (above? r.matched1 r.unmatched1 r.undecided1) (above? r.matched2 r.unmatched2 r.undecided2) small

  pub small_truth : truth_of r ≤ most_records
  small_truth = ltb-false most_records (truth_of r) within.0

  pub small_called : called_of r ≤ most_records
  small_called = ltb-false most_records (called_of r) within.1

pub within_small : (r : Run) → truth_of r ≤ most_records → called_of r ≤ most_records → large? r ≡ false
within_small r truth called = rw (le-ltb most_records (truth_of r) truth, le-ltb most_records (called_of r) called)

or_or : (s t u : Bool) → (s || t) || u ≡ s || (t || u)
or_or true t u = refl
or_or false t u = refl

or_false : (t : Bool) → t || false ≡ t
or_false true = refl
or_false false = refl

pub any_large_append : (rs qs : List Run) → any_large? (rs ++ qs) ≡ any_large? rs || any_large? qs
unfolding any_large?
any_large_append [] qs = refl
any_large_append (r ∷ rs) qs = ap (λ (t : Bool). large? r || t) (any_large_append rs qs) ∙ sym (or_or (large? r) (any_large? rs) (any_large? qs))

both_both : (a b c : Run) → both_runs a (both_runs b c) ≡ both_runs (both_runs a b) c
both_both a b c =
    let e1 : a.matched1 + (b.matched1 + c.matched1) ≡ a.matched1 + b.matched1 + c.matched1 = omega arith in
    let e2 : a.unmatched1 + (b.unmatched1 + c.unmatched1) ≡ a.unmatched1 + b.unmatched1 + c.unmatched1 = omega arith in
    let e3 : a.undecided1 + (b.undecided1 + c.undecided1) ≡ a.undecided1 + b.undecided1 + c.undecided1 = omega arith in
    let e4 : a.matched2 + (b.matched2 + c.matched2) ≡ a.matched2 + b.matched2 + c.matched2 = omega arith in
    let e5 : a.unmatched2 + (b.unmatched2 + c.unmatched2) ≡ a.unmatched2 + b.unmatched2 + c.unmatched2 = omega arith in
    let e6 : a.undecided2 + (b.undecided2 + c.undecided2) ≡ a.undecided2 + b.undecided2 + c.undecided2 = omega arith in
    cc (e1, e2, e3, e4, e5, e6)

none_both : (a : Run) → both_runs no_run a ≡ a
none_both a = λ i. record {
  matched1 = zero-add a.matched1 i;
  unmatched1 = zero-add a.unmatched1 i;
  undecided1 = zero-add a.undecided1 i;
  matched2 = zero-add a.matched2 i;
  unmatched2 =
      zero-add a.unmatched2 i;
  undecided2 = zero-add a.undecided2 i;
}

both_none : (a : Run) → both_runs a no_run ≡ a
both_none a = λ i. record {
  matched1 = add-zero a.matched1 i;
  unmatched1 = add-zero a.unmatched1 i;
  undecided1 = add-zero a.undecided1 i;
  matched2 = add-zero a.matched2 i;
  unmatched2 =
      add-zero a.unmatched2 i;
  undecided2 = add-zero a.undecided2 i;
}

pub total_append : (rs qs : List Run) → total_of (rs ++ qs) ≡ both_runs (total_of rs) (total_of qs)
unfolding total_of
total_append [] qs = sym (none_both (total_of qs))
total_append (r ∷ rs) qs = ap (both_runs r) (total_append rs qs) ∙ both_both r (total_of rs) (total_of qs)

module _ (rs : List Run) (k : ℕ) (d : Run) (h : k < length rs) where
  pub any_large_more : any_large? (take (suc k) rs) ≡ any_large? (take k rs) || large? (get_or rs k d)
  unfolding any_large?
  any_large_more =
      ap any_large? (take-suc rs k d h) ∙ any_large_append (take k rs) (get_or rs k d ∷ [])
      ∙ ap (λ (t : Bool). any_large? (take k rs) || t) (or_false (large? (get_or rs k d)))

  pub total_more : total_of (take (suc k) rs) ≡ both_runs (total_of (take k rs)) (get_or rs k d)
  unfolding total_of
  total_more =
      ap total_of (take-suc rs k d h) ∙ total_append (take k rs) (get_or rs k d ∷ [])
      ∙ ap (both_runs (total_of (take k rs))) (both_none (get_or rs k d))
