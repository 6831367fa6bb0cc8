-- Lots computed: two runs, one without anything decided, the bounds of rows 30 and 31, and which of them is first.
-- Assumes nothing.
use mathlib.Core.List.{[], ◌∷◌}
use mathlib.Core.Path.{◌≡◌, refl}
use Prim.Native.Nat.{ℕ}
use lib.ListN.{replicate}
use Rattle.lot.specs.declared.run.Run.{Run}
use Rattle.lot.specs.Lot.{refused_lot, lot_of}
use Rattle.lot.specs.Run.{any_large?, no_run, total_of}
use Rattle.lot.specs.Share.{NONE, share}

-- A run by its six counts: list 1, then list 2.
abbrev run : ℕ → ℕ → ℕ → ℕ → ℕ → ℕ → Run
run a b c d e f = record { matched1 = a; unmatched1 = b; undecided1 = c; matched2 = d; unmatched2 = e; undecided2 = f }

-- 2 of 3 and 3 of 4 matched, one truth entry undecided: recall 5/7, precision 5/6.
pub two_runs : lot_of (run 2 1 1 2 1 0 ∷ run 3 1 0 3 0 0 ∷ []) ≡ record {
  number = 0;
  list = 0;
  line = 0;
  place = 0;
  total = run 5 2 1 5 1 0;
  truth = 8;
  called = 6;
  recall = share 5 7 714285;
  precision = share 5 6 833333;
}
unfolding lot_of any_large? total_of
two_runs = refl

-- Nothing is decided, so there is no recall and no precision.
pub all_undecided : lot_of (run 0 0 512 0 0 9 ∷ []) ≡ record {
  number = 0;
  list = 0;
  line = 0;
  place = 0;
  total = run 0 0 512 0 0 9;
  truth = 512;
  called = 9;
  recall = share 0 0 NONE;
  precision = share 0 0 NONE;
}
unfolding lot_of any_large? total_of
all_undecided = refl

-- As much as a lot can hold.
pub largest : lot_of (replicate 256 (run 512 0 0 0 512 0)) ≡ record {
  number = 0;
  list = 0;
  line = 0;
  place = 0;
  total = run 131072 0 0 0 131072 0;
  truth = 131072;
  called = 131072;
  recall = share 131072 131072 1000000;
  precision = share 0 131072 0;
}
unfolding lot_of any_large? total_of
largest = refl

pub no_run_lem : lot_of [] ≡ refused_lot 30
unfolding lot_of any_large? total_of
no_run_lem = refl

-- 30 comes before 31.
pub one_run_more : lot_of (run 513 0 0 0 0 0 ∷ replicate 256 no_run) ≡ refused_lot 30
unfolding lot_of any_large? total_of
one_run_more = refl

pub one_entry_more : lot_of (no_run ∷ run 0 0 0 170 171 172 ∷ []) ≡ refused_lot 31
unfolding lot_of any_large? total_of
one_entry_more = refl

-- Counts as large as they can be given.
pub largest_counts : lot_of (run 4294967295 4294967295 4294967295 0 0 0 ∷ []) ≡ refused_lot 31
unfolding lot_of any_large? total_of
largest_counts = refl
