-- The lot: what is answered for the counts of its runs.
-- Assumes nothing: these are definitions.
use Rattle.std.specs.Prelude.{Bool, ◌||◌, List, ℕ, ◌-◌, eqb, ltb, length, take}
use Rattle.bases.specs.Pick.{pick}
use Rattle.lot.specs.declared.answer.Lot.{Lot}
use Rattle.lot.specs.declared.run.Run.{Run}
use Rattle.lot.specs.Run.{most_runs, truth_of, called_of, any_large?, no_run, total_of}
use Rattle.lot.specs.Share.{share, share_of}

-- The row that holds of n runs, one of which is too large or none: 30 no run or more than 256, 31 a run's counts exceed 512 in a list; 30
-- first. 0: no row.
abbrev pub row_of : ℕ → Bool → ℕ
row_of n large = pick (eqb n 0 || ltb most_runs n) 30 (pick large 31 0)

-- Refused: the number, list 0, line 0, place 0, and zeros.
abbrev pub refused_lot : ℕ → Lot
refused_lot number = record {
  number = number;
  list = 0;
  line = 0;
  place = 0;
  total = no_run;
  truth = 0;
  called = 0;
  recall = share 0 0 0;
  precision = share 0 0 0;
}

-- Answered: the totals, the entries of each list, recall (matched truth over truth less undecided) and precision (likewise for called).
abbrev pub given_lot : Run → Lot
given_lot t = record {
  number = 0;
  list = 0;
  line = 0;
  place = 0;
  total = t;
  truth = truth_of t;
  called = called_of t;
  recall = share_of t.matched1 (truth_of t - t.undecided1);
  precision = share_of t.matched2 (called_of t - t.undecided2);
}

-- What is answered where this row holds (0: none) and these are the totals.
abbrev pub answer_of : ℕ → Run → Lot
answer_of number total = pick (eqb number 0) (given_lot total) (refused_lot number)

-- The row of a lot's runs.
abbrev pub lot_row : List Run → ℕ
lot_row runs = row_of (length runs) (any_large? runs)

unfoldable pub lot_of : List Run → Lot
lot_of runs = answer_of (lot_row runs) (total_of runs)

-- The lot of n runs, of which the first are given: all of them where they are 256 at most, so that what is not given is not looked at.
unfoldable pub lot_of_first : ℕ → List Run → Lot
lot_of_first n runs = answer_of (row_of n (any_large? (take n runs))) (total_of (take n runs))
