-- A control run: the six counts that the card makes from its marks. List 1 is the truth, list 2 what the run called.
-- Assumes nothing: these are definitions.
use Rattle.std.specs.Prelude.{Bool, false, ◌||◌, List, [], ◌∷◌, ℕ, ◌+◌, ltb}
use Rattle.card.specs.declared.count.Counted.{Counted}
use Rattle.records.specs.Record.{most_records}
use Rattle.lot.specs.declared.run.Run.{Run}

-- The most runs of a lot.
abbrev pub most_runs : ℕ
most_runs = 256

-- The run whose six counts the call `count` answered.
abbrev pub run_of : Counted → Run
run_of c = record {
  matched1 = c.matched1;
  unmatched1 = c.unmatched1;
  undecided1 = c.undecided1;
  matched2 = c.matched2;
  unmatched2 = c.unmatched2;
  undecided2 = c.undecided2;
}

-- The entries of the truth, and of what was called.
abbrev pub truth_of : Run → ℕ
truth_of r = r.matched1 + r.unmatched1 + r.undecided1

abbrev pub called_of : Run → ℕ
called_of r = r.matched2 + r.unmatched2 + r.undecided2

-- Counts of a list exceed what a list has.
abbrev pub above? : ℕ → ℕ → ℕ → Bool
above? matched unmatched undecided = ltb most_records (matched + unmatched + undecided)

-- A run's counts exceed 512 in a list.
abbrev pub large? : Run → Bool
large? r = above? r.matched1 r.unmatched1 r.undecided1 || above? r.matched2 r.unmatched2 r.undecided2

-- Those of one of the runs do.
unfoldable pub any_large? : List Run → Bool
any_large? [] = false
any_large? (r ∷ rs) = large? r || any_large? rs

-- No entries at all.
abbrev pub no_run : Run
no_run = record { matched1 = 0; unmatched1 = 0; undecided1 = 0; matched2 = 0; unmatched2 = 0; undecided2 = 0 }

-- The counts of two, added.
abbrev pub both_runs : Run → Run → Run
both_runs a b = record {
  matched1 = a.matched1 + b.matched1;
  unmatched1 = a.unmatched1 + b.unmatched1;
  undecided1 = a.undecided1 + b.undecided1;
  matched2 = a.matched2 + b.matched2;
  unmatched2 = a.unmatched2 + b.unmatched2;
  undecided2 = a.undecided2 + b.undecided2;
}

-- The totals of all.
unfoldable pub total_of : List Run → Run
total_of [] = no_run
total_of (r ∷ rs) = both_runs r (total_of rs)
