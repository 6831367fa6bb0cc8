-- Runs as the code adds them up. These definitions serve only the crate itself: what a lot is stands in Lot.
-- Assumes nothing: these are definitions.
use Rattle.std.specs.Prelude.{true, false, ℕ, ◌+◌, ◌*◌, ◌≤◌, ◌<◌, ◌^◌, ltb}
use Rattle.bases.specs.Pick.{pick}
use Rattle.records.specs.Record.{most_records}
use Rattle.lot.specs.declared.run.Run.{Run}
use Rattle.lot.specs.declared.sum.Sum.{Sum}
use Rattle.lot.specs.Run.{most_runs, truth_of, called_of, large?, no_run, both_runs}

-- How many of n runs are added up: none where there are too many.
abbrev pub runs_read : ℕ → ℕ
runs_read n = pick (ltb most_runs n) 0 n

abbrev pub no_sum : Sum
no_sum = record { total = no_run; large = false }

-- One run more: one that is too large is told, and not added.
abbrev pub add_run : Sum → Run → Sum
add_run s r = pick (large? r) (record { total = s.total; large = true }) (record { total = both_runs s.total r; large = s.large })

-- The entries of each list are at most those of k runs.
pub record Bounded (k : ℕ) (total : Run) : Type 0 where
  pub truth : truth_of total ≤ k * most_records
  pub called : called_of total ≤ k * most_records

-- One run more can be added.
pub record HasRoom (total : Run) : Type 0 where
  pub truth : truth_of total + most_records < 2 ^ 32
  pub called : called_of total + most_records < 2 ^ 32
