-- What writing the table leans on.
-- Assumes nothing: these are definitions.
use Rattle.std.specs.Prelude.{false, List, ◌≡◌, ℕ, ◌≤◌, T, length}
use Rattle.lot.specs.declared.answer.Lot.{Lot}
use Rattle.lot.specs.Lot.{lot_of}
use Rattle.lot.specs.Run.{large?, any_large?}
use Rattle.vcf.specs.List.{lines_of, longest_text}
use Rattle.lot_report.specs.Run.{run?, all_runs?, run_on, runs_on}

-- The line is a run whose counts do not exceed what a list has.
pub record Fine (l : List ℕ) : Type 0 where
  pub run : T (run? l)
  pub small : large? (run_on l) ≡ false

-- Each line is one.
pub record AllFine (ls : List (List ℕ)) : Type 0 where
  pub runs : T (all_runs? ls)
  pub small : any_large? (runs_on ls) ≡ false

-- Each line of the text is a run, and this is their lot, which is not refused.
pub record Accepted (t : List ℕ) (l : Lot) : Type 0 where
  pub short : length t ≤ longest_text
  pub runs : T (all_runs? (lines_of t))
  pub lot : l ≡ lot_of (runs_on (lines_of t))
  pub answered : l.number ≡ 0
