-- `lot_report::run::run_on` meets its contract: each of its counts is read. Assumes nothing.
use Rattle.lot_report.proofs.run.run_on.Goals as goal

pub returns : goal.returns
returns c = rw (
  c.count_on.ensures,
  c.count_on-2.ensures,
  c.count_on-3.ensures,
  c.count_on-4.ensures,
  c.count_on-5.ensures,
  c.count_on-6.ensures,
)
