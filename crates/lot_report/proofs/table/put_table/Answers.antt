-- `lot_report::table::put_table` meets its contract: the heading is written, behind it the lines of the runs, and that of the lot. Assumes
-- nothing.
use native.Mathlib.Omega.{arith}
use Rattle.bases.proofs.WroteLaws.{wrote_more}
use Rattle.lot_report.proofs.TableLaws.{runs_few, accepted_few, accepted_fine, accepted_printable}
use Rattle.lot_report.proofs.table.put_table.Goals as goal

pub put_runs-requires : goal.put_runs-requires
put_runs-requires c = let h = c.requires.0 in
    (accepted_fine _ _ h, omega (arith, c.requires.1, h.short, accepted_few _ _ h))

pub put_line-requires : goal.put_line-requires
put_line-requires c = let h = c.requires.0 in
    (accepted_printable _ _ h, omega (arith, c.requires.1, h.short, runs_few c.args.text.now, accepted_few _ _ h))

pub returns : goal.returns
returns c = rw (← c.requires.0.lot) (wrote_more (omega arith) (wrote_more (omega arith) c.bytes.ensures c.put_runs.ensures) c.put_line.ensures)
