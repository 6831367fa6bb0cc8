-- `lot_report::table::put_runs` meets its contract. The loop's invariant: what is left to write are the lines of the runs on the lines that
-- are left (`Listing`, of TableLaws). Assumes nothing.
use Rattle.vcf.specs.Lines.{lines_left}
use Rattle.vcf.specs.List.{lines_of}
use Rattle.lot_report.specs.Table.{runs_text}
use Rattle.lot_report.proofs.TableLaws.{Listing}
use Rattle.lot_report.proofs.table.put_runs.Given as goal

abbrev pub invariant-loop-line : goal.invariant-loop-line
invariant-loop-line l = Listing l.initial.out (runs_text (lines_of l.text)) (lines_left l.line-iterator) l.out
