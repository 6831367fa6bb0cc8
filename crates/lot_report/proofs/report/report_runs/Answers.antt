-- `lot_report::report::report_runs` meets its contract: what is printed goes by what the lot answers. Assumes nothing.
use native.Mathlib.Omega.{arith}
use Rattle.vcf.specs.List.{lines_of}
use Rattle.lot_report.specs.Run.{runs_on}
use Rattle.lot_report.proofs.LotLaws.{lot_told}
use Rattle.lot_report.proofs.ReadLaws.{lot_made}
use Rattle.lot_report.proofs.ReportLaws.{runs_refused, runs_table}
use Rattle.lot_report.proofs.report.report_runs.Goals as goal

pub refused_text-requires : goal.refused_text-requires
refused_text-requires c = let lot = lot_made _ _ _ _ c.count_lines.ensures c.first_runs.ensures c.lot_of_first-lot.ensures in
    let told = lot_told (runs_on (lines_of c.args.text.now)) in
    rw lot (omega (arith, told.0), omega (arith, told.1), omega (arith, told.2), omega (arith, told.3), omega (arith, c.requires.2))

pub returns-then-lot-ne0 : goal.returns-then-lot-ne0
returns-then-lot-ne0 c = let lot = lot_made _ _ _ _ c.count_lines.ensures c.first_runs.ensures c.lot_of_first-lot.ensures in
    rw (runs_refused _ _ lot c.if-lot-ne0.true) c.refused_text.ensures

pub put_table-requires : goal.put_table-requires
put_table-requires c = let lot = lot_made _ _ _ _ c.count_lines.ensures c.first_runs.ensures c.lot_of_first-lot.ensures in
    (record { short = c.requires.1; runs = c.requires.0; lot = lot; answered = c.if-lot-ne0.false }, c.requires.2)

pub returns : goal.returns
returns c = let lot = lot_made _ _ _ _ c.count_lines.ensures c.first_runs.ensures c.lot_of_first-lot.ensures in
    rw (runs_table _ _ lot c.if-lot-ne0.false) c.put_table.ensures
