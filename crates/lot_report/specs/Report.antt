-- What lot_report prints for the bytes of runs.tsv. A file that cannot be read counts as empty. Refused, in this order: 3 the text is over
-- 65,536 bytes or does not end in LF (so also empty), line 0; 5 line 1 is not the heading; 6 the first line that is no run, with its
-- number; then 30 and 31 as the lot tells them. List and place are 0.
-- Assumes nothing: these are definitions.
use Rattle.std.specs.Prelude.{not, List, ℕ, eqb}
use Rattle.bases.specs.Pick.{pick}
use Rattle.lines.specs.Lines.{refused_text}
use Rattle.lot.specs.Lot.{lot_of}
use Rattle.vcf.specs.List.{text_wrong?}
use Rattle.lot_report.specs.Run.{headed?, run_lines, bad_line, runs_on}
use Rattle.lot_report.specs.Table.{table_text}

-- The text for lines each of which is a run: the table, or why the lot is refused.
unfoldable pub runs_report : List (List ℕ) → List ℕ
runs_report ls =
    let l = lot_of (runs_on ls) in
    let table = table_text ls in
    let refused = refused_text l.number l.list l.line l.place in
    pick (eqb l.number 0) table refused

unfoldable pub report_text : List ℕ → List ℕ
report_text t =
    let ls = run_lines t in
    let bad = bad_line 2 ls in
    let runs = runs_report ls in
    pick (text_wrong? t) (refused_text 3 0 0 0)
    (pick (not (headed? t)) (refused_text 5 0 1 0)
    (pick (eqb bad 0) runs (refused_text 6 0 bad 0)))
