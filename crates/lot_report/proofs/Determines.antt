-- Each contract determines its result, and what it leaves in the room that it is lent and where its writer stands: any two that it allows
-- for the same arguments are equal. `Post` is the contract as src/ states it. What `read_file` reads is not told by a contract. Assumes nothing.
use mathlib.Core.List.{List}
use mathlib.Core.Path.{sym, ◌∙◌}
use Prim.Native.Nat.{ℕ}
use Rattle.bases.proofs.Determines.{OneResult, OneLeft}
use Rattle.lot_report.proofs.count.is_count.Kinds as is-count-kinds
use Rattle.lot_report.proofs.count.is_count.Reads as is-count
use Rattle.lot_report.proofs.count.read_count.Kinds as read-count-kinds
use Rattle.lot_report.proofs.count.read_count.Reads as read_count
use Rattle.lot_report.proofs.report.report_text.Kinds as report-text-kinds
use Rattle.lot_report.proofs.report.report_text.Reads as report-text
use Rattle.lot_report.proofs.run.bad_line.Kinds as bad-line-kinds
use Rattle.lot_report.proofs.run.bad_line.Reads as bad-line
use Rattle.lot_report.proofs.run.is_headed.Kinds as is-headed-kinds
use Rattle.lot_report.proofs.run.is_headed.Reads as is-headed
use Rattle.lot_report.proofs.run.is_run.Kinds as is-run-kinds
use Rattle.lot_report.proofs.run.is_run.Reads as is-run
use Rattle.lot_report.proofs.run.run_on.Kinds as run-on-kinds
use Rattle.lot_report.proofs.run.run_on.Reads as run_on
use Rattle.lot_report.proofs.runs.count_lines.Kinds as count-lines-kinds
use Rattle.lot_report.proofs.runs.count_lines.Reads as count-lines
use Rattle.lot_report.proofs.runs.first_runs.Kinds as first-runs-kinds
use Rattle.lot_report.proofs.runs.first_runs.Reads as first_runs
use Rattle.lot_report.proofs.share.put_share.Kinds as put-share-kinds
use Rattle.lot_report.proofs.share.put_share.Reads as put-share
use Rattle.lot_report.proofs.table.put_table.Kinds as put-table-kinds
use Rattle.lot_report.proofs.table.put_table.Reads as put-table

pub is_count_determines : OneResult 1 is-count-kinds.ps is-count-kinds.r is-count.Post
is_count_determines κs a z z' e e' p q = p ∙ sym q

pub read_count_determines : OneResult 1 read-count-kinds.ps read-count-kinds.r read_count.Post
read_count_determines κs a z z' e e' p q = p ∙ sym q

pub is_headed_determines : OneResult 1 is-headed-kinds.ps is-headed-kinds.r is-headed.Post
is_headed_determines κs a z z' e e' p q = p ∙ sym q

pub is_run_determines : OneResult 1 is-run-kinds.ps is-run-kinds.r is-run.Post
is_run_determines κs a z z' e e' p q = p ∙ sym q

pub run_on_determines : OneResult 1 run-on-kinds.ps run-on-kinds.r run_on.Post
run_on_determines κs a z z' e e' p q = p ∙ sym q

pub bad_line_determines : OneResult 1 bad-line-kinds.ps bad-line-kinds.r bad-line.Post
bad_line_determines κs a z z' e e' p q = p ∙ sym q

pub count_lines_determines : OneResult 1 count-lines-kinds.ps count-lines-kinds.r count-lines.Post
count_lines_determines κs a z z' e e' p q = p ∙ sym q

pub first_runs_determines : OneResult 1 first-runs-kinds.ps first-runs-kinds.r first_runs.Post
first_runs_determines κs a z z' e e' p q = p ∙ sym q

pub put_share_determines : OneLeft 2 put-share-kinds.ps put-share-kinds.r put-share.Post ℕ (λ κs e. e.1.1.0.now.at)
put_share_determines κs a z z' e e' p q = p.at ∙ sym q.at

pub put_share_leaves : OneLeft 2 put-share-kinds.ps put-share-kinds.r put-share.Post (List ℕ) (λ κs e. e.1.1.0.now.room.now)
put_share_leaves κs a z z' e e' p q = p.room ∙ sym q.room

pub put_table_determines : OneLeft 3 put-table-kinds.ps put-table-kinds.r put-table.Post ℕ (λ κs e. e.1.1.0.now.at)
put_table_determines κs a z z' e e' p q = p.at ∙ sym q.at

pub put_table_leaves : OneLeft 3 put-table-kinds.ps put-table-kinds.r put-table.Post (List ℕ) (λ κs e. e.1.1.0.now.room.now)
put_table_leaves κs a z z' e e' p q = p.room ∙ sym q.room

pub report_text_determines : OneLeft 3 report-text-kinds.ps report-text-kinds.r report-text.Post ℕ (λ κs e. e.1.0.now.at)
report_text_determines κs a z z' e e' p q = p.0.at ∙ sym q.0.at

pub report_text_leaves : OneLeft 3 report-text-kinds.ps report-text-kinds.r report-text.Post (List ℕ) (λ κs e. e.1.0.now.room.now)
report_text_leaves κs a z z' e e' p q = p.0.room ∙ sym q.0.room
