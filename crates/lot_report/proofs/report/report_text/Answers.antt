-- `lot_report::report::report_text` meets its contract: what is printed goes by the first row that holds. Assumes nothing.
use mathlib.Core.Bool.{true}
use mathlib.Core.List.{List}
use mathlib.Core.Path.{◌≡◌, sym, ap, ◌∙◌}
use Prim.Native.Nat.{ℕ}
use native.Mathlib.Omega.{arith}
use lib.ListN.{length, length-drop}
use Rattle.lines.specs.Lines.{refused_text}
use Rattle.vcf.specs.Entry.{next_line}
use Rattle.vcf.specs.List.{text_wrong?}
use Rattle.lot_report.specs.Run.{run_lines, bad_run}
use Rattle.lot_report.proofs.RunLaws.{bad_runs, bad_told, none_told}
use Rattle.lot_report.proofs.ReportLaws.{wrong_long, wrong_open, right_text, heading_ends, behind, behind_lines, report_wrong, report_unheaded, report_bad, report_runs, bad_printable, wrote_text}
use Rattle.lot_report.proofs.report.report_text.Goals.{then-text-gt-LONGEST_TEXT-via-then-text-gt-LONGEST_TEXT, then-text-gt-LONGEST_TEXT-via-else-text-gt-LONGEST_TEXT+then-not-ends_in_lf}
use Rattle.lot_report.proofs.report.report_text.Goals as goal

pub returns-then-text-gt-LONGEST_TEXT : goal.returns-then-text-gt-LONGEST_TEXT
returns-then-text-gt-LONGEST_TEXT c = let t = c.args.text.now in
    let wrong : text_wrong? t ≡ true = elim c.then-text-gt-LONGEST_TEXT.branch [
      | then-text-gt-LONGEST_TEXT-via-then-text-gt-LONGEST_TEXT w ↦ wrong_long t w.if-text-gt-LONGEST_TEXT.true
      | then-text-gt-LONGEST_TEXT-via-else-text-gt-LONGEST_TEXT+then-not-ends_in_lf w ↦ wrong_open t (sym w.ends_in_lf.ensures ∙ w.if-not-ends_in_lf.true)
    ] in
    wrote_text (omega (arith, c.requires)) c.refused_text.ensures (report_wrong t wrong)

pub returns-then-not-is_headed : goal.returns-then-not-is_headed
returns-then-not-is_headed c = let t = c.args.text.now in
    let right = right_text t c.if-text-gt-LONGEST_TEXT.false (sym c.ends_in_lf.ensures ∙ c.if-not-ends_in_lf.false) in
    wrote_text (omega (arith, c.requires)) c.refused_text-then-not-is_headed.ensures (report_unheaded t right (sym c.is_headed.ensures ∙ c.if-not-is_headed.true))

pub slice_bounds-runs-count : goal.slice_bounds-runs-count
slice_bounds-runs-count c = omega (arith, c.next_line.ensures, heading_ends c.args.text.now (sym c.ends_in_lf.ensures ∙ c.if-not-ends_in_lf.false))

pub slice_bounds-runs-start : goal.slice_bounds-runs-start
slice_bounds-runs-start c = omega (arith, c.next_line.ensures, heading_ends c.args.text.now (sym c.ends_in_lf.ensures ∙ c.if-not-ends_in_lf.false))

pub refused_text-requires-in-Some : goal.refused_text-requires-in-Some
refused_text-requires-in-Some c = let t = c.args.text.now in
    let told = bad_told (run_lines t) c.in-Some.bad (sym c.in-Some.is ∙ c.bad_line.ensures ∙ ap bad_run (behind_lines t c.next_line.result c.next_line.ensures)) in
    (omega arith, omega arith, omega (arith, told.0, bad_printable t c.if-text-gt-LONGEST_TEXT.false (next_line t 0)), omega arith, omega (arith, c.requires))

pub returns-in-Some : goal.returns-in-Some
returns-in-Some c = let t = c.args.text.now in
    let right = right_text t c.if-text-gt-LONGEST_TEXT.false (sym c.ends_in_lf.ensures ∙ c.if-not-ends_in_lf.false) in
    let headed = sym c.is_headed.ensures ∙ c.if-not-is_headed.false in
    let told = bad_told (run_lines t) c.in-Some.bad (sym c.in-Some.is ∙ c.bad_line.ensures ∙ ap bad_run (behind_lines t c.next_line.result c.next_line.ensures)) in
    let e = report_bad t right headed (λ z. told.1 (sym told.0 ∙ z)) ∙ ap (λ (n : ℕ). refused_text 6 0 n 0) told.0 in
    wrote_text (omega (arith, c.requires)) c.refused_text-in-Some.ensures e

pub report_runs-requires : goal.report_runs-requires
report_runs-requires c = let t = c.args.text.now in
    let n = c.next_line.result in
    let lines = behind_lines t n c.next_line.ensures in
    let none = none_told (run_lines t) (sym c.in_default.is ∙ c.bad_line.ensures ∙ ap bad_run lines) in
    (rw lines (bad_runs 2 (run_lines t) (omega arith) none), omega (arith, ap (λ (l : List ℕ). length l) (behind t n), length-drop n t, c.if-text-gt-LONGEST_TEXT.false), c.requires)

pub returns : goal.returns
returns c = let t = c.args.text.now in
    let right = right_text t c.if-text-gt-LONGEST_TEXT.false (sym c.ends_in_lf.ensures ∙ c.if-not-ends_in_lf.false) in
    let headed = sym c.is_headed.ensures ∙ c.if-not-is_headed.false in
    let lines = behind_lines t c.next_line.result c.next_line.ensures in
    let none = none_told (run_lines t) (sym c.in_default.is ∙ c.bad_line.ensures ∙ ap bad_run lines) in
    let w = rw lines at c.report_runs.ensures in
    wrote_text (omega (arith, c.requires)) w (report_runs t right headed none)
