-- `lot_report::run::bad_line` meets its contract: the lines before the first that is no run are counted (`bad_position`, of RunLaws).
-- Assumes nothing.
use mathlib.Core.List.{List}
use mathlib.Core.Logic.{inl}
use mathlib.Core.Path.{◌≡◌, sym, ap, ◌∙◌}
use Prim.Native.Nat.{ℕ, ◌+◌}
use native.Mathlib.Omega.{arith}
use lib.ListN.{length}
use Rattle.std.proofs.Common.{rules}
use Rattle.std.proofs.lemmas.Iterator.Search.{position_from_yields_List}
use Rattle.std.specs.Option.{option_map}
use Rattle.vcf.proofs.JudgeLaws.{lines_few}
use Rattle.vcf.proofs.LinesLaws.{YieldsList-from_lines_of}
use Rattle.vcf.specs.List.{lines_of}
use Rattle.lot_report.specs.Run.{bad_run}
use Rattle.lot_report.proofs.RunLaws.{no_run?, bad_few, bad_position, bad_told}
use Rattle.lot_report.proofs.run.bad_line.Goals as goal

pub position-requires-clause-fits : goal.position-requires-clause-fits
position-requires-clause-fits c = inl (omega (arith, lines_few c.args.text.now, ap (λ (ls : List (List ℕ)). length ls) c.lines_of.ensures))

pub returns-in_err-k : goal.returns-in_err-k
returns-in_err-k c = let t = c.args.text.now in
    let first : option_map (λ (k : ℕ). k + 2) c.position.result ≡ bad_run (lines_of t) =
    bad_position (lines_of t) c.position.result (position_from_yields_List no_run? c.position.new.self _ c.position.result c.position.ensures.ran (YieldsList-from_lines_of t c.lines_of.ensures) (λ x b q k. search rules)) in
    c.from_residual.ensures ∙ ap (option_map (λ (k : ℕ). k + 2)) (sym c.in_err-k.was) ∙ first

pub overflow_add-result : goal.overflow_add-result
overflow_add-result c = let t = c.args.text.now in
    let first : option_map (λ (k : ℕ). k + 2) c.position.result ≡ bad_run (lines_of t) =
    bad_position (lines_of t) c.position.result (position_from_yields_List no_run? c.position.new.self _ c.position.result c.position.ensures.ran (YieldsList-from_lines_of t c.lines_of.ensures) (λ x b q k. search rules)) in
    let told = bad_told (lines_of t) (c.in_ok-k.k + 2) (ap (option_map (λ (k : ℕ). k + 2)) (sym c.in_ok-k.was) ∙ first) in
    omega (arith, told.0, bad_few 2 (lines_of t), lines_few t)

pub returns : goal.returns
returns c = let t = c.args.text.now in
    let first : option_map (λ (k : ℕ). k + 2) c.position.result ≡ bad_run (lines_of t) =
    bad_position (lines_of t) c.position.result (position_from_yields_List no_run? c.position.new.self _ c.position.result c.position.ensures.ran (YieldsList-from_lines_of t c.lines_of.ensures) (λ x b q k. search rules)) in
    ap (option_map (λ (k : ℕ). k + 2)) (sym c.in_ok-k.was) ∙ first
