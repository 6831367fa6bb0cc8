-- `lot_report::runs::count_lines` meets its contract. Assumes nothing.
use mathlib.Core.List.{List}
use mathlib.Core.Logic.{inl}
use mathlib.Core.Path.{ap}
use Prim.Native.Nat.{ℕ}
use native.Mathlib.Omega.{arith}
use lib.ListN.{length}
use Rattle.vcf.proofs.JudgeLaws.{lines_few}
use Rattle.std.proofs.lemmas.Iterator.Consumers.{count_from_yields_List}
use Rattle.vcf.proofs.LinesLaws.{YieldsList-from_lines_of}
use Rattle.lot_report.proofs.runs.count_lines.Goals as goal

pub count-requires-clause-fits : goal.count-requires-clause-fits
count-requires-clause-fits c = let all = ap (λ (ls : List (List ℕ)). length ls) c.lines_of.ensures in
    inl (omega (arith, lines_few c.args.text.now, all))

pub returns : goal.returns
returns c = count_from_yields_List _ _ c.count.ensures.ran (YieldsList-from_lines_of c.args.text.now c.lines_of.ensures)
