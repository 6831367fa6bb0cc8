-- `matching::search::sum_weights` meets its contract. The invariant: the sum is that of the first rows, each of which is below 2^32.
-- Assumes nothing.
use mathlib.Core.Path.{ap}
use native.Mathlib.Omega.{arith}
use Rattle.std.proofs.lemmas.List.{get_or-take}
use Rattle.donors.specs.declared.table.Row.{Row}
use Rattle.donors.specs.Table.{no_row}
use Rattle.matching.proofs.WeightLaws.{weights_start, weights_more}
use Rattle.matching.proofs.search.sum_weights.Goals as goal

pub loop-row-init : goal.loop-row-init
loop-row-init c = (weights_start c.args.table.now, omega arith)

pub loop-row-preserved : goal.loop-row-preserved
loop-row-preserved c = let l = c.loop-row in
    let t = c.args.table.now in
    let row = get_or-take c.args.n t l.row-index no_row (omega arith) in
    (omega (arith, l.invariant.0, weights_more t l.row-index, ap (λ (r : Row). r.weight) row), omega arith)
