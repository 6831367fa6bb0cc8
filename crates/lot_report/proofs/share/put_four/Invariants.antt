-- `lot_report::share::put_four` meets its contract. The loop's invariant: the digits by the units so far are written. Assumes nothing.
use mathlib.Core.List.{[], ◌∷◌}
use mathlib.Core.Path.{◌≡◌}
use lib.ListN.{take}
use Rattle.bases.specs.Wrote.{Wrote}
use Rattle.lot_report.specs.Table.{four_digits}
use Rattle.lot_report.proofs.share.put_four.Given as goal

abbrev pub invariant-loop-unit : goal.invariant-loop-unit
invariant-loop-unit l = (l.unit-items ≡ 1000 ∷ 100 ∷ 10 ∷ 1 ∷ []) × Wrote l.initial.out (take l.unit-index (four_digits l.n)) l.out
