-- `matching::fits::end_before` meets its contract. The invariant: of the rows from i on none takes its span. Assumes nothing.
use mathlib.Core.Path.{◌≡◌}
use Rattle.donors.specs.Table.{copy_of}
use Rattle.matching.specs.Fits.{end_before}
use Rattle.matching.proofs.fits.end_before.Given as goal

abbrev pub invariant-loop-i : goal.invariant-loop-i
invariant-loop-i l = end_before l.table l.choices l.first (copy_of l.copy) l.at ≡ end_before l.table l.choices l.first (copy_of l.copy) l.i
