-- `bases::reference::has_any_period` meets its contract: the periods of a part of the reference. Assumes nothing.
use mathlib.Core.Path.{ap, ◌∙◌}
use Prim.Native.Nat.{◌-◌}
use Rattle.bases.specs.Period.{any_period?}
use Rattle.bases.proofs.LetterLaws.{bases_part}
use Rattle.bases.proofs.reference.has_any_period.Goals as goal

pub returns : goal.returns
returns c = let a = c.args in
    c.any_period.ensures ∙ ap (any_period? a.g) (bases_part a.reference.now a.a (a.b - a.a))
