-- `trials::search` is safe and ends: where the test is passed, the table is ready for the search. Assumes nothing.
use mathlib.Core.Path.{sym, ◌∙◌}
use native.Mathlib.Omega.{arith}
use Rattle.trials.proofs.ReadyLaws.{ready}
use Rattle.trials.proofs.search.Goals as goal

pub best_choices-best-requires : goal.best_choices-best-requires
best_choices-best-requires g c =
    ready _ _ _ _ c.put_rows-n.result c.min.result (sym c.is_ready.ensures ∙ c.if-not-is_ready.false) (omega (arith, c.min.ensures))
