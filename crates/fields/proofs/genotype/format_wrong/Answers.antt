-- `fields::genotype::format_wrong` meets its contract: `!=` finds other lists than GT. Assumes nothing.
use mathlib.Core.Bool.{not, true, false}
use mathlib.Core.Path.{◌≡◌, sym, ap, ◌∙◌}
use borrow.Author.Tests.{not-true, not-false}
use Rattle.bases.proofs.SameLaws.{eq_same}
use Rattle.bases.specs.Same.{same?}
use Rattle.fields.specs.Bytes.{genotype_key}
use Rattle.fields.proofs.genotype.format_wrong.Goals as goal

pub returns-then-ne : goal.returns-then-ne
returns-then-ne c = let f = c.args.field.now in
    let h : same? genotype_key f ≡ false = sym (eq_same genotype_key f) ∙ not-true _ (sym c.ne.ensures ∙ c.if-ne.true) in
    rw h (ap not c.begins.ensures)

pub returns-else-ne : goal.returns-else-ne
returns-else-ne c = let f = c.args.field.now in
    let h : same? genotype_key f ≡ true = sym (eq_same genotype_key f) ∙ not-false _ (sym c.ne.ensures ∙ c.if-ne.false) in
    rw h c.if-ne.false
