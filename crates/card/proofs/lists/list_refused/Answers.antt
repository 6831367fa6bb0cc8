-- `card::lists::list_refused` meets its contract: the rows are tried in order. Assumes nothing.
use mathlib.Core.Path.{sym, ap, ◌∙◌}
use Rattle.card.specs.Refusal.{passed}
use Rattle.card.proofs.ListsLaws.{list_no_reference, list_small, list_last}
use Rattle.card.proofs.lists.list_refused.Goals as goal

pub returns-then-not-is_reference : goal.returns-then-not-is_reference
returns-then-not-is_reference c =
    let a = c.args in
    let right = sym c.is_reference.ensures ∙ c.if-not-is_reference.true in
    sym (ap passed (list_no_reference a.reference.now a.name.now a.text.now a.small right))

pub returns-then-small : goal.returns-then-small
returns-then-small c =
    let a = c.args in
    let right = sym c.is_reference.ensures ∙ c.if-not-is_reference.false in
    sym (ap passed (list_small a.reference.now a.name.now a.text.now a.small right c.if-small.true))

pub returns : goal.returns
returns c =
    let a = c.args in
    let right = sym c.is_reference.ensures ∙ c.if-not-is_reference.false in
    c.text_refused.ensures ∙ sym (list_last a.reference.now a.name.now a.text.now a.small right c.if-small.false)
