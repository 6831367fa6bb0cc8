-- `card::lists::lists_refused` meets its contract: the rows of list 2 are tried behind those of a call with one list. Assumes nothing.
use mathlib.Core.Path.{sym, ap, ◌∙◌}
use Rattle.std.proofs.lemmas.Result.{err_from_is_err_and}
use Rattle.card.specs.Refusal.{passed}
use Rattle.card.proofs.ListsLaws.{lists_first, lists_last}
use Rattle.card.proofs.RefusalLaws.{passed_on, passed_not}
use Rattle.card.proofs.lists.lists_refused.Goals as goal

pub returns-in_err-list_refused : goal.returns-in_err-list_refused
returns-in_err-list_refused c =
    let a = c.args in
    let told = c.in_err-list_refused in
    let p = err_from_is_err_and c.from_residual.result c.from_residual.ensures.1 in
    let some = passed_not _ _ told.ensures in
    rw (p.1, p.2) (told.ensures ∙ sym (ap passed (lists_first a.reference.now a.name.now a.first.now a.small a.second.now some.1)))

pub returns : goal.returns
returns c =
    let a = c.args in
    let told = c.in_ok-list_refused in
    let none = passed_on _ _ told.ensures in
    c.text_refused.ensures ∙ sym (lists_last a.reference.now a.name.now a.first.now a.small a.second.now none)
