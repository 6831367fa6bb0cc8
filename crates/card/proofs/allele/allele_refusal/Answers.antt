-- `card::allele::allele_refusal` meets its contract: it answers the refusal of what `allele_shown` shows. Assumes nothing.
use mathlib.Core.Path.{◌≡◌, sym, ◌∙◌}
use borrow.Author.Rules.{rules}
use Rattle.card.specs.Allele.{shown}
use Rattle.card.specs.Refusal.{no_refusal}
use Rattle.card.proofs.AlleleLaws.{shown_refusal}
use Rattle.card.proofs.RefusalLaws.{first_none, none_holds}
use Rattle.card.proofs.ShownLaws.{allele_checks, checks_numbered}
use Rattle.card.proofs.StandsLaws.{stands_there, stands_not}
use Rattle.card.proofs.allele.allele_refusal.Goals as goal

pub returns-in-Ok : goal.returns-in-Ok
returns-in-Ok c =
    let a = c.args in
    let s = shown a.reference.now a.name.now a.text.now a.entry a.allele in
    let zero = stands_there s c.allele_shown.result c.allele_shown.ensures c.in-Ok.field-0 c.in-Ok.is in
    let none = none_holds (allele_checks a.reference.now a.name.now a.text.now a.entry a.allele) (checks_numbered a.reference.now a.name.now a.text.now a.entry a.allele)
    (rw (shown_refusal a.reference.now a.name.now a.text.now a.entry a.allele) at zero) in
    let zeros : c.default.result ≡ no_refusal = search rules in
    zeros ∙ sym (first_none (allele_checks a.reference.now a.name.now a.text.now a.entry a.allele) none)

pub returns-in-Err : goal.returns-in-Err
returns-in-Err c =
    let a = c.args in
    let s = shown a.reference.now a.name.now a.text.now a.entry a.allele in
    let told = stands_not s c.allele_shown.result c.allele_shown.ensures c.in-Err.refusal c.in-Err.is in
    sym told.0 ∙ shown_refusal a.reference.now a.name.now a.text.now a.entry a.allele
