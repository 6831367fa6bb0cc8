-- `card::allele::allele_shown` meets its contract: the rows are tried in order, and where none holds the entry is read off its line. An
-- accepted list's entry has a POS. Assumes nothing.
use mathlib.Core.Bool.{false}
use mathlib.Core.Path.{sym, ap, ◌∙◌}
use native.Mathlib.Omega.{arith}
use Rattle.std.proofs.lemmas.Result.{err_from_is_err_and}
use Rattle.bases.specs.Letter.{bases_of}
use Rattle.vcf.proofs.AcceptedLaws.{readable_records, accepted_from}
use Rattle.card.specs.Allele.{stands_of}
use Rattle.card.specs.Refusal.{first_refusal, list_checks}
use Rattle.card.proofs.ListsLaws.{list_read}
use Rattle.card.proofs.RefusalLaws.{passed_on, passed_not}
use Rattle.card.proofs.ShownLaws.{shown_list, shown_no_entry, shown_no_allele, shown_entry, entry_pos}
use Rattle.card.proofs.StandsLaws.{stands_refused}
use Rattle.card.proofs.allele.allele_shown.Goals as goal

pub returns-in_err-list_refused : goal.returns-in_err-list_refused
returns-in_err-list_refused c =
    let a = c.args in
    let told = c.in_err-list_refused in
    let q = first_refusal (list_checks a.reference.now a.name.now a.text.now false) in
    let p = err_from_is_err_and c.from_residual.result c.from_residual.ensures.1 in
    let some = passed_not _ q told.ensures in
    rw (p.1, p.2, shown_list a.reference.now a.name.now a.text.now a.entry a.allele some.1, stands_refused q some.1, some.0)

pub returns-then-text-at : goal.returns-then-text-at
returns-then-text-at c =
    let a = c.args in
    let read = list_read a.reference.now a.name.now a.text.now false
    (passed_on _ _ c.in_ok-list_refused.ensures) in
    let at = c.record_at-at.ensures in
    sym (ap stands_of (shown_no_entry a.reference.now a.name.now a.text.now a.entry a.allele read.right read.accepted (omega arith)))

pub entry_at-e-requires : goal.entry_at-e-requires
entry_at-e-requires c =
    let a = c.args in
    let read = list_read a.reference.now a.name.now a.text.now false
    (passed_on _ _ c.in_ok-list_refused.ensures) in (
      omega arith,
      rw c.record_at-at.ensures (readable_records (bases_of a.reference.now) a.name.now a.text.now _
          (accepted_from (bases_of a.reference.now) a.name.now a.text.now read.accepted a.entry)),
    )

pub returns-then-e-allele : goal.returns-then-e-allele
returns-then-e-allele c =
    let a = c.args in
    let read = list_read a.reference.now a.name.now a.text.now false
    (passed_on _ _ c.in_ok-list_refused.ensures) in
    sym (ap stands_of (shown_no_allele a.reference.now a.name.now a.text.now a.entry a.allele read.right read.accepted c.record_at-at.result c.record_at-at.ensures
    (omega arith) c.entry_at-e.result c.entry_at-e.ensures c.if-e-allele.true))

pub stands_at-requires : goal.stands_at-requires
stands_at-requires c =
    let a = c.args in
    let read = list_read a.reference.now a.name.now a.text.now false
    (passed_on _ _ c.in_ok-list_refused.ensures) in
    entry_pos a.reference.now a.name.now a.text.now a.entry a.allele read.right read.accepted c.record_at-at.result c.record_at-at.ensures
    (omega arith) c.entry_at-e.result c.entry_at-e.ensures

pub returns : goal.returns
returns c =
    let a = c.args in
    let read = list_read a.reference.now a.name.now a.text.now false
    (passed_on _ _ c.in_ok-list_refused.ensures) in
    c.stands_at.ensures ∙ sym (ap stands_of (shown_entry a.reference.now a.name.now a.text.now a.entry a.allele read.right read.accepted c.record_at-at.result c.record_at-at.ensures
    (omega arith) c.entry_at-e.result c.entry_at-e.ensures c.if-e-allele.false))
