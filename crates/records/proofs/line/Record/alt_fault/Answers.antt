-- `records::line::Record::alt_fault` meets its contract: each return is a law of ALT, at the comma that was found. Assumes nothing.
use mathlib.Core.Path.{refl, sym, ap, ◌∙◌}
use Prim.Native.Nat.{◌≤◌}
use native.Mathlib.Omega.{arith}
use lib.ListN.{length}
use lib.Seq.{length-take-le}
use Rattle.fields.specs.Bytes.{COMMA}
use Rattle.fields.proofs.BytesLaws.{until_le}
use Rattle.records.proofs.RecordLaws.{alt_within}
use Rattle.records.proofs.AltLaws.{alt_read, alts_first, alts_one, alts_second, alts_equal, alts_none}
use Rattle.records.specs.Row.{told}
use Rattle.records.proofs.RowLaws.{told_err, told_ok, told_exit}
use Rattle.records.proofs.line.Record.alt_fault.Goals as goal

pub slice_bounds-first-end : goal.slice_bounds-first-end
slice_bounds-first-end c = let f = c.alt-alt.result.now in
    let e : c.find-end.result ≤ length f = omega (arith, until_le COMMA f) in
    sym (length-take-le c.find-end.result f e)

pub returns-in_err-allele_fault : goal.returns-in_err-allele_fault
returns-in_err-allele_fault c = let on = alt_read c.args.self.now c.reference-reference.ensures c.alt-alt.ensures c.find-end.ensures in
    let one = told_err _ _ c.in_err-allele_fault.ensures in
    told_exit _ _ _ c.from_residual.ensures.1 (alts_first on _ one.0 one.1) one.1

pub returns-then-alt-end : goal.returns-then-alt-end
returns-then-alt-end c = let on = alt_read c.args.self.now c.reference-reference.ensures c.alt-alt.ensures c.find-end.ensures in
    ap told (alts_one on _ refl (told_ok _ _ c.in_ok-allele_fault.ensures) (omega arith))

pub overflow_add-second_at : goal.overflow_add-second_at
overflow_add-second_at c = omega (arith, alt_within c.args.self.now, ap length c.alt-alt.ensures)

pub overflow_add-second_at-2 : goal.overflow_add-second_at-2
overflow_add-second_at-2 c = omega (arith, alt_within c.args.self.now, ap length c.alt-alt.ensures)

pub returns-in_err-allele_fault-2 : goal.returns-in_err-allele_fault-2
returns-in_err-allele_fault-2 c = let on = alt_read c.args.self.now c.reference-reference.ensures c.alt-alt.ensures c.find-end.ensures in
    let two = told_err _ _ c.in_err-allele_fault-2.ensures in
    told_exit _ _ _ c.from_residual-in_err-allele_fault-2.ensures.1
    (alts_second on _ refl (told_ok _ _ c.in_ok-allele_fault.ensures) (omega arith) _ two.0 two.1) two.1

pub returns-then-same_bases : goal.returns-then-same_bases
returns-then-same_bases c = let on = alt_read c.args.self.now c.reference-reference.ensures c.alt-alt.ensures c.find-end.ensures in
    ap told
    (alts_equal on _ refl (told_ok _ _ c.in_ok-allele_fault.ensures) (omega arith) _ refl (told_ok _ _ c.in_ok-allele_fault-2.ensures)
    (sym c.same_bases.ensures ∙ c.if-same_bases.true))

pub returns : goal.returns
returns c = let on = alt_read c.args.self.now c.reference-reference.ensures c.alt-alt.ensures c.find-end.ensures in
    ap told
    (alts_none on _ refl (told_ok _ _ c.in_ok-allele_fault.ensures) (omega arith) _ refl (told_ok _ _ c.in_ok-allele_fault-2.ensures)
    (sym c.same_bases.ensures ∙ c.if-same_bases.false))
