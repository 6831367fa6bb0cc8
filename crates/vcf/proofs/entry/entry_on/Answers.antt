-- `vcf::entry::entry_on` meets its contract: each field is read where it begins, and is what the definition names. Assumes nothing.
use mathlib.Core.List.{List}
use mathlib.Core.Path.{ap, ◌∙◌}
use Prim.Native.Nat.{ℕ, ◌+◌}
use native.Mathlib.Omega.{arith}
use lib.Dec.{lit<}
use lib.ListN.{length}
use Rattle.fields.specs.Bytes.{COMMA}
use Rattle.fields.specs.Field.{field_at, field}
use Rattle.fields.proofs.BytesLaws.{until_le}
use Rattle.fields.proofs.FieldLaws.{read}
use Rattle.records.specs.Record.{genotype_on, pos_on}
use Rattle.records.proofs.RecordLaws.{copies_read, reference_within, alt_within}
use Rattle.vcf.proofs.EntryLaws.{readable_ten, readable_right, entry_is}
use Rattle.vcf.proofs.entry.entry_on.Goals as goal

pub record_on-record-requires : goal.record_on-record-requires
record_on-record-requires c = readable_ten c.args.line.now c.requires.0

pub overflow_add-alt_at : goal.overflow_add-alt_at
overflow_add-alt_at c = omega (arith, alt_within c.record_on-record.result, ap length c.record_on-record.ensures)

pub overflow_add-result : goal.overflow_add-result
overflow_add-result c = omega (arith, reference_within c.record_on-record.result, ap length c.record_on-record.ensures)

pub overflow_add-result-2 : goal.overflow_add-result-2
overflow_add-result-2 c = omega (
  arith,
  alt_within c.record_on-record.result,
  ap length c.record_on-record.ensures,
  ap length c.alt-alt.ensures,
  until_le COMMA c.alt-alt.result.now,
)

pub overflow_add-result-3 : goal.overflow_add-result-3
overflow_add-result-3 c = omega (
  arith,
  alt_within c.record_on-record.result,
  ap length c.record_on-record.ensures,
  ap length c.alt-alt.ensures,
  until_le COMMA c.alt-alt.result.now,
)

pub overflow_add-end : goal.overflow_add-end
overflow_add-end c = omega (arith, until_le COMMA c.alt-alt.result.now)

pub bounds-genotype-0 : goal.bounds-genotype-0
bounds-genotype-0 c = let l = c.args.line.now in
    let w = copies_read l (readable_right l c.requires.0) (c.genotype-genotype.ensures ∙ ap genotype_on c.record_on-record.ensures) in
    rw w.long (lit< tt)

pub overflow_sub-result : goal.overflow_sub-result
overflow_sub-result c = let l = c.args.line.now in
    (copies_read l (readable_right l c.requires.0) (c.genotype-genotype.ensures ∙ ap genotype_on c.record_on-record.ensures)).first

pub bounds-genotype-2 : goal.bounds-genotype-2
bounds-genotype-2 c = let l = c.args.line.now in
    let w = copies_read l (readable_right l c.requires.0) (c.genotype-genotype.ensures ∙ ap genotype_on c.record_on-record.ensures) in
    rw w.long (lit< tt)

pub overflow_sub-result-2 : goal.overflow_sub-result-2
overflow_sub-result-2 c = let l = c.args.line.now in
    (copies_read l (readable_right l c.requires.0) (c.genotype-genotype.ensures ∙ ap genotype_on c.record_on-record.ensures)).last

pub returns : goal.returns
returns c = let at = c.args.at in
    let r = c.record_on-record.result in
    let e = c.record_on-record.ensures in
    let f = read r.line.now r.fields r.read in
    entry_is c.args.line.now at
    (c.pos.ensures ∙ ap pos_on e)
    (ap (λ (a : ℕ). at + a) f.reference ∙ ap (λ (l : List ℕ). at + field_at 3 l) e)
    (c.reference.ensures ∙ ap (field 3) e)
    (ap (λ (a : ℕ). at + a) f.alt ∙ ap (λ (l : List ℕ). at + field_at 4 l) e)
    (c.alt-alt.ensures ∙ ap (field 4) e)
    (omega arith)
    c.saturating_sub.ensures
    c.alt_count.ensures
    (c.genotype-genotype.ensures ∙ ap genotype_on e)
