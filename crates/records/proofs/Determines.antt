-- Each contract determines its result: any two results that it allows for the same arguments are equal. Of a result that is a part of a
-- lent slice, the bytes are, and of a record, those of its line. No function here is lent anything that it can write.
-- Assumes nothing.
use mathlib.Core.List.{List}
use mathlib.Core.Path.{sym, ◌∙◌}
use Prim.Native.Nat.{ℕ}
use Rattle.bases.proofs.Determines.{OneResult, OneSeen}
use Rattle.records.proofs.line.record_on.Kinds as record-on-kinds
use Rattle.records.proofs.line.record_on.Reads as record-on
use Rattle.records.proofs.line.Record.alt.Kinds as alt-kinds
use Rattle.records.proofs.line.Record.alt.Reads as alt
use Rattle.records.proofs.line.Record.alt_fault.Kinds as alt-fault-kinds
use Rattle.records.proofs.line.Record.alt_fault.Reads as alt-fault
use Rattle.records.proofs.line.Record.chrom.Kinds as chrom-kinds
use Rattle.records.proofs.line.Record.chrom.Reads as chrom
use Rattle.records.proofs.line.Record.format.Kinds as format-kinds
use Rattle.records.proofs.line.Record.format.Reads as format
use Rattle.records.proofs.line.Record.genotype.Kinds as genotype-kinds
use Rattle.records.proofs.line.Record.genotype.Reads as genotype
use Rattle.records.proofs.line.Record.reference.Kinds as reference-kinds
use Rattle.records.proofs.line.Record.reference.Reads as reference
use Rattle.records.proofs.record.is_too_long.Kinds as is-too-long-kinds
use Rattle.records.proofs.record.is_too_long.Reads as is-too-long
use Rattle.records.proofs.line.Record.pos.Kinds as pos-kinds
use Rattle.records.proofs.line.Record.pos.Reads as pos
use Rattle.records.proofs.record.record_fault.Kinds as record-fault-kinds
use Rattle.records.proofs.record.record_fault.Reads as record-fault

pub alt_fault_determines : OneResult 2 alt-fault-kinds.ps alt-fault-kinds.r alt-fault.Post
alt_fault_determines κs a z z' e e' p q = p ∙ sym q

pub is_too_long_determines : OneResult 1 is-too-long-kinds.ps is-too-long-kinds.r is-too-long.Post
is_too_long_determines κs a z z' e e' p q = p ∙ sym q

pub record_on_determines : OneSeen 1 record-on-kinds.ps record-on-kinds.r record-on.Post (List ℕ) (λ κs z. z.line.now)
record_on_determines κs a z z' e e' p q = p ∙ sym q

pub chrom_determines : OneSeen 2 chrom-kinds.ps chrom-kinds.r chrom.Post (List ℕ) (λ κs z. z.now)
chrom_determines κs a z z' e e' p q = p ∙ sym q

pub reference_determines : OneSeen 2 reference-kinds.ps reference-kinds.r reference.Post (List ℕ) (λ κs z. z.now)
reference_determines κs a z z' e e' p q = p ∙ sym q

pub alt_determines : OneSeen 2 alt-kinds.ps alt-kinds.r alt.Post (List ℕ) (λ κs z. z.now)
alt_determines κs a z z' e e' p q = p ∙ sym q

pub format_determines : OneSeen 2 format-kinds.ps format-kinds.r format.Post (List ℕ) (λ κs z. z.now)
format_determines κs a z z' e e' p q = p ∙ sym q

pub genotype_determines : OneSeen 2 genotype-kinds.ps genotype-kinds.r genotype.Post (List ℕ) (λ κs z. z.now)
genotype_determines κs a z z' e e' p q = p ∙ sym q

pub pos_on_determines : OneResult 2 pos-kinds.ps pos-kinds.r pos.Post
pos_on_determines κs a z z' e e' p q = p ∙ sym q

pub record_fault_determines : OneResult 3 record-fault-kinds.ps record-fault-kinds.r record-fault.Post
record_fault_determines κs a z z' e e' p q = p ∙ sym q
