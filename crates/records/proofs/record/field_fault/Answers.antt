-- `records::record::field_fault` meets its contract: its tests are the rows' tests, in their order, behind row 7 those of the line's record.
-- Assumes nothing.
use mathlib.Core.List.{List}
use mathlib.Core.Path.{sym, ap, ◌∙◌}
use Prim.Native.Nat.{ℕ}
use lib.Dec.{eqb}
use Rattle.bases.specs.Letter.{bases_of}
use Rattle.bases.specs.declared.place.Pos.{Pos}
use Rattle.records.specs.Alt.{alt_rows}
use Rattle.records.specs.Record.{pos_on, ref_wrong?, later_rows}
use Rattle.records.specs.declared.row.LineFault.{LineFault}
use Rattle.records.specs.Row.{first_row, told}
use Rattle.records.proofs.RowLaws.{first_row_holds, first_row_not, first_row_keeps, first_row_past, none_holds, numbered, told_err, told_ok, told_exit}
use Rattle.records.proofs.record.field_fault.Goals as goal

pub returns-then-chrom_wrong : goal.returns-then-chrom_wrong
returns-then-chrom_wrong c = sym (ap told
    (first_row_holds _ _ (sym c.chrom_wrong.ensures ∙ c.if-chrom_wrong.true)))

pub returns-then-eq : goal.returns-then-eq
returns-then-eq c = let pos = c.pos-pos.ensures ∙ ap pos_on c.record_on-record.ensures in
    sym (ap told
    (first_row_not _ _ (sym c.chrom_wrong.ensures ∙ c.if-chrom_wrong.false)
    ∙ first_row_holds _ _ (sym (c.eq.ensures ∙ ap (λ (p : Pos). eqb p.0 0) pos) ∙ c.if-eq.true)))

pub returns-then-ref_wrong : goal.returns-then-ref_wrong
returns-then-ref_wrong c = let pos = c.pos-pos.ensures ∙ ap pos_on c.record_on-record.ensures in
    let ref = c.ref_wrong.ensures ∙ ap ref_wrong? c.record_on-record.ensures in
    sym (ap told
    (first_row_not _ _ (sym c.chrom_wrong.ensures ∙ c.if-chrom_wrong.false)
    ∙ first_row_not _ _ (sym (c.eq.ensures ∙ ap (λ (p : Pos). eqb p.0 0) pos) ∙ c.if-eq.false)
    ∙ first_row_holds _ _ (sym ref ∙ c.if-ref_wrong.true)))

pub returns-in_err-alt_fault : goal.returns-in_err-alt_fault
returns-in_err-alt_fault c = let l = c.args.line.now in
    let pos = c.pos-pos.ensures ∙ ap pos_on c.record_on-record.ensures in
    let ref = c.ref_wrong.ensures ∙ ap ref_wrong? c.record_on-record.ensures in
    let alt = told_err _ _ (c.in_err-alt_fault.ensures ∙ ap (λ (x : List ℕ). told (first_row (alt_rows x))) c.record_on-record.ensures) in
    told_exit _ _ _ c.from_residual.ensures.1
    (alt.0 ∙ sym
    (first_row_not _ _ (sym c.chrom_wrong.ensures ∙ c.if-chrom_wrong.false)
    ∙ first_row_not _ _ (sym (c.eq.ensures ∙ ap (λ (p : Pos). eqb p.0 0) pos) ∙ c.if-eq.false)
    ∙ first_row_not _ _ (sym ref ∙ c.if-ref_wrong.false)
    ∙ first_row_keeps (alt_rows l) (later_rows (bases_of c.args.reference.now) c.args.last l) (λ z. alt.1 (ap (λ (x : LineFault). x.number) alt.0 ∙ z))))
    alt.1

pub returns : goal.returns
returns c = let l = c.args.line.now in
    let e = c.record_on-record.ensures in
    let pos = c.pos-pos.ensures ∙ ap pos_on e in
    let ref = c.ref_wrong.ensures ∙ ap ref_wrong? e in
    let alt = told_ok _ _ (c.in_ok-alt_fault.ensures ∙ ap (λ (x : List ℕ). told (first_row (alt_rows x))) e) in
    c.later_fault.ensures
    ∙ ap (λ (x : List ℕ). told (first_row (later_rows (bases_of c.args.reference.now) c.args.last x))) e
    ∙ sym (ap told
    (first_row_not _ _ (sym c.chrom_wrong.ensures ∙ c.if-chrom_wrong.false)
    ∙ first_row_not _ _ (sym (c.eq.ensures ∙ ap (λ (p : Pos). eqb p.0 0) pos) ∙ c.if-eq.false)
    ∙ first_row_not _ _ (sym ref ∙ c.if-ref_wrong.false)
    ∙ first_row_past (alt_rows l) (later_rows (bases_of c.args.reference.now) c.args.last l)
    (none_holds (alt_rows l) (numbered (alt_rows l) tt) alt)))
