-- `records::line::Record::later_fault` meets its contract: its tests are the rows' tests, in their order. Assumes nothing.
use mathlib.Core.List.{[]}
use mathlib.Core.Path.{sym, ap, ◌∙◌}
use lib.Dec.{ltb}
use Rattle.bases.proofs.PlaceLaws.{below_is}
use Rattle.bases.specs.Letter.{bases_of}
use Rattle.bases.specs.declared.place.Pos.{Pos}
use Rattle.fields.specs.Field.{field}
use Rattle.records.specs.Record.{off_reference?}
use Rattle.records.specs.Row.{told}
use Rattle.records.proofs.RowLaws.{first_row_holds, first_row_not, first_row_none}
use Rattle.records.proofs.line.Record.later_fault.Goals as goal

pub returns-then-genotype_wrong : goal.returns-then-genotype_wrong
returns-then-genotype_wrong c = sym (ap told
    (first_row_holds _ _ (sym c.genotype_wrong.ensures ∙ c.if-genotype_wrong.true)))

pub has_no_alt-requires : goal.has_no_alt-requires
has_no_alt-requires c = sym c.genotype_wrong.ensures ∙ c.if-genotype_wrong.false

pub returns-then-has_no_alt : goal.returns-then-has_no_alt
returns-then-has_no_alt c = sym (ap told
    (first_row_not _ _ (sym c.genotype_wrong.ensures ∙ c.if-genotype_wrong.false)
    ∙ first_row_holds _ _ (sym c.has_no_alt.ensures ∙ c.if-has_no_alt.true)))

pub returns-then-is_off_reference : goal.returns-then-is_off_reference
returns-then-is_off_reference c = let a = c in
    sym (ap told
    (first_row_not _ _ (sym c.genotype_wrong.ensures ∙ c.if-genotype_wrong.false)
    ∙ first_row_not _ _ (sym c.has_no_alt.ensures ∙ c.if-has_no_alt.false)
    ∙ first_row_holds _ _ (sym (c.is_off_reference.ensures ∙ ap (λ (p : Pos). off_reference? (bases_of a.args.reference.now) p (field 3 a.args.self.now.line.now)) a.requires.0)
    ∙ c.if-is_off_reference.true)))

pub returns-then-lt : goal.returns-then-lt
returns-then-lt c = let a = c in
    sym (ap told
    (first_row_not _ _ (sym c.genotype_wrong.ensures ∙ c.if-genotype_wrong.false)
    ∙ first_row_not _ _ (sym c.has_no_alt.ensures ∙ c.if-has_no_alt.false)
    ∙ first_row_not _ _ (sym (c.is_off_reference.ensures ∙ ap (λ (p : Pos). off_reference? (bases_of a.args.reference.now) p (field 3 a.args.self.now.line.now))
    a.requires.0) ∙ c.if-is_off_reference.false)
    ∙ first_row_holds _ _ (ap (λ (p : Pos). ltb p.0 a.args.last.0) (sym a.requires.0) ∙ sym (below_is _ _) ∙ sym c.lt.ensures ∙ c.if-lt.true)))

pub returns : goal.returns
returns c = let a = c in
    sym (ap told
    (first_row_not _ _ (sym c.genotype_wrong.ensures ∙ c.if-genotype_wrong.false)
    ∙ first_row_not _ _ (sym c.has_no_alt.ensures ∙ c.if-has_no_alt.false)
    ∙ first_row_not _ _ (sym (c.is_off_reference.ensures ∙ ap (λ (p : Pos). off_reference? (bases_of a.args.reference.now) p (field 3 a.args.self.now.line.now))
    a.requires.0) ∙ c.if-is_off_reference.false)
    ∙ first_row_not _ _ (ap (λ (p : Pos). ltb p.0 a.args.last.0) (sym a.requires.0) ∙ sym (below_is _ _) ∙ sym c.lt.ensures ∙ c.if-lt.false)
    ∙ first_row_none [] tt))
