-- `vcf::list::line_fault` meets its contract: above the records its tests are the rows' tests, in their order. Assumes nothing.
use mathlib.Core.List.{[]}
use mathlib.Core.Path.{sym, ap, ◌∙◌}
use Rattle.records.specs.Row.{told}
use Rattle.records.proofs.RowLaws.{first_row_holds, first_row_not, first_row_none}
use Rattle.vcf.proofs.list.line_fault.Goals as goal

pub returns-in-Above : goal.returns-in-Above
returns-in-Above c = rw c.in-Above.is (sym (ap told (first_row_holds _ _ (sym c.is_too_long.ensures ∙ c.if-is_too_long.true))))

pub returns-in-Above-2 : goal.returns-in-Above-2
returns-in-Above-2 c = rw c.in-Above.is (sym (ap told
    (first_row_not _ _ (sym c.is_too_long.ensures ∙ c.if-is_too_long.false)
    ∙ first_row_holds _ _ (sym c.header_wrong.ensures ∙ c.if-header_wrong.true))))

pub returns-in-Above-3 : goal.returns-in-Above-3
returns-in-Above-3 c = rw c.in-Above.is (sym (ap told
    (first_row_not _ _ (sym c.is_too_long.ensures ∙ c.if-is_too_long.false)
    ∙ first_row_not _ _ (sym c.header_wrong.ensures ∙ c.if-header_wrong.false)
    ∙ first_row_none [] tt)))
