-- `records::record::record_fault` meets its contract: its tests are the rows' tests, in their order. Assumes nothing.
use mathlib.Core.Bool.{not}
use mathlib.Core.Path.{sym, ap, ◌∙◌}
use borrow.Author.Tests.{le-leb, lt-leb}
use Rattle.bases.proofs.TestLaws.{of_true}
use Rattle.records.specs.Row.{told}
use Rattle.records.proofs.RowLaws.{first_row_holds, first_row_not}
use Rattle.records.proofs.record.record_fault.Goals as goal

pub returns-then-is_too_long : goal.returns-then-is_too_long
returns-then-is_too_long c = sym (ap told
    (first_row_holds _ _ (sym c.is_too_long.ensures ∙ c.if-is_too_long.true)))

pub returns-then-begins : goal.returns-then-begins
returns-then-begins c = sym (ap told
    (first_row_not _ _ (sym c.is_too_long.ensures ∙ c.if-is_too_long.false)
    ∙ first_row_holds _ _ (sym c.begins.ensures ∙ c.if-begins.true)))

pub returns-then-records-ge-MOST_RECORDS : goal.returns-then-records-ge-MOST_RECORDS
returns-then-records-ge-MOST_RECORDS c = sym (ap told
    (first_row_not _ _ (sym c.is_too_long.ensures ∙ c.if-is_too_long.false)
    ∙ first_row_not _ _ (sym c.begins.ensures ∙ c.if-begins.false)
    ∙ first_row_holds _ _ (le-leb _ _ c.if-records-ge-MOST_RECORDS.true)))

pub returns-then-not-has_ten_fields : goal.returns-then-not-has_ten_fields
returns-then-not-has_ten_fields c = sym (ap told
    (first_row_not _ _ (sym c.is_too_long.ensures ∙ c.if-is_too_long.false)
    ∙ first_row_not _ _ (sym c.begins.ensures ∙ c.if-begins.false)
    ∙ first_row_not _ _ (lt-leb _ _ c.if-records-ge-MOST_RECORDS.false)
    ∙ first_row_holds _ _ (ap not (sym c.has_ten_fields.ensures ∙ c.if-not-has_ten_fields.true))))

pub field_fault-requires : goal.field_fault-requires
field_fault-requires c = of_true (sym c.has_ten_fields.ensures ∙ c.if-not-has_ten_fields.false)

pub returns : goal.returns
returns c = c.field_fault.ensures
    ∙ sym (ap told
    (first_row_not _ _ (sym c.is_too_long.ensures ∙ c.if-is_too_long.false)
    ∙ first_row_not _ _ (sym c.begins.ensures ∙ c.if-begins.false)
    ∙ first_row_not _ _ (lt-leb _ _ c.if-records-ge-MOST_RECORDS.false)
    ∙ first_row_not _ _ (ap not (sym c.has_ten_fields.ensures ∙ c.if-not-has_ten_fields.false))))
