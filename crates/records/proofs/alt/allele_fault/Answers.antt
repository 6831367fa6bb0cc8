-- `records::alt::allele_fault` meets its contract: its tests are the rows' tests, in their order. Assumes nothing.
use mathlib.Core.Bool.{not}
use mathlib.Core.List.{[]}
use mathlib.Core.Path.{sym, ap, ◌∙◌}
use Rattle.records.specs.Row.{told}
use Rattle.records.proofs.RowLaws.{first_row_holds, first_row_not, first_row_none}
use Rattle.records.proofs.alt.allele_fault.Goals as goal

pub returns-then-not-is_right_size : goal.returns-then-not-is_right_size
returns-then-not-is_right_size c = sym (ap told
    (first_row_holds _ _ (ap not (sym c.is_right_size.ensures ∙ c.if-not-is_right_size.true))))

pub returns-then-not-all_letters : goal.returns-then-not-all_letters
returns-then-not-all_letters c = sym (ap told
    (first_row_not _ _ (ap not (sym c.is_right_size.ensures ∙ c.if-not-is_right_size.false))
    ∙ first_row_holds _ _ (ap not (sym c.all_letters.ensures ∙ c.if-not-all_letters.true))))

pub returns-then-same_bases : goal.returns-then-same_bases
returns-then-same_bases c = sym (ap told
    (first_row_not _ _ (ap not (sym c.is_right_size.ensures ∙ c.if-not-is_right_size.false))
    ∙ first_row_not _ _ (ap not (sym c.all_letters.ensures ∙ c.if-not-all_letters.false))
    ∙ first_row_holds _ _ (sym c.same_bases.ensures ∙ c.if-same_bases.true)))

pub returns : goal.returns
returns c = sym (ap told
    (first_row_not _ _ (ap not (sym c.is_right_size.ensures ∙ c.if-not-is_right_size.false))
    ∙ first_row_not _ _ (ap not (sym c.all_letters.ensures ∙ c.if-not-all_letters.false))
    ∙ first_row_not _ _ (sym c.same_bases.ensures ∙ c.if-same_bases.false)
    ∙ first_row_none [] tt))
