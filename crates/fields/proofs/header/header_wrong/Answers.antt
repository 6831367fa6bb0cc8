-- `fields::header::header_wrong` meets its contract: each test of the code is one of the definition. Assumes nothing.
use borrow.Author.Tests.{eq-eqb, ne_eqb}
use mathlib.Core.Bool.{true, false}
use mathlib.Core.Path.{◌≡◌, sym, ◌∙◌}
use Rattle.fields.specs.Header.{header_line?, header_wrong?}
use Rattle.fields.proofs.header.header_wrong.Goals as goal

pub returns-then-n-eq1 : goal.returns-then-n-eq1
unfolding header_wrong?
returns-then-n-eq1 c = simp (eq-eqb _ _ c.if-n-eq1.true, c.is_version_line.ensures)

pub returns-then-not-is_header_line : goal.returns-then-not-is_header_line
unfolding header_wrong?
returns-then-not-is_header_line c = let e : header_line? c.args.line.now ≡ false = sym c.is_header_line.ensures ∙ c.if-not-is_header_line.true in
    simp (ne_eqb _ _ c.if-n-eq1.false, e, c.is_column_line.ensures)

pub returns-else-not-is_header_line : goal.returns-else-not-is_header_line
unfolding header_wrong?
returns-else-not-is_header_line c = let e : header_line? c.args.line.now ≡ true = sym c.is_header_line.ensures ∙ c.if-not-is_header_line.false in
    simp (ne_eqb _ _ c.if-n-eq1.false, c.is_header_line.ensures, e)
