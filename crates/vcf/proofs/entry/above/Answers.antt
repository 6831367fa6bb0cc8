-- `vcf::entry::above` meets its contract: the line that was taken is the first of those that were left. Assumes nothing.
use mathlib.Core.Bool.{true, false}
use mathlib.Core.Path.{◌≡◌, sym, ap, ◌∙◌}
use Prim.Native.Nat.{◌+◌}
use native.Mathlib.Omega.{arith}
use lib.ListN.{length}
use Rattle.fields.specs.Header.{header_line?}
use Rattle.vcf.specs.Entry.{header_bytes, header_lines}
use Rattle.vcf.specs.Lines.{lines_left}
use Rattle.vcf.proofs.AboveLaws.{above_few, above_bytes}
use Rattle.vcf.proofs.entry.above.Goals as goal

pub overflow_add-lines : goal.overflow_add-lines
unfolding header_lines
overflow_add-lines c = omega (arith, ap header_lines c.in-Some.ensures.steps, above_few c.args.text.now)

pub overflow_add-bytes-in-loop-line : goal.overflow_add-bytes-in-loop-line
unfolding header_bytes
overflow_add-bytes-in-loop-line c = omega (arith, ap header_bytes c.in-Some.ensures.steps, above_bytes c.args.text.now)

pub returns-then-not-is_header_line-clause-lines : goal.returns-then-not-is_header_line-clause-lines
unfolding header_lines
returns-then-not-is_header_line-clause-lines c = let no : header_line? c.in-Some.line.now ≡ false = sym c.is_header_line.ensures ∙ c.if-not-is_header_line.true in
    let here : header_lines (lines_left c.loop-line.line-iterator) ≡ 1 = ap header_lines c.in-Some.ensures.steps ∙ rw no in
    omega (arith, here)

pub returns-then-not-is_header_line-clause-bytes : goal.returns-then-not-is_header_line-clause-bytes
unfolding header_bytes
returns-then-not-is_header_line-clause-bytes c = let no : header_line? c.in-Some.line.now ≡ false = sym c.is_header_line.ensures ∙ c.if-not-is_header_line.true in
    let here : header_bytes (lines_left c.loop-line.line-iterator) ≡ length c.in-Some.line.now + 1 + 0 = ap header_bytes c.in-Some.ensures.steps ∙ rw no in
    omega (arith, here)

pub loop-line-preserved : goal.loop-line-preserved
unfolding header_lines header_bytes
loop-line-preserved c = let yes : header_line? c.in-Some.line.now ≡ true = sym c.is_header_line.ensures ∙ c.if-not-is_header_line.false in
    let lines : header_lines (lines_left c.loop-line.line-iterator) ≡ 1 + header_lines (lines_left c.next.new.self) = ap header_lines c.in-Some.ensures.steps ∙ rw yes in
    let bytes : header_bytes (lines_left c.loop-line.line-iterator) ≡ length c.in-Some.line.now + 1 + header_bytes (lines_left c.next.new.self) =
    ap header_bytes c.in-Some.ensures.steps ∙ rw yes in
    (omega (arith, lines), omega (arith, bytes))

pub returns-clause-lines : goal.returns-clause-lines
unfolding header_lines
returns-clause-lines c = omega (arith, ap header_lines c.in-None.ensures.steps.0)

pub returns-clause-bytes : goal.returns-clause-bytes
unfolding header_bytes
returns-clause-bytes c = omega (arith, ap header_bytes c.in-None.ensures.steps.0)
