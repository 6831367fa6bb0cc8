-- `fields::genotype::copies_wrong` meets its contract: each return is a law of the genotype, by the first byte that is wrong. Assumes nothing.
use mathlib.Core.Bool.{true, false, not}
use mathlib.Core.Path.{◌≡◌, sym, ap, ◌∙◌}
use native.Mathlib.Omega.{arith}
use lib.ListN.{get_or}
use borrow.Author.Tests.{tests}
use Rattle.std.proofs.Common.{rules}
use Rattle.fields.proofs.GenotypeLaws.{neither?, copies_long, copies_first, copies_separator, copies_last}
use Rattle.fields.proofs.genotype.copies_wrong.Goals as goal

pub returns-then-not-is_digit_to : goal.returns-then-not-is_digit_to
returns-then-not-is_digit_to c = ap not c.if-not-is_digit_to.true ∙ sym (copies_first c.args.alts c.args.genotype.now (omega arith) (sym c.is_digit_to.ensures ∙ c.if-not-is_digit_to.true))

pub returns-else-not-is_digit_to : goal.returns-else-not-is_digit_to
returns-else-not-is_digit_to c = let g = c.args.genotype.now in
    let between : neither? (get_or g 1 0) ≡ false = search (rules, tests) in
    ap not c.is_digit_to-else-not-is_digit_to.ensures
    ∙ sym (copies_last c.args.alts g (omega arith) (sym c.is_digit_to.ensures ∙ c.if-not-is_digit_to.false) between)

pub returns-in_default : goal.returns-in_default
returns-in_default c = sym (copies_long c.args.alts c.args.genotype.now (λ e. omega arith))

pub returns-in_default-2 : goal.returns-in_default-2
returns-in_default-2 c = let g = c.args.genotype.now in
    let between : neither? (get_or g 1 0) ≡ true = search (rules, tests) in
    sym (copies_separator c.args.alts g (omega arith) between)

pub returns-in_default-3 : goal.returns-in_default-3
returns-in_default-3 c = sym (copies_long c.args.alts c.args.genotype.now (λ e. omega arith))
