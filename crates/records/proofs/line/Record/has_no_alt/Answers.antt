-- `records::line::Record::has_no_alt` meets its contract: row 11 does not hold, so the genotype has its three bytes. Assumes nothing.
use mathlib.Core.Bool.{Bool, ◌&&◌}
use mathlib.Core.Path.{sym, ap, ◌∙◌}
use borrow.Author.Tests.{eq-eqb, ne_eqb}
use lib.Dec.{eqb, lit<}
use lib.ListN.{get_or}
use Rattle.records.proofs.RecordLaws.{copies_read, no_alt_read}
use Rattle.records.proofs.line.Record.has_no_alt.Goals as goal

pub bounds-genotype-0 : goal.bounds-genotype-0
bounds-genotype-0 c = let w = copies_read c.args.self.now.line.now c.requires c.genotype-genotype.ensures in rw w.long (lit< tt)

pub bounds-genotype-2 : goal.bounds-genotype-2
bounds-genotype-2 c = let w = copies_read c.args.self.now.line.now c.requires c.genotype-genotype.ensures in rw w.long (lit< tt)

pub returns-then-genotype-eq48 : goal.returns-then-genotype-eq48
returns-then-genotype-eq48 c = let l = c.args.self.now.line.now in
    let g = c.genotype-genotype.result.now in
    let first = eq-eqb _ _ c.if-genotype-eq48.true in
    ap (λ (t : Bool). t && eqb (get_or g 2 0) 48) (sym first) ∙ no_alt_read l c.genotype-genotype.ensures (copies_read l c.requires c.genotype-genotype.ensures)

pub returns-else-genotype-eq48 : goal.returns-else-genotype-eq48
returns-else-genotype-eq48 c = let l = c.args.self.now.line.now in
    let g = c.genotype-genotype.result.now in
    let first = ne_eqb _ _ c.if-genotype-eq48.false in
    first ∙ ap (λ (t : Bool). t && eqb (get_or g 2 0) 48) (sym first) ∙ no_alt_read l c.genotype-genotype.ensures (copies_read l c.requires c.genotype-genotype.ensures)
