-- `vcf::entry::pos_at` meets its contract: the second field of the line is found in the text. Assumes nothing.
use mathlib.Core.Path.{ap, ◌∙◌}
use native.Mathlib.Omega.{arith}
use Rattle.fields.specs.Pos.{read_pos}
use Rattle.vcf.proofs.PosAtLaws.{pos_inside, pos_field}
use Rattle.vcf.proofs.entry.pos_at.Goals as goal

pub overflow_add-from : goal.overflow_add-from
overflow_add-from c = let a = c.args in
    let p = c.requires in
    omega (arith, c.find-from.ensures, pos_inside a.text.now a.at p.0 p.1)

pub field_from-requires : goal.field_from-requires
field_from-requires c = let a = c.args in
    let p = c.requires in
    omega (arith, c.find-from.ensures, pos_inside a.text.now a.at p.0 p.1)

pub returns : goal.returns
returns c = let a = c.args in
    let p = c.requires in
    c.read_pos.ensures ∙ ap read_pos (c.field_from.ensures ∙ rw c.find-from.ensures (pos_field a.text.now a.at p.0 p.1))
