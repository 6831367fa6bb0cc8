-- `compare::line::put_total` meets its contract: the word is written, the three totals behind it, and the score. Assumes nothing.
use native.Mathlib.Omega.{arith}
use Rattle.fields.specs.Bytes.{TAB}
use Rattle.bases.proofs.WroteLaws.{wrote_more}
use Rattle.lines.proofs.FieldLaws.{fields_few}
use Rattle.compare.proofs.line.put_total.Goals as goal

pub put_field-requires : goal.put_field-requires
put_field-requires c = let t = c.args.totals in
    (c.requires.1, omega (arith, fields_few t.matched t.unmatched t.undecided TAB))

pub returns : goal.returns
returns c = wrote_more (omega arith) (wrote_more (omega arith) c.bytes.ensures c.put_fields.ensures) c.put_field.ensures
