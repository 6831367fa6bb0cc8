-- `lines::field::put_fields` meets its contract: the fields are written one behind another. Assumes nothing.
use native.Mathlib.Omega.{arith}
use Rattle.fields.specs.Bytes.{TAB}
use Rattle.bases.proofs.WroteLaws.{wrote_more}
use Rattle.lines.proofs.FieldLaws.{field_few}
use Rattle.lines.proofs.field.put_fields.Goals as goal

pub put_field-requires-2 : goal.put_field-requires-2
put_field-requires-2 c = (c.requires.1, omega (arith, field_few c.args.a TAB))

pub put_field-requires-3 : goal.put_field-requires-3
put_field-requires-3 c = (c.requires.2, omega (arith, field_few c.args.a TAB, field_few c.args.b TAB))

pub returns : goal.returns
returns c = wrote_more (omega arith) (wrote_more (omega arith) c.put_field.ensures c.put_field-2.ensures) c.put_field-3.ensures
