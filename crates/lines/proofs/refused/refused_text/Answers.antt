-- `lines::refused::refused_text` meets its contract: the word is written, and the four numbers behind it. Assumes nothing.
use native.Mathlib.Omega.{arith}
use Rattle.fields.specs.Bytes.{TAB}
use Rattle.bases.proofs.WroteLaws.{wrote_more}
use Rattle.lines.proofs.FieldLaws.{fields_few}
use Rattle.lines.proofs.refused.refused_text.Goals as goal

pub put_field-requires : goal.put_field-requires
put_field-requires c = (c.requires.3, omega (arith, fields_few c.args.number c.args.list c.args.line TAB))

pub returns : goal.returns
returns c = wrote_more (omega arith) (wrote_more (omega arith) c.bytes.ensures c.put_fields.ensures) c.put_field.ensures
