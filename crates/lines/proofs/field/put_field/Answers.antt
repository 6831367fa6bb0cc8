-- `lines::field::put_field` meets its contract: the number is written, and the byte behind it. Assumes nothing.
use native.Mathlib.Omega.{arith}
use Rattle.lines.proofs.FieldLaws.{number_few}
use Rattle.lines.proofs.field.put_field.Goals as goal

pub byte-requires : goal.byte-requires
byte-requires c = omega (arith, number_few c.args.n)
