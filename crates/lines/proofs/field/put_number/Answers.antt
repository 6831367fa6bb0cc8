-- `lines::field::put_number` meets its contract: the units are those of seven digits, and there is room for so many. Assumes nothing.
use mathlib.Core.Path.{refl}
use native.Mathlib.Omega.{arith}
use Rattle.lines.proofs.FieldLaws.{number_few}
use Rattle.lines.proofs.field.put_number.Goals as goal

pub put_digits-requires : goal.put_digits-requires
put_digits-requires c = (omega arith, (refl, grind (arith, number_few)))
