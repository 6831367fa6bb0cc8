-- `vcf::entry::next_line` meets its contract. Assumes nothing.
use native.Mathlib.Omega.{arith}
use Rattle.fields.specs.Bytes.{LF}
use Rattle.fields.proofs.FieldLaws.{until_within}
use Rattle.vcf.proofs.entry.next_line.Goals as goal

pub overflow_add-result : goal.overflow_add-result
overflow_add-result c = omega (arith, until_within LF c.args.text.now c.args.at)
