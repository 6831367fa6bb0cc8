-- `listed::listed::first_next` meets its contract: there are no more lines than bytes. Assumes nothing.
use Rattle.std.proofs.Common.{arith}
use Rattle.vcf.proofs.AboveLaws.{above_few}
use Rattle.listed.proofs.listed.first_next.Goals as goal

pub overflow_add-result : goal.overflow_add-result
overflow_add-result c = record { fits = omega (arith, above_few c.args.text.now) }

pub overflow_cast-result : goal.overflow_cast-result
overflow_cast-result c = record { fits = omega (arith, above_few c.args.text.now) }
