-- `lot::lot::lot_of_first` meets its contract: no more runs are added up than the array has room for. Assumes nothing.
use Rattle.std.proofs.Common.{arith}
use Rattle.lot.proofs.SumLaws.{runs_read_le}
use Rattle.lot.proofs.lot.lot_of_first.Goals as goal

pub lot_of_lent-requires : goal.lot_of_lent-requires
lot_of_lent-requires c = omega (arith, runs_read_le c.args.n)
