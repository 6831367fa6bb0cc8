-- `lot::lot::lot` meets its contract: all its runs are lent, and the lot of them is that of so many. Assumes nothing.
use Rattle.std.proofs.Common.{◌∙◌, length}
use Rattle.lot.proofs.SumLaws.{runs_read_few, lot_of_all}
use Rattle.lot.proofs.lot.lot.Goals as goal

pub lot_of_lent-requires : goal.lot_of_lent-requires
lot_of_lent-requires c = runs_read_few (length c.args.runs.now)

pub returns : goal.returns
returns c = c.lot_of_lent.ensures ∙ lot_of_all c.args.runs.now
