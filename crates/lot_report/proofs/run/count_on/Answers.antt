-- `lot_report::run::count_on` meets its contract: the field of a count is all digits. Assumes nothing.
use Rattle.lot_report.proofs.RunLaws.{run_field}
use Rattle.lot_report.proofs.run.count_on.Goals as goal

pub field_from-requires : goal.field_from-requires
field_from-requires c = rw c.skip_fields-at.ensures (run_field _ _ c.requires.0 c.requires.1 c.requires.2).0

pub read_count-requires : goal.read_count-requires
read_count-requires c = rw (c.field_from.ensures, c.skip_fields-at.ensures) (run_field _ _ c.requires.0 c.requires.1 c.requires.2).1
