-- `lot_report::share::put_percent` meets its contract: the whole per cent are written with the point behind them, and the four digits that
-- are left. Assumes nothing.
use Prim.Native.Nat.{◌/◌}
use native.Mathlib.Omega.{arith}
use Rattle.bases.proofs.WroteLaws.{wrote_more}
use Rattle.lines.proofs.FieldLaws.{field_few}
use Rattle.lot_report.specs.Table.{POINT}
use Rattle.lot_report.proofs.share.put_percent.Goals as goal

pub put_four-requires : goal.put_four-requires
put_four-requires c = omega (arith, field_few (c.args.ppm / 10000) POINT)

pub returns : goal.returns
returns c = wrote_more (omega arith) c.put_field.ensures c.put_four.ensures
