-- `compare::line::put_entry` meets its contract: the three numbers are written, the mark behind them, and the LF. Assumes nothing.
use native.Mathlib.Omega.{arith}
use Rattle.fields.specs.Bytes.{TAB}
use Rattle.bases.proofs.WroteLaws.{wrote_more}
use Rattle.lines.proofs.FieldLaws.{fields_few}
use Rattle.compare.proofs.line.put_entry.Goals as goal

pub byte-requires : goal.byte-requires
byte-requires c = omega (arith, fields_few c.list_number-list.result c.args.pos.0 c.args.cluster TAB)

pub byte-requires-2 : goal.byte-requires-2
byte-requires-2 c = omega (arith, fields_few c.list_number-list.result c.args.pos.0 c.args.cluster TAB)

pub returns : goal.returns
returns c = rw (← c.list_number-list.ensures) (wrote_more (omega arith) (wrote_more (omega arith) c.put_fields.ensures c.byte.ensures) c.byte-2.ensures)
