-- `counts::counted::put_counts` meets its contract: the counts of list 1 are written, and those of list 2 behind them. Assumes nothing.
use native.Mathlib.Omega.{arith}
use Rattle.fields.specs.Bytes.{TAB}
use Rattle.bases.proofs.WroteLaws.{wrote_more}
use Rattle.lines.proofs.FieldLaws.{fields_few}
use Rattle.counts.proofs.counted.put_counts.Goals as goal

pub put_count-requires-2 : goal.put_count-requires-2
put_count-requires-2 c = let one = c.args.counts.first in
    (c.requires.1, omega (arith, fields_few one.matched one.unmatched one.undecided TAB))

pub returns : goal.returns
returns c = wrote_more (omega arith) c.put_count.ensures c.put_count-2.ensures
