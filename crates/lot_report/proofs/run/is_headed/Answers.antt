-- `lot_report::run::is_headed` meets its contract: line 1 is compared with the heading. Assumes nothing.
use mathlib.Core.Path.{sym}
use native.Mathlib.Omega.{arith}
use lib.Seq.{length-take-le}
use Rattle.fields.proofs.FieldLaws.{until_within}
use Rattle.fields.specs.Bytes.{LF}
use Rattle.lot_report.proofs.run.is_headed.Goals as goal

pub slice_bounds-same_bytes-end-2 : goal.slice_bounds-same_bytes-end-2
slice_bounds-same_bytes-end-2 c = let t = c.args.text.now in
    sym (length-take-le c.find-end.result t (omega (arith, c.find-end.ensures, until_within LF t 0)))
