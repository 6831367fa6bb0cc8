-- `lot_report::table::put_run` meets its contract: the run alone is a lot that is answered, and its line is written. Assumes nothing.
use mathlib.Core.List.{List, [], ◌∷◌}
use mathlib.Core.Path.{◌≡◌, ap, ◌∙◌}
use Prim.Native.Nat.{ℕ}
use native.Mathlib.Omega.{arith}
use lib.ListN.{length}
use Rattle.fields.proofs.FieldLaws.{until_within, field_length, skip_zero}
use Rattle.fields.specs.Bytes.{TAB}
use Rattle.lot_report.specs.Run.{name_of, run_on}
use Rattle.lot_report.proofs.LotLaws.{lot_alone, alone_answered, lot_printable}
use Rattle.lot_report.proofs.table.put_run.Goals as goal

pub put_line-requires : goal.put_line-requires
put_line-requires c = let l = c.args.line.now in
    let r = run_on l in (
      rw (lot_alone r _ _ c.run_on.ensures c.lot_of_first-lot.ensures) (lot_printable (r ∷ []) (alone_answered r c.requires.0.small)),
      omega (arith, c.requires.1, ap (λ (f : List ℕ). length f) c.field_from.ensures, field_length l 0, until_within TAB l 0),
    )

pub returns : goal.returns
returns c = let l = c.args.line.now in
    let name : c.field_from.result.now ≡ name_of l = c.field_from.ensures ∙ rw (skip_zero l 0) in
    rw (name, lot_alone (run_on l) _ _ c.run_on.ensures c.lot_of_first-lot.ensures) at c.put_line.ensures
