-- `records::record::chrom_wrong` meets its contract: `!=` finds other lists than the name. Assumes nothing.
use mathlib.Core.Bool.{not}
use mathlib.Core.List.{List}
use mathlib.Core.Path.{ap, sym, ◌∙◌}
use Prim.Native.Nat.{ℕ}
use Rattle.bases.proofs.SameLaws.{eq_same}
use Rattle.bases.specs.Same.{same?}
use Rattle.fields.specs.Field.{field_from}
use Rattle.fields.proofs.FieldLaws.{skip_zero}
use Rattle.records.proofs.record.chrom_wrong.Goals as goal

pub returns : goal.returns
returns c = let l = c.args.line.now in
    let e = c.field_from.ensures ∙ ap (field_from l) (sym (skip_zero l 0)) in
    c.ne.ensures ∙ ap not (eq_same c.args.name.now c.field_from.result.now ∙ ap (λ (x : List ℕ). same? c.args.name.now x) e)
