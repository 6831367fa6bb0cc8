-- `fields::field::field_from` meets its contract: what stands from `at` up to the byte that `find` finds. Assumes nothing.
use mathlib.Core.Path.{◌≡◌}
use Prim.Native.Nat.{◌-◌}
use native.Mathlib.Omega.{arith}
use lib.ListN.{drop}
use Rattle.fields.specs.Bytes.{TAB, until}
use Rattle.fields.proofs.FieldLaws.{until_within}
use Rattle.fields.proofs.field.field_from.Goals as goal

pub returns : goal.returns
returns c = let l = c.args.line.now in
    let at = c.args.at in
    let e : c.find-end.result - at ≡ until TAB (drop at l) = omega arith in
    rw e

pub slice_bounds-result-end : goal.slice_bounds-result-end
slice_bounds-result-end c = omega (arith, until_within TAB c.args.line.now c.args.at)
