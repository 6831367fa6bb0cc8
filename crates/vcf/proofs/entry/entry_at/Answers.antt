-- `vcf::entry::entry_at` meets its contract: the line from `at` up to its LF is read. Assumes nothing.
use mathlib.Core.Path.{◌≡◌, ◌∙◌}
use Prim.Native.Nat.{◌-◌}
use native.Mathlib.Omega.{arith}
use lib.ListN.{drop}
use Rattle.fields.specs.Bytes.{LF, until}
use Rattle.fields.proofs.FieldLaws.{until_within}
use Rattle.vcf.proofs.EntryLaws.{line_length, readable_here}
use Rattle.vcf.proofs.entry.entry_at.Goals as goal

pub slice_bounds-entry_on-end : goal.slice_bounds-entry_on-end
slice_bounds-entry_on-end c = omega (arith, until_within LF c.args.text.now c.args.at)

pub entry_on-requires : goal.entry_on-requires
entry_on-requires c = let t = c.args.text.now in
    let at = c.args.at in
    let e : c.find-end.result - at ≡ until LF (drop at t) = omega arith in
    let here = readable_here t at c.requires.0 c.requires.1 in
    (rw e here, rw e (omega (arith, line_length t at, until_within LF t at)))

pub returns : goal.returns
returns c = let t = c.args.text.now in
    let at = c.args.at in
    let e : c.find-end.result - at ≡ until LF (drop at t) = omega arith in
    c.entry_on.ensures ∙ rw e
