-- `fields::genotype::genotype_of` meets its contract: the sample's text up to where the first colon is found. Assumes nothing.
use mathlib.Core.Path.{◌≡◌, sym}
use Prim.Native.Nat.{◌≤◌}
use native.Mathlib.Omega.{arith}
use lib.ListN.{length}
use lib.Seq.{length-take-le}
use Rattle.fields.specs.Bytes.{COLON, until}
use Rattle.fields.proofs.BytesLaws.{until_le}
use Rattle.fields.proofs.genotype.genotype_of.Goals as goal

pub slice_bounds-result-end : goal.slice_bounds-result-end
slice_bounds-result-end c = let s = c.args.sample.now in
    let e : c.find-end.result ≤ length s = omega (arith, until_le COLON s) in
    sym (length-take-le c.find-end.result s e)

pub returns : goal.returns
returns c = let s = c.args.sample.now in
    let e : c.find-end.result ≡ until COLON s = omega arith in
    rw e
