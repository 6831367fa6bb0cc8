-- `normal::cut::back_alike` meets its contract: the base is the allele's own, or stands before it on the reference. Assumes nothing.
use mathlib.Core.Path.{sym, ap₂, ◌∙◌}
use native.Mathlib.Omega.{arith}
use lib.Dec.{eqb}
use Rattle.bases.specs.Letter.{bases_of}
use Rattle.bases.proofs.LetterLaws.{bases_length}
use Rattle.normal.proofs.ExtendedLaws.{own_read, front_read, ref_read}
use Rattle.normal.proofs.cut.back_alike.Goals as goal

pub overflow_add-place : goal.overflow_add-place
overflow_add-place c = omega (arith, bases_length c.args.reference.now)

pub returns-then-k-len : goal.returns-then-k-len
returns-then-k-len c = let x = c.args in
    let r = bases_of x.reference.now in
    c.base_is.ensures
    ∙ sym (ap₂ eqb (own_read r x.start.0 (omega arith) x.allele.now x.k (omega arith)) (ref_read r x.start.0 x.span (omega arith) x.k (omega arith)))

pub returns : goal.returns
returns c = let x = c.args in
    let r = bases_of x.reference.now in
    c.bases_alike.ensures
    ∙ sym (ap₂ eqb (front_read r x.start.0 (omega arith) x.allele.now x.k (omega arith) (omega arith)) (ref_read r x.start.0 x.span (omega arith) x.k (omega arith)))
