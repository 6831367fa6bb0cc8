-- `normal::cut::cuts_of` meets its contract: the two loops run as far as the closed form lets them. Assumes nothing.
use mathlib.Core.Path.{◌≡◌}
use Prim.Native.Nat.{◌-◌}
use native.Mathlib.Omega.{arith}
use Rattle.bases.specs.Letter.{bases_of}
use Rattle.bases.specs.Stretch.{stretch}
use Rattle.bases.proofs.LetterLaws.{bases_length}
use Rattle.bases.proofs.StretchLaws.{stretch_length}
use Rattle.normal.specs.Cut.{run, front_alike?}
use Rattle.normal.specs.Spelled.{three}
use Rattle.normal.proofs.AlikeLaws.{cuts_are}
use Rattle.normal.proofs.RunLaws.{run_le}
use Rattle.normal.proofs.cut.cuts_of.Goals as goal

pub overflow_add-start : goal.overflow_add-start
overflow_add-start c = omega (arith, bases_length c.args.reference.now)

pub returns-then-back-shortest : goal.returns-then-back-shortest
returns-then-back-shortest c = let x = c.args in
    cuts_are (bases_of x.reference.now) x.start (stretch (bases_of x.reference.now) x.start.0 x.span) x.b.now x.c.now
    (stretch_length (bases_of x.reference.now) x.start.0 x.span (omega arith))
    c.min.ensures
    c.min-shortest.ensures
    c.cut_back-back.ensures
    c.cut_front-front.ensures

pub returns-else-back-shortest : goal.returns-else-back-shortest
returns-else-back-shortest c = let x = c.args in
    let f = three x.start (stretch (bases_of x.reference.now) x.start.0 x.span) (bases_of x.b.now) (bases_of x.c.now) in
    let n = c.min-shortest.result - c.cut_back-back.result - 1 in
    let none : 0 ≡ run (front_alike? f) n = omega (arith, run_le (front_alike? f) n) in
    cuts_are (bases_of x.reference.now) x.start (stretch (bases_of x.reference.now) x.start.0 x.span) x.b.now x.c.now
    (stretch_length (bases_of x.reference.now) x.start.0 x.span (omega arith))
    c.min.ensures
    c.min-shortest.ensures
    c.cut_back-back.ensures
    none
