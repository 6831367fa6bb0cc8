-- `bases::reference::stretches_agree` meets its contract: a stretch of the reference agrees with itself, with no look. Assumes nothing.
use mathlib.Core.Path.{◌≡◌, refl, sym, ◌∙◌}
use borrow.Author.Tests.{eq-eqb}
use Rattle.bases.specs.Letter.{bases_of}
use Rattle.bases.specs.Stretch.{stretch}
use Rattle.bases.proofs.StretchLaws.{agree_self}
use Rattle.bases.proofs.reference.stretches_agree.Goals as goal

pub returns-then-a-b : goal.returns-then-a-b
returns-then-a-b c = let a = c.args in
    let e : a.a ≡ a.b = c.if-a-b.true in
    rw e (eq-eqb a.b a.b refl ∙ sym (agree_self (stretch (bases_of a.reference.now) a.b a.n)))
