-- `normal::cut::cut_back` meets its contract. The loop's invariant: below q all have the same base.
-- Assumes nothing.
use mathlib.Core.Path.{sym}
use native.Mathlib.Omega.{arith}
use borrow.Author.Count.{below_more}
use lib.Dec.{T}
use Rattle.bases.specs.Letter.{bases_of}
use Rattle.bases.specs.Stretch.{stretch}
use Rattle.bases.proofs.TestLaws.{of_true, of_false}
use Rattle.normal.specs.Cut.{back_at, back_alike?}
use Rattle.normal.specs.Spelled.{three}
use Rattle.normal.proofs.AlikeLaws.{alike, alike_first, alike_second}
use Rattle.normal.proofs.RunLaws.{run_is}
use Rattle.normal.proofs.cut.cut_back.Goals as goal
use Rattle.normal.proofs.cut.cut_back.Goals.{then-not-back_alike-via-then-not-back_alike, then-not-back_alike-via-else-not-back_alike+then-not-back_alike-2}

pub returns-then-not-back_alike : goal.returns-then-not-back_alike
returns-then-not-back_alike c = let x = c.args in
    let r = bases_of x.reference.now in
    let a = stretch r x.start.0 x.span in
    let b = bases_of x.b.now in
    let d = bases_of x.c.now in
    let l = c.loop-q in
    let stop : T (back_alike? r (three x.start a b d) l.q) → ⊥ = elim c.then-not-back_alike.branch [
      | then-not-back_alike-via-then-not-back_alike w ↦ λ t. of_false w.if-not-back_alike.true (of_true (alike_first (back_at r x.start.0 l.q) a b d c.back_alike.ensures t))
      | then-not-back_alike-via-else-not-back_alike+then-not-back_alike-2 w ↦ λ t.
          of_false w.if-not-back_alike-2.true (of_true (alike_second (back_at r x.start.0 l.q) a b d w.back_alike-else-not-back_alike.ensures t))
    ] in
    sym (run_is (back_alike? r (three x.start a b d)) x.most l.q (omega arith) l.invariant (λ m. stop))

pub loop-q-preserved : goal.loop-q-preserved
loop-q-preserved c = let x = c.args in
    let r = bases_of x.reference.now in
    let a = stretch r x.start.0 x.span in
    let b = bases_of x.b.now in
    let d = bases_of x.c.now in
    let l = c.loop-q in
    below_more (λ i. T (back_alike? r (three x.start a b d) i)) l.q l.invariant
    (alike (back_at r x.start.0 l.q) a b d c.back_alike.ensures c.back_alike-else-not-back_alike.ensures c.if-not-back_alike.false c.if-not-back_alike-2.false)

pub returns : goal.returns
returns c = let x = c.args in
    let r = bases_of x.reference.now in
    let f = three x.start (stretch r x.start.0 x.span) (bases_of x.b.now) (bases_of x.c.now) in
    sym (run_is (back_alike? r f) x.most x.most (omega arith) (λ i h. c.loop-q.invariant i (omega arith)) (λ m. absurd (omega arith)))
