-- `normal::cut::cut_front` meets its contract. The loop's invariant: below t all have the same base.
-- Assumes nothing.
use mathlib.Core.Path.{sym, ap₂, ◌∙◌}
use native.Mathlib.Omega.{arith}
use borrow.Author.Count.{below_more}
use lib.Dec.{T, eqb}
use lib.ListN.{get_or}
use Rattle.bases.specs.Letter.{bases_of}
use Rattle.bases.specs.Stretch.{stretch}
use Rattle.bases.proofs.LetterLaws.{bases_length, bases_at}
use Rattle.bases.proofs.TestLaws.{of_true, of_false}
use Rattle.normal.specs.Cut.{front_alike?}
use Rattle.normal.specs.Spelled.{three}
use Rattle.normal.proofs.AlikeLaws.{alike, alike_first, alike_second}
use Rattle.normal.proofs.ExtendedLaws.{ref_at}
use Rattle.normal.proofs.RunLaws.{run_is}
use Rattle.normal.proofs.cut.cut_front.Goals as goal
use Rattle.normal.proofs.cut.cut_front.Goals.{then-not-base_is-via-then-not-base_is, then-not-base_is-via-else-not-base_is+then-not-base_is-2}

pub overflow_add-place : goal.overflow_add-place
overflow_add-place c = omega (arith, bases_length c.args.reference.now)

pub returns-then-not-base_is : goal.returns-then-not-base_is
returns-then-not-base_is c = let x = c.args in
    let r = bases_of x.reference.now in
    let a = stretch r x.start.0 x.span in
    let b = bases_of x.b.now in
    let d = bases_of x.c.now in
    let l = c.loop-t in
    let ref = ref_at r x.start.0 x.span (omega arith) l.t (omega arith) in
    let stop : T (front_alike? (three x.start a b d) l.t) → ⊥ = elim c.then-not-base_is.branch [
      | then-not-base_is-via-then-not-base_is w ↦ λ t.
          of_false w.if-not-base_is.true (of_true (alike_first (λ y. get_or y l.t 0) a b d (c.base_is.ensures ∙ sym (ap₂ eqb (bases_at x.b.now l.t) ref)) t))
      | then-not-base_is-via-else-not-base_is+then-not-base_is-2 w ↦ λ t.
          of_false w.if-not-base_is-2.true
          (of_true (alike_second (λ y. get_or y l.t 0) a b d (w.base_is-else-not-base_is.ensures ∙ sym (ap₂ eqb (bases_at x.c.now l.t) ref)) t))
    ] in
    sym (run_is (front_alike? (three x.start a b d)) x.most l.t (omega arith) l.invariant (λ m. stop))

pub loop-t-preserved : goal.loop-t-preserved
loop-t-preserved c = let x = c.args in
    let r = bases_of x.reference.now in
    let a = stretch r x.start.0 x.span in
    let b = bases_of x.b.now in
    let d = bases_of x.c.now in
    let l = c.loop-t in
    let ref = ref_at r x.start.0 x.span (omega arith) l.t (omega arith) in
    let first = c.base_is.ensures ∙ sym (ap₂ eqb (bases_at x.b.now l.t) ref) in
    let second = c.base_is-else-not-base_is.ensures ∙ sym (ap₂ eqb (bases_at x.c.now l.t) ref) in
    below_more (λ i. T (front_alike? (three x.start a b d) i)) l.t l.invariant
    (alike (λ y. get_or y l.t 0) a b d first second c.if-not-base_is.false c.if-not-base_is-2.false)

pub returns : goal.returns
returns c = let x = c.args in
    let f = three x.start (stretch (bases_of x.reference.now) x.start.0 x.span) (bases_of x.b.now) (bases_of x.c.now) in
    sym (run_is (front_alike? f) x.most x.most (omega arith) (λ i h. c.loop-t.invariant i (omega arith)) (λ m. absurd (omega arith)))
