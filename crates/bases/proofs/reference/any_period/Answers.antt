-- `bases::reference::any_period` meets its contract. The loop's invariant: there is a period in 1 .. g exactly if there is one
-- in 1 .. q, and the place has a base q behind it, or is 0. Assumes nothing.
use mathlib.Core.Path.{◌≡◌, sym, ap, ◌∙◌}
use Prim.Native.Nat.{ℕ, ◌+◌, ◌≤◌}
use native.Mathlib.Omega.{arith}
use lib.ListN.{length}
use Rattle.bases.specs.Letter.{bases_of}
use Rattle.bases.specs.Period.{any_period?}
use Rattle.bases.proofs.LetterLaws.{bases_length}
use Rattle.bases.proofs.NearestLaws.{nearest_none, nearest_some}
use Rattle.bases.proofs.PeriodLaws.{period_past, any_period_zero, any_period_stop, any_period_more}
use Rattle.bases.proofs.reference.any_period.Goals as goal

pub returns-then-stretch-q : goal.returns-then-stretch-q
returns-then-stretch-q c = let s = c.args.stretch.now in
    let l = c.loop-q in
    sym (any_period_stop l.q (bases_of s) (omega arith) (period_past s l.q c.if-stretch-q.true)) ∙ l.invariant.1

pub returns-in_default : goal.returns-in_default
returns-in_default c = let s = c.args.stretch.now in
    let l = c.loop-q in
    let there : l.at + l.q ≤ length (bases_of s) = omega (arith, bases_length s) in
    let none = nearest_none l.at l.q (bases_of s) there (sym c.nearest_difference.ensures ∙ c.in_default.is) in
    sym (any_period_stop l.q (bases_of s) (omega arith) none) ∙ l.invariant.1

pub loop-q-preserved : goal.loop-q-preserved
loop-q-preserved c = let s = c.args.stretch.now in
    let l = c.loop-q in
    let there : l.at + l.q ≤ length (bases_of s) = omega (arith, bases_length s) in
    let some = nearest_some l.at l.q (bases_of s) c.in-Some.place there (sym c.nearest_difference.ensures ∙ c.in-Some.is) in
    (omega (arith, some.0, bases_length s), sym (any_period_more l.q (bases_of s) (omega arith) some.1) ∙ l.invariant.1)

pub returns : goal.returns
returns c = let s = c.args.stretch.now in
    let l = c.loop-q in
    let e : l.q ≡ 0 = omega arith in
    sym (any_period_zero (bases_of s)) ∙ sym (ap (λ (k : ℕ). any_period? k (bases_of s)) e) ∙ l.invariant.1
