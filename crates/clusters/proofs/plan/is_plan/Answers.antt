-- `clusters::plan::is_plan` meets its contract. Assumes nothing.
use mathlib.Core.Logic.{⊎_elim}
use Rattle.std.proofs.Common.{◌≡◌, sym, ap, ◌∙◌, true, false, [], length, arith, rules}
use Rattle.std.proofs.lemmas.List.{nil_from_length}
use Rattle.std.specs.Iterator.Adapters.{zip_first, zip_second}
use Rattle.std.specs.Slice.Iter.{iter_rest}
use Rattle.clusters.specs.Walk.{clusters_left}
use Rattle.clusters.specs.Lent.{same_cluster?}
use Rattle.clusters.proofs.LentLaws.{judged_all, judged_same, judged_other}
use Rattle.clusters.proofs.plan.is_plan.Goals as goal

pub returns-then-ne : goal.returns-then-ne
returns-then-ne c =
    let s = c.in-Some.ensures.steps in
    let other : same_cluster? c.in-Some.cluster c.in-Some.given.now ≡ false = search rules in
    sym (judged_other s.0 s.1 other) ∙ c.loop-cluster.invariant.3

pub loop-cluster-preserved : goal.loop-cluster-preserved
loop-cluster-preserved c =
    let s = c.in-Some.ensures.steps in
    let same : same_cluster? c.in-Some.cluster c.in-Some.given.now ≡ true = search rules in
    (search rules, tt, omega (arith, c.loop-cluster.invariant.2, ap length s.0, ap length s.1), sym (judged_same s.0 s.1 same) ∙ c.loop-cluster.invariant.3)

pub returns : goal.returns
returns c =
    let l = c.loop-cluster in
    let left = clusters_left (zip_first l.cluster-iterator) in
    let given = iter_rest (zip_second l.cluster-iterator) in
    let none : left ≡ [] = ⊎_elim (λ h. h.1.0) (λ h. nil_from_length left (omega (arith, l.invariant.2, h.1.0))) c.in-None.ensures.steps in
    sym (judged_all given none) ∙ l.invariant.3
