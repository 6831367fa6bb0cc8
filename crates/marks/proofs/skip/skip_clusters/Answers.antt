-- `marks::skip::skip_clusters` meets its contract. Assumes nothing.
use mathlib.Core.Bool.{true, false}
use mathlib.Core.Path.{◌≡◌, refl, sym, ap, ◌∙◌}
use Prim.Native.Nat.{suc, ◌+◌, ◌-◌}
use native.Mathlib.Omega.{arith}
use Rattle.bases.specs.Letter.{bases_of}
use Rattle.clusters.specs.declared.cluster.Found.{Found}
use Rattle.clusters.specs.Heads.{start_heads, done?}
use Rattle.clusters.proofs.HeadsLaws.{items_few}
use Rattle.clusters.proofs.NextLaws.{count_le, found_left, ready_found}
use Rattle.marks.proofs.SkipLaws.{skip_none, skip_done, skip_more}
use Rattle.marks.proofs.skip.skip_clusters.Goals as goal

pub loop-init : goal.loop-init
loop-init c = let a = c.args in
    let t1 = a.lists.first.now in
    let t2 = a.lists.second.now in
    let z : a.k - 0 ≡ a.k = omega arith in
    rw (c.start_heads-heads.ensures, z) record { comes = refl; ready = a.lists.ready; few = omega (arith, items_few t1 t2 (start_heads t1 t2)) }

pub returns-then-is_done : goal.returns-then-is_done
returns-then-is_done c = let a = c.args in
    let r = bases_of a.lists.reference.now in
    let t1 = a.lists.first.now in
    let t2 = a.lists.second.now in
    let l = c.loop in
    let d : done? t1 t2 l.heads ≡ true = sym c.is_done.ensures ∙ c.if-is_done.true in
    sym (skip_done r t1 t2 (a.k - l.counter) l.heads l.entries d) ∙ l.invariant.comes

pub next_cluster-found-requires : goal.next_cluster-found-requires
next_cluster-found-requires c = let a = c.args in
    let r = bases_of a.lists.reference.now in
    let t1 = a.lists.first.now in
    let t2 = a.lists.second.now in
    let l = c.loop in
    let d : done? t1 t2 l.heads ≡ false = sym c.is_done.ensures ∙ c.if-is_done.false in
    (d, l.invariant.ready)

pub overflow_add-entries : goal.overflow_add-entries
overflow_add-entries c = let a = c.args in
    let r = bases_of a.lists.reference.now in
    let t1 = a.lists.first.now in
    let t2 = a.lists.second.now in
    let l = c.loop in
    let d : done? t1 t2 l.heads ≡ false = sym c.is_done.ensures ∙ c.if-is_done.false in
    let f = c.next_cluster-found in
    let n = ap (λ (z : Found). z.count) f.ensures in
    omega (arith, count_le r t1 t2 l.heads d, l.invariant.few, l.invariant.ready.ready1.short, l.invariant.ready.ready2.short)

pub loop-preserved : goal.loop-preserved
loop-preserved c = let a = c.args in
    let r = bases_of a.lists.reference.now in
    let t1 = a.lists.first.now in
    let t2 = a.lists.second.now in
    let l = c.loop in
    let d : done? t1 t2 l.heads ≡ false = sym c.is_done.ensures ∙ c.if-is_done.false in
    let f = c.next_cluster-found in
    let n = ap (λ (z : Found). z.count) f.ensures in
    let e : (a.k - l.counter) ≡ suc (a.k - (l.counter + 1)) = omega arith in
    rw f.ensures record {
      comes = sym (skip_more r t1 t2 (a.k - (l.counter + 1)) l.heads l.entries d) ∙ rw e at l.invariant.comes;
      ready = ready_found r t1 t2 l.heads d l.invariant.ready;
      few = omega (arith, found_left r t1 t2 l.heads d, count_le r t1 t2 l.heads d, l.invariant.few);
    }

pub returns : goal.returns
returns c = let a = c.args in
    let r = bases_of a.lists.reference.now in
    let t1 = a.lists.first.now in
    let t2 = a.lists.second.now in
    let l = c.loop in
    let e : (a.k - l.counter) ≡ 0 = omega arith in
    sym (skip_none r t1 t2 l.heads l.entries) ∙ rw e at l.invariant.comes
