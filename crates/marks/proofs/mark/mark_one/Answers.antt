-- `marks::mark::mark_one` meets its contract: the clusters before it are passed, and where there is one behind them it is marked. Assumes
-- nothing.
use mathlib.Core.Bool.{true, false}
use mathlib.Core.Path.{◌≡◌, sym, ap, ◌∙◌}
use native.Mathlib.Omega.{arith}
use lib.ListN.{length}
use Rattle.bases.specs.Letter.{bases_of}
use Rattle.clusters.specs.declared.cluster.Found.{Found}
use Rattle.clusters.specs.Heads.{start_heads, done?}
use Rattle.clusters.specs.Merged.{merged_items}
use Rattle.clusters.proofs.NextLaws.{count_some, count_le}
use Rattle.marks.proofs.SkipLaws.{skip_ready, skip_left, asked_none, asked_found}
use Rattle.marks.proofs.mark.mark_one.Goals as goal

pub returns-then-is_done : goal.returns-then-is_done
returns-then-is_done c = let a = c.args in
    let r = bases_of a.lists.reference.now in
    let t1 = a.lists.first.now in
    let t2 = a.lists.second.now in
    let g = c.skip_clusters-skipped in
    let d : done? t1 t2 g.result.heads ≡ true = sym c.is_done.ensures ∙ c.if-is_done.true in
    asked_none r t1 t2 a.cluster (start_heads t1 t2) a.marks.now g.result g.ensures d

pub next_cluster-found-requires : goal.next_cluster-found-requires
next_cluster-found-requires c = let a = c.args in
    let r = bases_of a.lists.reference.now in
    let t1 = a.lists.first.now in
    let t2 = a.lists.second.now in
    let g = c.skip_clusters-skipped in
    let d : done? t1 t2 g.result.heads ≡ false = sym c.is_done.ensures ∙ c.if-is_done.false in
    (d, rw g.ensures (skip_ready r t1 t2 a.cluster (start_heads t1 t2) 0 a.lists.ready))

pub mark_cluster-requires : goal.mark_cluster-requires
mark_cluster-requires c = let a = c.args in
    let r = bases_of a.lists.reference.now in
    let t1 = a.lists.first.now in
    let t2 = a.lists.second.now in
    let g = c.skip_clusters-skipped in
    let d : done? t1 t2 g.result.heads ≡ false = sym c.is_done.ensures ∙ c.if-is_done.false in
    let p = c.requires in
    let h = g.result.heads in
    let n = ap (λ (z : Found). z.count) c.next_cluster-found.ensures in (
      record { ready = rw g.ensures (skip_ready r t1 t2 a.cluster (start_heads t1 t2) 0 a.lists.ready); short = p.0 },
      omega (arith, count_some r t1 t2 h d),
      omega (arith, count_le r t1 t2 h d),
      omega (arith, count_le r t1 t2 h d, rw (← g.ensures) at (skip_left r t1 t2 (length (merged_items t1 t2)) a.cluster (start_heads t1 t2) 0 (omega arith)), p.1),
    )

pub returns : goal.returns
returns c = let a = c.args in
    let r = bases_of a.lists.reference.now in
    let t1 = a.lists.first.now in
    let t2 = a.lists.second.now in
    let g = c.skip_clusters-skipped in
    let d : done? t1 t2 g.result.heads ≡ false = sym c.is_done.ensures ∙ c.if-is_done.false in
    let f = c.next_cluster-found in
    let k = c.mark_cluster in
    asked_found r t1 t2 a.cluster (start_heads t1 t2) a.marks.now g.result g.ensures d f.result f.ensures
    k.new.marks k.result k.ensures.0 k.ensures.1
