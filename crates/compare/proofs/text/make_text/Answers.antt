-- `compare::text::make_text` meets its contract. The loop's invariant: behind k clusters, what is left to write are the lines of the
-- others and the total line (`Printing`, of TextLaws). Assumes nothing.
use mathlib.Core.Path.{◌≡◌, sym, ap, ◌∙◌}
use Prim.Native.Nat.{ℕ, ◌≤◌}
use native.Mathlib.Omega.{arith}
use lib.ListN.{length, take}
use Rattle.clusters.specs.declared.plan.Cluster.{Cluster}
use Rattle.marks.specs.Counts.{count_all, counts_of, totals}
use Rattle.clusters.specs.Merged.{merged_items}
use Rattle.marks.proofs.CountLaws.{totals_all, count_few}
use Rattle.compare.proofs.TextLaws.{printing_begin, printing_fits, printing_marked, printing_part, printing_more, printing_end, printing_all}
use Rattle.compare.proofs.text.make_text.Goals as goal

-- What stands for no record.
abbrev none : Cluster
none = record { first = 0; count = 0 }

pub loop-k-init : goal.loop-k-init
loop-k-init c = let a = c.args in
    let p = c.put_heading in
    rw c.start_heads-heads.ensures
    (printing_begin a.first.now a.second.now a.marks.now a.marked a.out.now c.requires.0 c.requires.1 p.new.out p.ensures)

pub slice_bounds-put_cluster-end : goal.slice_bounds-put_cluster-end
slice_bounds-put_cluster-end c = let a = c.args in
    let l = c.loop-k in
    let h = c.requires.0 in
    let all : a.marked.clusters ≤ length a.marked.plan = omega (arith, h.few_clusters) in
    printing_marked a.first.now a.second.now a.marks.now a.marked a.out.now all l.heads l.i l.k l.out l.invariant c.loop-k-test.true none h.marked

pub put_cluster-heads-requires : goal.put_cluster-heads-requires
put_cluster-heads-requires c = let a = c.args in
    let l = c.loop-k in
    let h = c.requires.0 in
    let all : a.marked.clusters ≤ length a.marked.plan = omega (arith, h.few_clusters) in
    let fits = printing_fits a.first.now a.second.now a.marks.now a.marked a.out.now all l.heads l.i l.k l.out l.invariant c.loop-k-test.true none in
    let part = printing_part a.first.now a.second.now a.marks.now a.marked a.out.now all l.heads l.i l.k l.out l.invariant c.loop-k-test.true none h.marked in
    (l.invariant.readable, omega (arith, fits, part), omega (arith, h.few_clusters, l.invariant.inside), omega (arith, fits, part, l.invariant.room))

pub loop-k-preserved : goal.loop-k-preserved
loop-k-preserved c = let a = c.args in
    let l = c.loop-k in
    let h = c.requires.0 in
    let q = c.put_cluster-heads in
    let all : a.marked.clusters ≤ length a.marked.plan = omega (arith, h.few_clusters) in
    rw q.ensures.0
    (printing_more a.first.now a.second.now a.marks.now a.marked a.out.now all l.heads l.i l.k l.out l.invariant c.loop-k-test.true none h.marked q.new.out q.ensures.1)

pub put_total-requires : goal.put_total-requires
put_total-requires c = let a = c.args in
    let l = c.loop-k in
    let h = c.requires.0 in
    let all : a.marked.clusters ≤ length a.marked.plan = omega (arith, h.few_clusters) in
    let n = printing_all a.first.now a.second.now a.marks.now a.marked a.out.now all l.heads l.i l.k l.out l.invariant c.loop-k-test.false in
    (rw c.count_all.ensures (count_few a.marks.now l.i (omega (arith, n, h.marked)) (omega (arith, n, h.few_entries))), h.printable, omega (arith, l.invariant.room))

pub returns : goal.returns
returns c = let a = c.args in
    let is = merged_items a.first.now a.second.now in
    let l = c.loop-k in
    let h = c.requires.0 in
    let q = c.put_total in
    let z = c.count_all in
    let all : a.marked.clusters ≤ length a.marked.plan = omega (arith, h.few_clusters) in
    let n = printing_all a.first.now a.second.now a.marks.now a.marked a.out.now all l.heads l.i l.k l.out l.invariant c.loop-k-test.false in
    let sums : z.result ≡ totals (counts_of is a.marks.now) = z.ensures ∙ ap (λ (k : ℕ). count_all (take k a.marks.now)) n ∙ sym (totals_all is a.marks.now h.marked) in
    printing_end a.first.now a.second.now a.marks.now a.marked a.out.now all l.heads l.i l.k l.out l.invariant c.loop-k-test.false q.new.out (rw sums at q.ensures)
