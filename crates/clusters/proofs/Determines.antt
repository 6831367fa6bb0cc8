-- Each contract determines its result: any two results that it allows for the same arguments are equal.
-- None of these functions is lent anything that it can write; those over lent records are in LentDetermines.
-- Assumes nothing.
use mathlib.Core.List.{List}
use mathlib.Core.Path.{◌≡◌, refl, sym, ap, ◌∙◌}
use native.Mathlib.Omega.{arith}
use lib.ListN.{length, get_or, drop}
use Rattle.std.proofs.Common.{Option, None, Some}
use Rattle.std.specs.Iterator.{YieldsFirst}
use Rattle.clusters.specs.declared.item.Item.{Item}
use Rattle.clusters.specs.declared.plan.Cluster.{Cluster}
use Rattle.clusters.specs.Items.{items_left}
use Rattle.clusters.specs.Walk.{clusters_left}
use Rattle.bases.proofs.Determines.{OneResult, OneSeen, OneLeft}
use Rattle.clusters.proofs.cluster.next_cluster.Kinds as next-cluster-kinds
use Rattle.clusters.proofs.cluster.next_cluster.Reads as next_cluster
use Rattle.clusters.proofs.gap.begin.Kinds as begin-kinds
use Rattle.clusters.proofs.gap.begin.Reads as begin
use Rattle.clusters.proofs.gap.is_cut.Kinds as is-cut-kinds
use Rattle.clusters.proofs.gap.is_cut.Reads as is_cut
use Rattle.clusters.proofs.gap.more.Kinds as more-kinds
use Rattle.clusters.proofs.gap.more.Reads as more
use Rattle.clusters.proofs.gap.nothing.Kinds as nothing-kinds
use Rattle.clusters.proofs.gap.nothing.Reads as nothing
use Rattle.clusters.proofs.heads.after.Kinds as after-kinds
use Rattle.clusters.proofs.heads.after.Reads as after
use Rattle.clusters.proofs.heads.is_done.Kinds as is-done-kinds
use Rattle.clusters.proofs.heads.is_done.Reads as is-done
use Rattle.clusters.proofs.heads.next_item.Kinds as next-item-kinds
use Rattle.clusters.proofs.heads.next_item.Reads as next-item
use Rattle.clusters.proofs.heads.start_heads.Kinds as start-heads-kinds
use Rattle.clusters.proofs.heads.start_heads.Reads as start-heads
use Rattle.clusters.proofs.item.size_of.Kinds as size-of-kinds
use Rattle.clusters.proofs.item.size_of.Reads as type_size
use Rattle.clusters.proofs.merged.merged_from.Kinds as merged-from-kinds
use Rattle.clusters.proofs.merged.merged_from.Reads as merged_from
use Rattle.clusters.proofs.merged.MergedIterator.next.Kinds as next-merged-kinds
use Rattle.clusters.proofs.merged.MergedIterator.next.Reads as next-merged
use Rattle.clusters.proofs.plan.all_clusters.Kinds as all-clusters-kinds
use Rattle.clusters.proofs.plan.all_clusters.Reads as all-clusters
use Rattle.clusters.proofs.plan.ClustersIterator.next.Kinds as next-kinds
use Rattle.clusters.proofs.plan.ClustersIterator.next.Reads as next
use Rattle.clusters.proofs.plan.first_walk.Kinds as first-walk-kinds
use Rattle.clusters.proofs.plan.first_walk.Reads as first_walk
use Rattle.clusters.proofs.plan.next_walk.Kinds as next-walk-kinds
use Rattle.clusters.proofs.plan.next_walk.Reads as next-walk

pub next_cluster_determines : OneResult 3 next-cluster-kinds.ps next-cluster-kinds.r next_cluster.Post
next_cluster_determines κs a z z' e e' p q = p ∙ sym q

pub begin_determines : OneResult 0 begin-kinds.ps begin-kinds.r begin.Post
begin_determines κs a z z' e e' p q = p ∙ sym q

pub is_cut_determines : OneResult 1 is-cut-kinds.ps is-cut-kinds.r is_cut.Post
is_cut_determines κs a z z' e e' p q = p ∙ sym q

pub more_determines : OneResult 0 more-kinds.ps more-kinds.r more.Post
more_determines κs a z z' e e' p q = p ∙ sym q

pub nothing_determines : OneResult 0 nothing-kinds.ps nothing-kinds.r nothing.Post
nothing_determines κs a z z' e e' p q = p ∙ sym q

pub after_determines : OneResult 2 after-kinds.ps after-kinds.r after.Post
after_determines κs a z z' e e' p q = p ∙ sym q

pub is_done_determines : OneResult 2 is-done-kinds.ps is-done-kinds.r is-done.Post
is_done_determines κs a z z' e e' p q = p ∙ sym q

pub next_item_determines : OneResult 2 next-item-kinds.ps next-item-kinds.r next-item.Post
next_item_determines κs a z z' e e' p q = p ∙ sym q

pub start_heads_determines : OneResult 2 start-heads-kinds.ps start-heads-kinds.r start-heads.Post
start_heads_determines κs a z z' e e' p q = p ∙ sym q

pub size_of_determines : OneResult 0 size-of-kinds.ps size-of-kinds.r type_size.Post
size_of_determines κs a z z' e e' p q = p ∙ sym q

pub first_walk_determines : OneResult 3 first-walk-kinds.ps first-walk-kinds.r first_walk.Post
first_walk_determines κs a z z' e e' p q = p ∙ sym q

pub next_walk_determines : OneResult 3 next-walk-kinds.ps next-walk-kinds.r next-walk.Post
next_walk_determines κs a z z' e e' p q = p ∙ sym q

-- Two answers of an iterator at one list of what is left are equal, and leave the same.
pub first_determines : {S A : Type 0} (rest : S → List A) (s : S) (o o' : Option A) (t t' : S) → YieldsFirst rest s o t → YieldsFirst rest s o' t' → (o ≡ o') × (rest t ≡ rest t')
first_determines rest s None None t t' e f = (refl, e.1 ∙ sym f.1)
first_determines rest s None (Some y) t t' e f = absurd (omega (arith, ap length (sym e.0 ∙ f)))
first_determines rest s (Some x) None t t' e f = absurd (omega (arith, ap length (sym f.0 ∙ e)))
first_determines {S} {A} rest s (Some x) (Some y) t t' e f = let m = sym e ∙ f in (ap (λ (l : List A). Some (get_or l 0 x)) m, ap (drop 1) m)

-- Any two walks that the contract of `all_clusters` allows have the same clusters left,
pub all_clusters_determines : OneSeen 1 all-clusters-kinds.ps all-clusters-kinds.r all-clusters.Post (List Cluster)
    (λ κs z. clusters_left z)
all_clusters_determines κs a z z' e e' p q = p.1 ∙ sym q.1

-- and any two answers that the contract of `next` allows for a walk are equal, and leave the same clusters.
pub next_determines : OneResult 2 next-kinds.ps next-kinds.r next.Post
    × OneLeft 2 next-kinds.ps next-kinds.r next.Post (List Cluster) (λ κs e. clusters_left e.0.now)
next_determines = (
  λ κs a z z' e e' p q. (first_determines clusters_left a.0.now z z' e.0.now e'.0.now p.0 q.0).0,
  λ κs a z z' e e' p q. (first_determines clusters_left a.0.now z z' e.0.now e'.0.now p.0 q.0).1,
)

-- The same of walks over entries in merged order.
pub merged_from_determines : OneSeen 1 merged-from-kinds.ps merged-from-kinds.r merged_from.Post (List Item) (λ κs z. items_left z)
merged_from_determines κs a z z' e e' p q = p.1 ∙ sym q.1

pub next_merged_determines : OneResult 2 next-merged-kinds.ps next-merged-kinds.r next-merged.Post
    × OneLeft 2 next-merged-kinds.ps next-merged-kinds.r next-merged.Post (List Item) (λ κs e. items_left e.0.now)
next_merged_determines = (
  λ κs a z z' e e' p q. (first_determines items_left a.0.now z z' e.0.now e'.0.now p.0 q.0).0,
  λ κs a z z' e e' p q. (first_determines items_left a.0.now z z' e.0.now e'.0.now p.0 q.0).1,
)
