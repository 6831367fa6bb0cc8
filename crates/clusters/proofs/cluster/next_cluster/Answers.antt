-- `clusters::cluster::next_cluster` meets its contract. The loop's invariant: behind `count` entries of the cluster, how many more it
-- has is how many it has behind its first (`Walked`, of ClusterLaws). The measure is the number of entries that are left. Assumes
-- nothing.
use mathlib.Core.Bool.{true, false}
use mathlib.Core.Path.{◌≡◌, sym, ap, ◌∙◌}
use native.Mathlib.Omega.{arith}
use Rattle.bases.specs.Letter.{bases_of}
use Rattle.bases.proofs.LetterLaws.{bases_length}
use Rattle.clusters.specs.Heads.{done?, next_item}
use Rattle.clusters.specs.Item.{item_size}
use Rattle.clusters.specs.declared.gap.Size.{Size}
use Rattle.clusters.proofs.ClusterLaws.{walked_begin, walked_more, walked_found}
use Rattle.clusters.proofs.HeadsLaws.{items_step, next_sound}
use Rattle.clusters.proofs.WalkLaws.{size_small, left_cut, left_done}
use Rattle.clusters.proofs.cluster.next_cluster.Goals as goal

pub next_item-item-requires : goal.next_item-item-requires
next_item-item-requires c = (c.requires.0, c.requires.1.ready1.readable, c.requires.1.ready2.readable)

pub size_of-requires : goal.size_of-requires
size_of-requires c =
    let r = bases_of c.args.reference.now in
    let t1 = c.args.first.now in
    let t2 = c.args.second.now in
    let h = c.args.heads in
    let s = next_sound r t1 t2 h c.requires.1 c.requires.0 in
    rw c.next_item-item.ensures (s.pos, omega (arith, s.within, bases_length c.args.reference.now))

pub after-at-requires : goal.after-at-requires
after-at-requires c =
    let t1 = c.args.first.now in
    let t2 = c.args.second.now in
    let h = c.args.heads in
    rw c.next_item-item.ensures (items_step t1 t2 h c.requires.0).inside

pub loop-current-init : goal.loop-current-init
loop-current-init c =
    let r = bases_of c.args.reference.now in
    let t1 = c.args.first.now in
    let t2 = c.args.second.now in
    let h = c.args.heads in
    walked_begin r t1 t2 h c.requires.0 c.requires.1
    c.next_item-item.result c.size_of.result c.begin-current.result c.after-at.result
    c.next_item-item.ensures c.size_of.ensures c.begin-current.ensures c.after-at.ensures

pub next_item-next-requires : goal.next_item-next-requires
next_item-next-requires c =
    let t1 = c.args.first.now in
    let t2 = c.args.second.now in
    let w = c.loop-current.invariant in
    let k = c.loop-current.at in
    let d : done? t1 t2 k ≡ false = sym c.is_done.ensures ∙ c.loop-current-test.true in
    (d, w.ready.ready1.readable, w.ready.ready2.readable)

pub size_of-size-requires : goal.size_of-size-requires
size_of-size-requires c =
    let r = bases_of c.args.reference.now in
    let t1 = c.args.first.now in
    let t2 = c.args.second.now in
    let w = c.loop-current.invariant in
    let k = c.loop-current.at in
    let d : done? t1 t2 k ≡ false = sym c.is_done.ensures ∙ c.loop-current-test.true in
    let s = next_sound r t1 t2 k w.ready d in
    rw c.next_item-next.ensures (s.pos, omega (arith, s.within, bases_length c.args.reference.now, c.well_formed))

pub is_cut-requires : goal.is_cut-requires
is_cut-requires c =
    let r = bases_of c.args.reference.now in
    let t1 = c.args.first.now in
    let t2 = c.args.second.now in
    let w = c.loop-current.invariant in
    let k = c.loop-current.at in
    let d : done? t1 t2 k ≡ false = sym c.is_done.ensures ∙ c.loop-current-test.true in
    let s = next_sound r t1 t2 k w.ready d in
    let e : c.size_of-size.result ≡ item_size (next_item t1 t2 k) = c.size_of-size.ensures ∙ ap item_size c.next_item-next.ensures in (
      omega (arith, s.within, ap (λ (z : Size). z.start.0) e),
      omega (arith, w.few, w.kept.small1, w.kept.small2, w.ready.ready1.short, w.ready.ready2.short),
      omega (arith, w.few, w.kept.small1, w.kept.small2, w.ready.ready1.short, w.ready.ready2.short),
    )

pub returns-then-is_cut : goal.returns-then-is_cut
returns-then-is_cut c =
    let r = bases_of c.args.reference.now in
    let t1 = c.args.first.now in
    let t2 = c.args.second.now in
    let h = c.args.heads in
    let w = c.loop-current.invariant in
    let k = c.loop-current.at in
    let d : done? t1 t2 k ≡ false = sym c.is_done.ensures ∙ c.loop-current-test.true in
    let e : c.size_of-size.result ≡ item_size (next_item t1 t2 k) = c.size_of-size.ensures ∙ ap item_size c.next_item-next.ensures in
    let cut = sym c.is_cut.ensures ∙ c.if-is_cut.true in
    walked_found r t1 t2 h c.requires.0 c.requires.1 c.next_item-item.result
    c.size_of.result c.begin-current.result c.after-at.result c.next_item-item.ensures
    c.size_of.ensures c.begin-current.ensures c.after-at.ensures
    c.loop-current.current k c.loop-current.count w
    (left_cut r t1 t2 k d c.loop-current.current (rw e at cut))

pub more-current-requires : goal.more-current-requires
more-current-requires c =
    let r = bases_of c.args.reference.now in
    let t1 = c.args.first.now in
    let t2 = c.args.second.now in
    let w = c.loop-current.invariant in
    let k = c.loop-current.at in
    let d : done? t1 t2 k ≡ false = sym c.is_done.ensures ∙ c.loop-current-test.true in
    let i = next_item t1 t2 k in
    let s = size_small r t1 t2 i (next_sound r t1 t2 k w.ready d) in
    let e : c.size_of-size.result ≡ item_size i = c.size_of-size.ensures ∙ ap item_size c.next_item-next.ensures in
    rw e (
      omega (arith, s, w.few, w.kept.small1, w.kept.small2, w.ready.ready1.short, w.ready.ready2.short),
      omega (arith, s, w.few, w.kept.small1, w.kept.small2, w.ready.ready1.short, w.ready.ready2.short),
      omega (arith, s, w.few, w.kept.small1, w.kept.small2, w.ready.ready1.short, w.ready.ready2.short),
      omega (arith, s, w.few, w.kept.small1, w.kept.small2, w.ready.ready1.short, w.ready.ready2.short),
    )

pub after-at-requires-in-loop-current : goal.after-at-requires-in-loop-current
after-at-requires-in-loop-current c =
    let t1 = c.args.first.now in
    let t2 = c.args.second.now in
    let k = c.loop-current.at in
    let d : done? t1 t2 k ≡ false = sym c.is_done.ensures ∙ c.loop-current-test.true in
    rw c.next_item-next.ensures (items_step t1 t2 k d).inside

pub overflow_add-count : goal.overflow_add-count
overflow_add-count c =
    let w = c.loop-current.invariant in
    omega (arith, w.few, w.ready.ready1.short, w.ready.ready2.short)

pub loop-current-smaller : goal.loop-current-smaller
loop-current-smaller c =
    let r = bases_of c.args.reference.now in
    let t1 = c.args.first.now in
    let t2 = c.args.second.now in
    let w = c.loop-current.invariant in
    let k = c.loop-current.at in
    let d : done? t1 t2 k ≡ false = sym c.is_done.ensures ∙ c.loop-current-test.true in
    let cut = sym c.is_cut.ensures ∙ c.if-is_cut.false in
    (walked_more r t1 t2 c.begin-current.result c.after-at.result c.loop-current.current k c.loop-current.count
    c.next_item-next.result c.size_of-size.result c.more-current.result c.after-at-in-loop-current.result
    w d c.next_item-next.ensures c.size_of-size.ensures cut c.more-current.ensures c.after-at-in-loop-current.ensures).1

pub loop-current-preserved : goal.loop-current-preserved
loop-current-preserved c =
    let r = bases_of c.args.reference.now in
    let t1 = c.args.first.now in
    let t2 = c.args.second.now in
    let w = c.loop-current.invariant in
    let k = c.loop-current.at in
    let d : done? t1 t2 k ≡ false = sym c.is_done.ensures ∙ c.loop-current-test.true in
    let cut = sym c.is_cut.ensures ∙ c.if-is_cut.false in
    (walked_more r t1 t2 c.begin-current.result c.after-at.result c.loop-current.current k c.loop-current.count
    c.next_item-next.result c.size_of-size.result c.more-current.result c.after-at-in-loop-current.result
    w d c.next_item-next.ensures c.size_of-size.ensures cut c.more-current.ensures c.after-at-in-loop-current.ensures).0

pub returns : goal.returns
returns c =
    let r = bases_of c.args.reference.now in
    let t1 = c.args.first.now in
    let t2 = c.args.second.now in
    let h = c.args.heads in
    let w = c.loop-current.invariant in
    let k = c.loop-current.at in
    let d : done? t1 t2 k ≡ true = sym c.is_done.ensures ∙ c.loop-current-test.false in
    walked_found r t1 t2 h c.requires.0 c.requires.1 c.next_item-item.result
    c.size_of.result c.begin-current.result c.after-at.result
    c.next_item-item.ensures c.size_of.ensures c.begin-current.ensures
    c.after-at.ensures
    c.loop-current.current k c.loop-current.count w (left_done r t1 t2 k c.loop-current.current d)
