-- `listed::listed::listing_from` meets its contract: where an entry is left, it is read, held against the current cluster, and listed.
-- Assumes nothing.
use mathlib.Core.Bool.{false}
use mathlib.Core.Path.{◌≡◌, sym, ap, ◌∙◌}
use Prim.Native.Nat.{ℕ, ◌+◌}
use native.Mathlib.Omega.{arith}
use Rattle.bases.specs.Letter.{bases_of}
use Rattle.bases.proofs.LetterLaws.{bases_length}
use Rattle.clusters.specs.declared.gap.Size.{Size}
use Rattle.marks.specs.Counts.{one}
use Rattle.clusters.specs.Gap.{cut?}
use Rattle.clusters.specs.Heads.{done?, next_item}
use Rattle.clusters.specs.Item.{item_size}
use Rattle.clusters.proofs.HeadsLaws.{items_step, next_sound}
use Rattle.listed.proofs.ListingLaws.{adds_next, nexts_fit, begun_fits, begun_made, listing_none, listing_made}
use Rattle.listed.proofs.listed.listing_from.Goals as goal

pub returns-then-is_done : goal.returns-then-is_done
returns-then-is_done c =
    let r = bases_of c.args.reference.now in
    let t1 = c.args.first.now in
    let t2 = c.args.second.now in
    let s = c.args.stand in
    listing_none r t1 t2 s (sym c.is_done.ensures ∙ c.if-is_done.true)

pub next_item-item-requires : goal.next_item-item-requires
next_item-item-requires c =
    let g = c.requires in
    (sym c.is_done.ensures ∙ c.if-is_done.false, g.ready.ready1.readable, g.ready.ready2.readable)

pub size_of-size-requires : goal.size_of-size-requires
size_of-size-requires c =
    let r = bases_of c.args.reference.now in
    let t1 = c.args.first.now in
    let t2 = c.args.second.now in
    let s = c.args.stand in
    let d : done? t1 t2 s.heads ≡ false = sym c.is_done.ensures ∙ c.if-is_done.false in
    let n = next_sound r t1 t2 s.heads c.requires.ready d in
    rw c.next_item-item.ensures (n.pos, omega (arith, n.within, bases_length c.args.reference.now, c.well_formed))

pub is_cut-cut-requires : goal.is_cut-cut-requires
is_cut-cut-requires c =
    let r = bases_of c.args.reference.now in
    let t1 = c.args.first.now in
    let t2 = c.args.second.now in
    let s = c.args.stand in
    let d : done? t1 t2 s.heads ≡ false = sym c.is_done.ensures ∙ c.if-is_done.false in
    let g = c.requires in
    let n = next_sound r t1 t2 s.heads g.ready d in
    let e : c.size_of-size.result ≡ item_size (next_item t1 t2 s.heads) =
    c.size_of-size.ensures ∙ ap item_size c.next_item-item.ensures in (
      omega (arith, n.within, ap (λ (z : Size). z.start.0) e),
      omega (arith, g.few, g.kept.small1, g.kept.small2, g.ready.ready1.short, g.ready.ready2.short),
      omega (arith, g.few, g.kept.small1, g.kept.small2, g.ready.ready1.short, g.ready.ready2.short),
    )

pub overflow_add-begun : goal.overflow_add-begun
overflow_add-begun c =
    let r = bases_of c.args.reference.now in
    let t1 = c.args.first.now in
    let t2 = c.args.second.now in
    let s = c.args.stand in
    let d : done? t1 t2 s.heads ≡ false = sym c.is_done.ensures ∙ c.if-is_done.false in
    let e : c.size_of-size.result ≡ item_size (next_item t1 t2 s.heads) = c.size_of-size.ensures ∙ ap item_size c.next_item-item.ensures in
    let cut = c.is_cut-cut.ensures ∙ ap (λ (z : Size). cut? r s.current z.start) e in
    let b = c.one.ensures ∙ ap one cut in
    record { fits = begun_fits r t1 t2 s c.requires d c.one.result b }

pub overflow_sub-begun : goal.overflow_sub-begun
overflow_sub-begun c =
    let r = bases_of c.args.reference.now in
    let t1 = c.args.first.now in
    let t2 = c.args.second.now in
    let s = c.args.stand in
    let e : c.size_of-size.result ≡ item_size (next_item t1 t2 s.heads) = c.size_of-size.ensures ∙ ap item_size c.next_item-item.ensures in
    let cut = c.is_cut-cut.ensures ∙ ap (λ (z : Size). cut? r s.current z.start) e in
    let b = c.one.ensures ∙ ap one cut in
    begun_made r t1 t2 s c.requires c.one.result b

pub after-requires : goal.after-requires
after-requires c =
    let r = bases_of c.args.reference.now in
    let t1 = c.args.first.now in
    let t2 = c.args.second.now in
    let s = c.args.stand in
    let d : done? t1 t2 s.heads ≡ false = sym c.is_done.ensures ∙ c.if-is_done.false in
    rw c.next_item-item.ensures (items_step t1 t2 s.heads d).inside

pub nexts_after-requires : goal.nexts_after-requires
nexts_after-requires c =
    let r = bases_of c.args.reference.now in
    let t1 = c.args.first.now in
    let t2 = c.args.second.now in
    let s = c.args.stand in
    nexts_fit r t1 t2 s c.requires c.next_item-item.result.side

pub grown-requires : goal.grown-requires
grown-requires c =
    let r = bases_of c.args.reference.now in
    let t1 = c.args.first.now in
    let t2 = c.args.second.now in
    let s = c.args.stand in
    let d : done? t1 t2 s.heads ≡ false = sym c.is_done.ensures ∙ c.if-is_done.false in
    let e : c.size_of-size.result ≡ item_size (next_item t1 t2 s.heads) = c.size_of-size.ensures ∙ ap item_size c.next_item-item.ensures in
    rw e (adds_next r t1 t2 s c.requires d)

pub returns : goal.returns
returns c =
    let r = bases_of c.args.reference.now in
    let t1 = c.args.first.now in
    let t2 = c.args.second.now in
    let s = c.args.stand in
    let d : done? t1 t2 s.heads ≡ false = sym c.is_done.ensures ∙ c.if-is_done.false in
    listing_made r t1 t2 s c.requires d
    c.next_item-item.ensures c.size_of-size.ensures c.is_cut-cut.ensures
    (ap (λ (n : ℕ). s.begun + n) c.one.ensures)
    c.listed_as.ensures c.after.ensures c.nexts_after.ensures c.grown.ensures
