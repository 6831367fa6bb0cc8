-- Laws of the walk from entry to entry.
--     begun_some, begun_made, begun_fits
--                       with an entry a cluster has begun, its own; their number can be written
--     going_start       what a step leans on is so at the first entries,
--     going_after       and behind an entry
--     adds_next, nexts_fit
--                       the sums with the next entry, and the numbers of the one behind it, can be written
--     listing_none      the step where no entry is left,
--     listing_made      and where one is, put together
--     listing_done, listing_next
--                       a step says whether one is left; where one is, it has its record, and where the walk is behind it
-- Assumes nothing.
use mathlib.Core.Bool.{Bool, true, false, not}
use mathlib.Core.List.{List}
use mathlib.Core.Path.{◌≡◌, refl, sym, ap, ◌∙◌}
use Prim.Native.Nat.{ℕ, zero, suc, ◌+◌, ◌-◌, ◌≤◌, ◌<◌, ◌^◌}
use native.Mathlib.Omega.{arith}
use lib.ListN.{length}
use Rattle.bases.specs.Pick.{pick}
use Rattle.bases.proofs.TestLaws.{of_false}
use Rattle.vcf.proofs.AboveLaws.{above_few}
use Rattle.clusters.specs.declared.gap.Current.{Current}
use Rattle.clusters.specs.declared.gap.Size.{Size}
use Rattle.clusters.specs.declared.heads.Heads.{Heads}
use Rattle.clusters.specs.declared.item.Item.{Item}
use Rattle.listed.specs.declared.listed.Listed.{Listed}
use Rattle.listed.specs.declared.listed.Listing.{Listing}
use Rattle.listed.specs.declared.listed.Nexts.{Nexts}
use Rattle.listed.specs.declared.listed.Stand.{Stand}
use Rattle.marks.specs.Counts.{one}
use Rattle.clusters.specs.Gap.{Adds, nothing, cut?, Kept}
use Rattle.clusters.specs.Heads.{Ready, start_heads, done?, next_item, moved}
use Rattle.clusters.specs.Item.{item_size}
use Rattle.listed.specs.Listed.{next_of, nexts_after, listed_as}
use Rattle.listed.specs.Listing.{grown, passed_by, not_listed, start_stand, Going, cut_at?, begun_at, stand_after, listed_at, listing_from}
use Rattle.clusters.proofs.HeadsLaws.{items_step, items_few, ready_moved, next_sound}
use Rattle.listed.proofs.NumberLaws.{cut_nothing}
use Rattle.clusters.proofs.WalkLaws.{kept_more, size_small}

kept_nothing : (reference : List ℕ) (n : ℕ) → Kept reference n nothing
kept_nothing reference n = record { inside = omega arith; small1 = (omega arith, omega arith); small2 = (omega arith, omega arith) }

passed_after : (n : Nexts) (j : Bool) → passed_by (nexts_after n j) ≡ passed_by n + 1
passed_after n true = omega arith
passed_after n false = omega arith

lines_after : (n : Nexts) (j : Bool) → ((nexts_after n j).first.line ≤ n.first.line + 1) × ((nexts_after n j).second.line ≤ n.second.line + 1)
lines_after n true = (omega arith, omega arith)
lines_after n false = (omega arith, omega arith)

one_le : (t : Bool) → one t ≤ 1
one_le true = omega arith
one_le false = omega arith

module _ (reference first second : List ℕ) where
  pub going_start : Ready reference first second (start_heads first second) → Going reference first second (start_stand first second)
  going_start r = record {
    ready = r;
    few = omega (arith, items_few first second (start_heads first second));
    line1 = omega (arith, above_few first);
    line2 = omega (arith, above_few second);
    begun = omega arith;
    none = λ e. refl;
    kept = kept_nothing reference 0;
  }

  module _ (s : Stand) where
    pub listing_none : done? first second s.heads ≡ true
        → record { more = false; listed = not_listed; behind = s } ≡ listing_from reference first second s
    listing_none e = rw e

    pub listing_done : (w : Listing) → w ≡ listing_from reference first second s → done? first second s.heads ≡ not w.more
    listing_done w e = rw e (go (done? first second s.heads))
      where
        go : (t : Bool) → t ≡ not (pick {A = Listing} t (record { more = false; listed = not_listed; behind = s })
            (record { more = true; listed = listed_at reference first second s; behind = stand_after reference first second s })).more
        go true = refl
        go false = refl

    pub listing_next : (w : Listing) → w ≡ listing_from reference first second s → done? first second s.heads ≡ false
        → (w.listed ≡ listed_at reference first second s) × (w.behind ≡ stand_after reference first second s)
    listing_next w e d = (rw (e, d), rw (e, d))

  module _ (s : Stand) (g : Going reference first second s) where
    pub begun_some : 1 ≤ begun_at reference first second s
    begun_some = go (cut_at? reference first second s) refl s.begun refl
      where
        go : (t : Bool) → cut_at? reference first second s ≡ t → (b : ℕ) → s.begun ≡ b → 1 ≤ s.begun + one t
        go true e b f = omega arith
        go false e zero f = absurd (of_false (sym (cut_nothing reference (item_size (next_item first second s.heads)).start) ∙ rw (g.none f) at e) tt)
        go false e (suc b) f = omega arith

    pub begun_made : (b : ℕ) → b ≡ one (cut_at? reference first second s) → 1 ≤ s.begun + b
    begun_made b e = omega (arith, e, begun_some)

    pub nexts_fit : (j : Bool) → ((next_of s.nexts j).entry + 1 < 2 ^ 32) × ((next_of s.nexts j).line + 1 < 2 ^ 32)
    nexts_fit true =
        (omega (arith, g.few, g.ready.ready1.short, g.ready.ready2.short), omega (arith, g.few, g.line1, g.ready.ready1.short, g.ready.ready2.short))
    nexts_fit false =
        (omega (arith, g.few, g.ready.ready1.short, g.ready.ready2.short), omega (arith, g.few, g.line2, g.ready.ready1.short, g.ready.ready2.short))

    module _ (e : done? first second s.heads ≡ false) where
      abbrev next : Item
      next = next_item first second s.heads

      pub begun_fits : (b : ℕ) → b ≡ one (cut_at? reference first second s) → s.begun + b < 2 ^ 32
      begun_fits b q =
          omega (arith, q, one_le (cut_at? reference first second s), g.begun, g.few, ap length (items_step first second s.heads e).split, g.ready.ready1.short, g.ready.ready2.short)

      pub adds_next : Adds s.current (item_size next)
      adds_next =
          let z = size_small reference first second next (next_sound reference first second s.heads g.ready e) in (
            omega (arith, z, g.few, g.kept.small1, g.kept.small2, g.ready.ready1.short, g.ready.ready2.short),
            omega (arith, z, g.few, g.kept.small1, g.kept.small2, g.ready.ready1.short, g.ready.ready2.short),
            omega (arith, z, g.few, g.kept.small1, g.kept.small2, g.ready.ready1.short, g.ready.ready2.short),
            omega (arith, z, g.few, g.kept.small1, g.kept.small2, g.ready.ready1.short, g.ready.ready2.short),
          )

      kept_after : (t : Bool) → Kept reference (passed_by s.nexts + 1) (grown s.current (item_size next) t)
      kept_after true = kept_more reference first second next (next_sound reference first second s.heads g.ready e) (passed_by s.nexts) nothing (kept_nothing reference (passed_by s.nexts))
      kept_after false = kept_more reference first second next (next_sound reference first second s.heads g.ready e) (passed_by s.nexts) s.current g.kept

      pub going_after : Going reference first second (stand_after reference first second s)
      going_after =
          let st = items_step first second s.heads e in
          let p = passed_after s.nexts next.side in
          let l = lines_after s.nexts next.side in
          record {
            ready = ready_moved reference first second s.heads g.ready next.side st.inside;
            few = omega (arith, p, g.few, ap length st.split);
            line1 = omega (arith, p, l, g.line1);
            line2 = omega (arith, p, l, g.line2);
            begun = omega (arith, p, g.begun, one_le (cut_at? reference first second s));
            none = λ z. absurd (omega (arith, begun_some, z));
            kept = rw p (kept_after (cut_at? reference first second s));
          }

      pub listing_made : {i : Item} {z : Size} {cut : Bool} {b : ℕ} {l : Listed} {h : Heads} {n : Nexts} {c : Current}
          → i ≡ next → z ≡ item_size i → cut ≡ cut? reference s.current z.start → b ≡ s.begun + one cut
          → l ≡ listed_as s.nexts i.side (b - 1) → h ≡ moved first second s.heads i.side → n ≡ nexts_after s.nexts i.side
          → c ≡ grown s.current z cut
          → record { more = true; listed = l; behind = record { heads = h; nexts = n; current = c; begun = b } }
          ≡ listing_from reference first second s
      listing_made ei ez et eb el eh en ec = rw (e, el, eh, en, ec, eb, et, ez, ei)
