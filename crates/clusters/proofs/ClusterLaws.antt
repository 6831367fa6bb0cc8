-- Laws of the walk to the next cut, in the form that the code's loop has: i is the next entry, z its sizes, c the current cluster, k the cursors.
--     Walked            behind n entries of a cluster, whose first left c0 and k0: how many more it has, where the cursors are, and that all numbers are small
--     walked_begin      so it is behind the first entry
--     walked_more       and behind one more, where the rule does not cut; one entry fewer is left
--     walked_found      where the cluster has no more entries, it is the one that is looked for
-- Assumes nothing.
use mathlib.Core.Bool.{false}
use mathlib.Core.List.{List}
use mathlib.Core.Path.{◌≡◌, refl, sym, ap, ap₂, ◌∙◌}
use Prim.Native.Nat.{ℕ, suc, ◌+◌, ◌-◌, ◌≤◌, ◌<◌}
use native.Mathlib.Omega.{arith}
use lib.ListN.{length}
use Rattle.clusters.specs.declared.gap.Current.{Current}
use Rattle.clusters.specs.declared.gap.Size.{Size}
use Rattle.clusters.specs.declared.heads.Heads.{Heads}
use Rattle.clusters.specs.declared.item.Item.{Item}
use Rattle.clusters.specs.Gap.{more, begin, cut?, Kept}
use Rattle.clusters.specs.Heads.{Ready, items_from, done?, next_item, moved, passed, first_count, found_at}
use Rattle.clusters.specs.Item.{item_size}
use Rattle.clusters.proofs.HeadsLaws.{items_step, items_few, ready_moved, next_sound, passed_next}
use Rattle.clusters.proofs.WalkLaws.{kept_begin, kept_more, left_from, left_more, count_begin}

pub record Walked (reference first second : List ℕ) (c0 : Current) (k0 : Heads) (c : Current) (k : Heads) (n : ℕ) : Type 0 where
  pub left : n + left_from reference first second c k ≡ left_from reference first second c0 k0 + 1
  pub some : 1 ≤ n
  pub at : k ≡ passed first second (n - 1) k0
  pub ready : Ready reference first second k
  pub few : n + length (items_from first second k) ≤ length first + length second
  pub kept : Kept reference n c

module _ (reference first second : List ℕ) where
  -- The next entry leaves one fewer.
  fewer : (k : Heads) → done? first second k ≡ false
      → length (items_from first second k) ≡ length (items_from first second (moved first second k (next_item first second k).side)) + 1
  fewer k d = omega (arith, ap length (items_step first second k d).split)

  module _ (h : Heads) (d : done? first second h ≡ false) (r : Ready reference first second h) where
    pub walked_begin : (i : Item) (z : Size) (c : Current) (k : Heads) → i ≡ next_item first second h → z ≡ item_size i → c ≡ begin z
        → k ≡ moved first second h i.side → Walked reference first second c k c k 1
    unfolding passed
    walked_begin i z c k ei ez ec ek =
        let next = next_item first second h in
        let c' : c ≡ begin (item_size next) = cc in
        let k' : k ≡ moved first second h next.side = cc in
        rw (c', k') (record {
          left = omega arith;
          some = omega arith;
          at = refl;
          ready = ready_moved reference first second h r next.side (items_step first second h d).inside;
          few = omega (arith, fewer h d, items_few first second h);
          kept = kept_begin reference first second next (next_sound reference first second h r d);
        })

    -- what is found, by its number
    found_at_lem : (n : ℕ) (k : Heads) → n ≡ first_count reference first second h → k ≡ passed first second n h → record { count = n; heads = k } ≡ found_at reference first second h
    found_at_lem n k e f = rw (f, e)

    pub walked_found : (i : Item) (z : Size) (c0 : Current) (k0 : Heads) → i ≡ next_item first second h → z ≡ item_size i → c0 ≡ begin z
        → k0 ≡ moved first second h i.side → (c : Current) (k : Heads) (n : ℕ) → Walked reference first second c0 k0 c k n
        → left_from reference first second c k ≡ 0 → record { count = n; heads = k } ≡ found_at reference first second h
    unfolding passed
    walked_found i z c0 k0 ei ez ec ek c k n w e =
        let next = next_item first second h in
        let c' : c0 ≡ begin (item_size next) = cc in
        let k' : k0 ≡ moved first second h next.side = cc in
        let same = ap₂ (left_from reference first second) c' k' in
        let m : n ≡ suc (n - 1) = omega (arith, w.some) in
        found_at_lem n k (omega (arith, w.left, count_begin reference first second h d r))
        (w.at ∙ ap (passed first second (n - 1)) k' ∙ ap (λ (j : ℕ). passed first second j h) (sym m))

  pub walked_more : (c0 : Current) (k0 : Heads) (c : Current) (k : Heads) (n : ℕ) (i : Item) (z : Size) (c' : Current) (k' : Heads)
      → Walked reference first second c0 k0 c k n → done? first second k ≡ false → i ≡ next_item first second k → z ≡ item_size i
      → cut? reference c z.start ≡ false → c' ≡ more c z → k' ≡ moved first second k i.side
      → Walked reference first second c0 k0 c' k' (n + 1) × (length (items_from first second k') < length (items_from first second k))
  walked_more c0 k0 c k n i z c' k' w d ei ez e ec ek =
      let next = next_item first second k in
      let cn : c' ≡ more c (item_size next) = cc in
      let kn : k' ≡ moved first second k next.side = cc in
      let zn : z ≡ item_size next = cc in
      let m : n + 1 - 1 ≡ (n - 1) + 1 = omega (arith, w.some) in
      let step = left_more reference first second k d w.ready c (rw zn at e) in
      rw (cn, kn) (
        record {
          left = omega (arith, w.left);
          some = omega arith;
          at = rw m (sym (passed_next first second (n - 1) k0 ∙ rw (← w.at)));
          ready = ready_moved reference first second k w.ready next.side (items_step first second k d).inside;
          few = omega (arith, fewer k d, w.few);
          kept = kept_more reference first second next (next_sound reference first second k w.ready d) n c w.kept;
        },
        omega (arith, fewer k d),
      )
