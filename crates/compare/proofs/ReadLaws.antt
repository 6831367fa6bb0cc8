-- Laws of a walk over the records of two lists.
--     readable_passed     what the walk leans on stays so behind the next n
--     pos_le, next_pos    a POS is at most the largest
-- Assumes nothing.
use mathlib.Core.Bool.{Bool, true, false, not, ◌&&◌}
use mathlib.Core.List.{List, [], ◌∷◌}
use mathlib.Core.Path.{◌≡◌, refl, ap}
use Prim.Native.Nat.{ℕ, zero, suc, ◌+◌, ◌≤◌}
use native.Mathlib.Omega.{arith}
use lib.Dec.{eqb, leb, leb→le}
use lib.ListN.{length, get_or}
use Rattle.bases.proofs.TestLaws.{both, of_true}
use Rattle.bases.specs.Pick.{pick}
use Rattle.clusters.specs.declared.heads.Heads.{Heads}
use Rattle.clusters.specs.declared.item.Item.{Item}
use Rattle.clusters.specs.Heads.{Readable, entries_at, items_from, done?, next_item, moved, passed}
use Rattle.clusters.specs.Merged.{key_of, item_of, items_of}
use Rattle.clusters.proofs.HeadsLaws.{items_some, items_step, readable_moved}
use Rattle.clusters.proofs.MergedLaws.{all_map, merged_all}
use Rattle.donors.specs.Apart.{All}
use Rattle.donors.specs.Rules.{list1, list2}
use Rattle.vcf.specs.declared.entry.Entry.{Entry}
use Rattle.vcf.specs.Entry.{entries_from}
use Rattle.fields.specs.Pos.{all_digits?, value_from, largest_pos, is_pos?, read_pos}

pub pos_le : (f : List ℕ) → (read_pos f).0 ≤ largest_pos
unfolding is_pos?
pos_le f = go (is_pos? f) refl
  where
    go : (t : Bool) → is_pos? f ≡ t → pick t (value_from 0 f) 0 ≤ largest_pos
    go true e =
        let s = (both (all_digits? f) (not (eqb (get_or f 0 48) 48) && leb (value_from 0 f) largest_pos)).0 (of_true e) in
        leb→le (value_from 0 f) largest_pos ((both (not (eqb (get_or f 0 48) 48)) (leb (value_from 0 f) largest_pos)).0 s.1).1
    go false e = omega arith

entries_pos : (a : ℕ) (ls : List (List ℕ)) → All (λ (e : Entry). e.pos.0 ≤ largest_pos) (entries_from a ls)
unfolding entries_from
entries_pos a [] = tt
entries_pos a (l ∷ ls) = (pos_le _, entries_pos (a + length l + 1) ls)

module _ (first second : List ℕ) where
  pub readable_passed : (n : ℕ) (h : Heads) → Readable first second h → n ≤ length (items_from first second h) → Readable first second (passed first second n h)
  unfolding passed
  readable_passed zero h r k = r
  readable_passed (suc n) h r k =
      let s = items_step first second h (items_some first second h (omega arith)) in
      let j = (next_item first second h).side in
      readable_passed n (moved first second h j) (readable_moved first second h r j s.inside) (omega (arith, ap length s.split))

  items_pos : (h : Heads) → All (λ (i : Item). i.entry.pos.0 ≤ largest_pos) (items_from first second h)
  items_pos h =
      merged_all key_of (λ (i : Item). i.entry.pos.0 ≤ largest_pos) (items_of list1 (entries_at first h.at1)) (items_of list2 (entries_at second h.at2))
      (all_map (λ (i : Item). i.entry.pos.0 ≤ largest_pos) (item_of list1) (entries_at first h.at1) (entries_pos _ _))
      (all_map (λ (i : Item). i.entry.pos.0 ≤ largest_pos) (item_of list2) (entries_at second h.at2) (entries_pos _ _))

  pub next_pos : (h : Heads) → done? first second h ≡ false → (next_item first second h).entry.pos.0 ≤ largest_pos
  next_pos h e = go (items_step first second h e).split (items_pos h)
    where
      go : {i : Item} {is : List Item} → items_from first second h ≡ i ∷ is → All (λ (i : Item). i.entry.pos.0 ≤ largest_pos) (items_from first second h) → i.entry.pos.0 ≤ largest_pos
      go s u = (rw s at u).0
