-- Laws of a walk through the merged order: what a step does to the current cluster.
--     size_made                               the sizes by the entry's numbers, put together
--     item_size_lem                               the numbers of a sound entry are the sizes that the gap rule reads
--     kept_begin, kept_more                   b lies inside the reference, and the sums are at most 64 an entry
--     variants_step                           the entries from the cursors on, as matching reads them
--     count_begin, left_cut, left_more, left_done
--                                             how many entries the cluster that begins there has; how many more the current one has
-- Assumes nothing.
use mathlib.Core.Bool.{Bool, true, false, beq}
use mathlib.Core.List.{List, ◌∷◌, map}
use mathlib.Core.Path.{◌≡◌, ap, ◌∙◌}
use Prim.Native.Nat.{ℕ, ◌+◌, ◌≤◌}
use native.Mathlib.Omega.{arith}
use lib.ListN.{length}
use Rattle.bases.specs.declared.place.Place.{Place}
use Rattle.donors.specs.Choice.{Variant, card_rules}
use Rattle.donors.specs.Items.{only}
use Rattle.donors.specs.Rules.{list1, list2}
use Rattle.fields.specs.Allele.{longest_allele}
use Rattle.clusters.specs.declared.gap.Current.{Current}
use Rattle.clusters.specs.declared.gap.Size.{Size}
use Rattle.clusters.specs.declared.heads.Heads.{Heads}
use Rattle.clusters.specs.declared.item.Item.{Item}
use Rattle.clusters.specs.Gap.{size_of, more, nothing, begin, cut?, Kept}
use Rattle.clusters.specs.Heads.{Ready, done?, next_item, moved, variants_from, first_count}
use Rattle.clusters.specs.Item.{start_of, variant, item_size}
use Rattle.clusters.specs.Plan.{first_of, card_plan}
use Rattle.clusters.proofs.CardClusters.{SoundItem}
use Rattle.clusters.proofs.FirstLaws.{left, first_none, first_cut, first_more, first_plan}
use Rattle.clusters.proofs.HeadsLaws.{items_none, items_step, next_sound}

only_le : (t : Bool) (n : ℕ) → only t n ≤ n
only_le true n = omega arith
only_le false n = omega arith

pub size_made : (i : Item) (start : Place) (shrink grow : ℕ) → start ≡ start_of i.entry → shrink ≡ (item_size i).shrink → grow ≡ (item_size i).grow
    → record { side = i.side; start = start; end = record { 0 = start.0 + i.entry.reference.len }; shrink = shrink; grow = grow } ≡ item_size i
size_made i start shrink grow e f g = rw (e, f, g)

module _ (reference first second : List ℕ) (i : Item) (s : SoundItem reference first second i) where
  pub item_size_lem : size_of card_rules (variant reference first second i) ≡ item_size i
  item_size_lem = cc (s.long0, s.long1)

  pub size_small : ((item_size i).end.0 ≤ length reference) × ((item_size i).shrink ≤ longest_allele) × ((item_size i).grow ≤ longest_allele)
  size_small = (s.within, omega (arith, s.short), omega (arith, s.short0, s.short1))

  pub kept_more : (n : ℕ) (c : Current) → Kept reference n c → Kept reference (n + 1) (more c (item_size i))
  kept_more n c k =
      let z = size_small in
      let b1 = beq list1 i.side in
      let b2 = beq list2 i.side in
      record {
        inside = omega (arith, k.inside);
        small1 = (omega (arith, only_le b1 (item_size i).shrink, k.small1), omega (arith, only_le b1 (item_size i).grow, k.small1));
        small2 = (omega (arith, only_le b2 (item_size i).shrink, k.small2), omega (arith, only_le b2 (item_size i).grow, k.small2));
      }

  pub kept_begin : Kept reference 1 (begin (item_size i))
  kept_begin = kept_more 0 nothing (record { inside = omega arith; small1 = omega arith; small2 = omega arith })

-- How many more entries the current cluster has, from the cursors on.
abbrev pub left_from : List ℕ → List ℕ → List ℕ → Current → Heads → ℕ
left_from reference first second c h = left card_rules reference c (variants_from reference first second h)

module _ (reference first second : List ℕ) (h : Heads) where
  -- The next entry, and the cursors behind it.
  abbrev pub next : Item
  next = next_item first second h

  abbrev pub behind : Heads
  behind = moved first second h (next_item first second h).side

  pub left_done : (c : Current) → done? first second h ≡ true → left_from reference first second c h ≡ 0
  left_done c e = rw (items_none first second h e) (first_none card_rules reference c)

  module _ (more? : done? first second h ≡ false) where
    pub variants_step : variants_from reference first second h ≡ variant reference first second next ∷ variants_from reference first second behind
    variants_step = ap (map (variant reference first second)) (items_step first second h more?).split

    pub left_cut : (c : Current) → cut? reference c (item_size next).start ≡ true → left_from reference first second c h ≡ 0
    left_cut c e =
        rw variants_step (first_cut card_rules reference c (variant reference first second next) (variants_from reference first second behind) e)

    module _ (ready : Ready reference first second h) where
      size : size_of card_rules (variant reference first second next) ≡ item_size next
      size = item_size_lem reference first second next (next_sound reference first second h ready more?)

      pub left_more : (c : Current) → cut? reference c (item_size next).start ≡ false → left_from reference first second c h
          ≡ left_from reference first second (more c (item_size next)) behind + 1
      left_more c e =
          ap (λ (xs : List Variant). left card_rules reference c xs) variants_step
          ∙ first_more card_rules reference c (variant reference first second next) (variants_from reference first second behind) e
          ∙ ap (λ (z : Size). left_from reference first second (more c z) behind + 1) size

      pub count_begin : first_count reference first second h ≡ left_from reference first second (begin (item_size next)) behind + 1
      count_begin =
          ap (λ (xs : List Variant). length (first_of (card_plan reference xs))) variants_step
          ∙ first_plan card_rules reference (variant reference first second next) (variants_from reference first second behind)
          ∙ ap (λ (z : Size). left_from reference first second (begin z) behind + 1) size
