-- The records of entries, from where a walk from entry to entry stands.
--     listed_start                   at the first entries they are those of the two lists
--     listed_none, listed_next       of no entry, and of one more
-- Assumes nothing.
use mathlib.Core.Bool.{true, false}
use mathlib.Core.List.{List, [], ◌∷◌}
use mathlib.Core.Path.{◌≡◌, ap, ap₂, ◌∙◌}
use Prim.Native.Nat.{ℕ, ◌+◌, ◌-◌}
use Rattle.donors.specs.Choice.{Variant, card_rules}
use Rattle.clusters.specs.declared.gap.Current.{Current}
use Rattle.clusters.specs.declared.gap.Size.{Size}
use Rattle.clusters.specs.declared.item.Item.{Item}
use Rattle.listed.specs.declared.listed.Nexts.{Nexts}
use Rattle.listed.specs.declared.listed.Stand.{Stand}
use Rattle.marks.specs.Counts.{one}
use Rattle.clusters.specs.Gap.{size_of, cut?}
use Rattle.clusters.specs.Heads.{items_from, done?, next_item, moved, variants_from}
use Rattle.clusters.specs.Item.{variant, item_size}
use Rattle.listed.specs.Listed.{listed_as, nexts_after, listed_from, first_nexts, listed_of}
use Rattle.listed.specs.Listing.{grown, numbers_on, Going, start_stand, listed_at, stand_after, listed_on}
use Rattle.clusters.specs.Merged.{merged_items, merged_variants}
use Rattle.clusters.proofs.HeadsLaws.{items_none, items_step, next_sound}
use Rattle.listed.proofs.NumberLaws.{numbers_plan}
use Rattle.clusters.proofs.WalkLaws.{item_size_lem, variants_step}

-- one entry more, whose sizes are z
listed_step : (R : List ℕ) (n : Nexts) (c : Current) (b : ℕ) (i : Item) (is : List Item) (x : Variant) (xs : List Variant) (z : Size) → size_of card_rules x ≡ z
    → let t = cut? R c z.start in listed_from n (numbers_on card_rules R c b (x ∷ xs)) (i ∷ is)
    ≡ listed_as n i.side (b + one t - 1) ∷ listed_from (nexts_after n i.side) (numbers_on card_rules R (grown c z t) (b + one t) xs) is
unfolding listed_from numbers_on
listed_step R n c b i is x xs z e = rw (← e)

module _ (reference first second : List ℕ) where
  pub listed_start : listed_of reference first second ≡ listed_on reference first second (start_stand first second)
  listed_start =
      ap (λ (ks : List ℕ). listed_from (first_nexts first second) ks (merged_items first second)) (numbers_plan card_rules reference (merged_variants reference first second))

  module _ (s : Stand) where
    pub listed_none : done? first second s.heads ≡ true → listed_on reference first second s ≡ []
    unfolding listed_from numbers_on
    listed_none e = rw (items_none first second s.heads e)

    pub listed_next : Going reference first second s → done? first second s.heads ≡ false → listed_on reference first second s ≡ listed_at reference first second s ∷ listed_on reference first second (stand_after reference first second s)
    listed_next g e =
        let i = next_item first second s.heads in
        let b = moved first second s.heads i.side in
        let z = item_size_lem reference first second i (next_sound reference first second s.heads g.ready e) in
        ap₂ (λ (xs : List Variant) (is : List Item). listed_from s.nexts (numbers_on card_rules reference s.current s.begun xs) is)
        (variants_step reference first second s.heads e) (items_step first second s.heads e).split
        ∙ listed_step reference s.nexts s.current s.begun i (items_from first second b) (variant reference first second i) (variants_from reference first second b) (item_size i) z
