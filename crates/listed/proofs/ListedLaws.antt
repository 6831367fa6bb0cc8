-- What the records of entries say.
--     listed_length      there is one for each entry: mark e belongs to record e
--     Told, told_each    a record's list is its entry's, its number counts that list's entries before it, and its line goes with it
--     listed_entry       entry e in merged order is the one of its list that record e names,
--     listed_line        and stands on the line that record e names;
--     listed_cluster     the cluster that record e names has entry e
-- Assumes nothing.
use mathlib.Core.Bool.{Bool, true, false, beq}
use mathlib.Core.List.{List, [], ◌∷◌}
use mathlib.Core.Path.{◌≡◌, refl, sym, ap, ◌∙◌}
use Prim.Native.Nat.{ℕ, zero, suc, ◌+◌, ◌-◌, ◌<◌}
use native.Mathlib.Omega.{arith}
use lib.ListN.{length, get_or, get_or-map}
use Rattle.bases.proofs.TestLaws.{of_false}
use Rattle.vcf.specs.declared.entry.Entry.{Entry}
use Rattle.vcf.specs.Entry.{entry_of, lines_above, entries_of, record_at}
use Rattle.vcf.specs.List.{lines_of}
use Rattle.vcf.proofs.AboveLaws.{entry_line_lem}
use Rattle.clusters.specs.declared.item.Item.{Item}
use Rattle.listed.specs.declared.listed.Listed.{Listed}
use Rattle.listed.specs.declared.listed.Next.{Next}
use Rattle.listed.specs.declared.listed.Nexts.{Nexts}
use Rattle.clusters.specs.Item.{text_of}
use Rattle.listed.specs.Listed.{list_number, one_on, next_of, nexts_after, numbers_from, listed_from, first_next, first_nexts, listed_of}
use Rattle.clusters.specs.Merged.{item_of, items_of, merged_items, merged_variants}
use Rattle.clusters.specs.Plan.{card_plan, plan_of}
use Rattle.clusters.proofs.CardClusters.{map_length, merged_first, merged_second}
use Rattle.marks.proofs.EntryCounts.{own}
use Rattle.clusters.proofs.MergedLaws.{keep}
use Rattle.listed.proofs.NumberLaws.{numbers_all, Covers, number_covers}

listed_count : (n : Nexts) (ks : List ℕ) (is : List Item) → length ks ≡ length is → length (listed_from n ks is) ≡ length is
unfolding listed_from
listed_count n [] [] e = refl
listed_count n [] (i ∷ is) e = absurd (omega (arith, e))
listed_count n (k ∷ ks) [] e = absurd (omega (arith, e))
listed_count n (k ∷ ks) (i ∷ is) e = ap suc (listed_count (nexts_after n i.side) ks is (omega (arith, e)))

-- Record r is that of entry i, of those in merged order from where n has the next of each list, and k is its cluster.
pub record Told (n : Nexts) (is : List Item) (i : Item) (k : ℕ) (r : Listed) : Type 0 where
  pub rank : ℕ
  pub list : r.list ≡ list_number i.side
  pub entry : r.entry ≡ (next_of n i.side).entry + rank
  pub line : r.line ≡ (next_of n i.side).line + rank
  pub cluster : r.cluster ≡ k
  pub below : rank < length (own i.side is)
  pub there : get_or (own i.side is) rank i ≡ i

beq_same : (s : Bool) → beq s s ≡ true
beq_same true = refl
beq_same false = refl

beq_equal : (s t : Bool) → beq s t ≡ true → t ≡ s
beq_equal true true e = refl
beq_equal true false e = e
beq_equal false true e = sym e
beq_equal false false e = refl

next_same : (n : Nexts) (s : Bool) → next_of (nexts_after n s) s ≡ one_on (next_of n s)
next_same n true = refl
next_same n false = refl

next_other : (n : Nexts) (s t : Bool) → beq s t ≡ false → next_of (nexts_after n t) s ≡ next_of n s
next_other n true true e = absurd (of_false e tt)
next_other n true false e = refl
next_other n false true e = refl
next_other n false false e = absurd (of_false e tt)

module _ (side : Bool) (x : Item) (is : List Item) where
  own_in : beq side x.side ≡ true → own side (x ∷ is) ≡ x ∷ own side is
  unfolding keep
  own_in e = rw e

  own_out : beq side x.side ≡ false → own side (x ∷ is) ≡ own side is
  unfolding keep
  own_out e = rw e

-- with one entry more in front
told_behind : (n : Nexts) (x : Item) (is : List Item) (i : Item) (k : ℕ) (r : Listed) → Told (nexts_after n x.side) is i k r → Told n (x ∷ is) i k r
told_behind n x is i k r t = go (beq i.side x.side) refl
  where
    go : (b : Bool) → beq i.side x.side ≡ b → Told n (x ∷ is) i k r
    go true e =
        let o = own_in i.side x is e in
        let s : next_of (nexts_after n x.side) i.side ≡ one_on (next_of n i.side) = rw (beq_equal i.side x.side e) (next_same n i.side) in
        record {
          rank = suc t.rank;
          list = t.list;
          entry = omega (arith, t.entry, ap (λ (m : Next). m.entry) s);
          line = omega (arith, t.line, ap (λ (m : Next). m.line) s);
          cluster = t.cluster;
          below = omega (arith, t.below, ap length o);
          there = rw o t.there;
        }
    go false e =
        let o = own_out i.side x is e in
        let s = next_other n i.side x.side e in
        record {
          rank = t.rank;
          list = t.list;
          entry = omega (arith, t.entry, ap (λ (m : Next). m.entry) s);
          line = omega (arith, t.line, ap (λ (m : Next). m.line) s);
          cluster = t.cluster;
          below = omega (arith, t.below, ap length o);
          there = rw o t.there;
        }

pub told_each : (n : Nexts) (ks : List ℕ) (is : List Item) → length ks ≡ length is → (e : ℕ) → e < length is → (d : Listed) (i : Item) (k : ℕ)
    → Told n is (get_or is e i) (get_or ks e k) (get_or (listed_from n ks is) e d)
unfolding listed_from
told_each n ks [] l e h d i k = absurd (omega arith)
told_each n [] (x ∷ is) l e h d i k = absurd (omega (arith, l))
told_each n (m ∷ ks) (x ∷ is) l zero h d i k =
    let o = own_in x.side x is (beq_same x.side) in
    record { rank = 0; list = refl; entry = omega arith; line = omega arith; cluster = refl; below = omega (arith, ap length o); there = rw o }
told_each n (m ∷ ks) (x ∷ is) l (suc e) h d i k =
    told_behind n x is (get_or is e i) (get_or ks e k) (get_or (listed_from (nexts_after n x.side) ks is) e d)
    (told_each (nexts_after n x.side) ks is (omega (arith, l)) e (omega arith) d i k)

module _ (reference first second : List ℕ) where
  abbrev numbers : List ℕ
  numbers = numbers_from 0 (plan_of reference first second)

  pub listed_length : length (listed_of reference first second) ≡ length (merged_items first second)
  listed_length = listed_count (first_nexts first second) numbers (merged_items first second) (numbers_all reference first second)

  -- each list's entries stand in the merged order in their own order
  owns : (side : Bool) → own side (merged_items first second) ≡ items_of side (entries_of (text_of side first second))
  owns true = merged_first (entries_of first) (entries_of second)
  owns false = merged_second (entries_of first) (entries_of second)

  starts : (side : Bool) → next_of (first_nexts first second) side ≡ first_next (text_of side first second)
  starts true = refl
  starts false = refl

  module _ (e : ℕ) (inside : e < length (merged_items first second)) (d : Listed) (i₀ : Item) where
    -- the record, the entry and the text of its list
    abbrev r : Listed
    r = get_or (listed_of reference first second) e d

    abbrev i : Item
    i = get_or (merged_items first second) e i₀

    abbrev text : List ℕ
    text = text_of i.side first second

    told : Told (first_nexts first second) (merged_items first second) i (get_or numbers e 0) r
    told = told_each (first_nexts first second) numbers (merged_items first second) (numbers_all reference first second) e inside d i₀ 0

    number : r.entry ≡ told.rank
    number = omega (arith, told.entry, ap (λ (m : Next). m.entry) (starts i.side))

    below : r.entry < length (entries_of text)
    below = omega (arith, number, told.below, ap length (owns i.side), map_length (item_of i.side) (entries_of text))

    pub listed_entry : (e₀ : Entry)
        → (r.list ≡ list_number i.side) × (r.entry < length (entries_of text)) × (i ≡ item_of i.side (get_or (entries_of text) r.entry e₀))
    listed_entry e₀ =
        let here : get_or (items_of i.side (entries_of text)) r.entry i ≡ i = rw (number, ← owns i.side) told.there in (
          told.list,
          below,
          sym here ∙ get_or-map (item_of i.side) (entries_of text) r.entry i.entry
              ∙ ap (item_of i.side) (same (entries_of text) r.entry i.entry e₀ below),
        )
      where
        same : (l : List Entry) (n : ℕ) (a b : Entry) → n < length l → get_or l n a ≡ get_or l n b
        same [] n a b h = absurd (omega arith)
        same (x ∷ l) zero a b h = refl
        same (x ∷ l) (suc n) a b h = same l n a b (omega arith)

    pub listed_line : (r.line ≡ lines_above text + r.entry + 1) × (i.entry ≡ entry_of (get_or (lines_of text) (r.line - 1) []) (record_at text r.entry))
    listed_line =
        let l : r.line ≡ lines_above text + r.entry + 1 = omega (arith, number, told.line, ap (λ (m : Next). m.line) (starts i.side)) in
        let m : r.line - 1 ≡ lines_above text + r.entry = omega (arith, l) in
        (l, rw m (ap (λ (j : Item). j.entry) (listed_entry i.entry).2 ∙ entry_line_lem text r.entry i.entry below))

    pub listed_cluster : Covers (plan_of reference first second) r.cluster e
    listed_cluster = rw told.cluster (number_covers (card_plan reference (merged_variants reference first second)) e 0 (omega (arith, numbers_all reference first second)))
