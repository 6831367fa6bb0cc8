-- Lists whose entries differ only in the case of REF and ALT: the same plan, marks and counts.
--     merged_beside                lists side by side, merged, stand side by side
--     items_case, variants_case    the entries in merged order, and as matching reads them
--     plan_lists, marks_lists, score_lists, asked_lists, after_lists, counts_lists
--                                  what `plan`, `mark_all`, `mark` and `count` tell and leave is made of these
-- Assumes nothing.
use mathlib.Core.Bool.{Bool, true, false, cond}
use mathlib.Core.List.{List, [], ◌∷◌, map}
use mathlib.Core.Path.{◌≡◌, refl, ap, ap₂}
use Prim.Native.Nat.{ℕ}
use lib.Dec.{leb}
use Rattle.bases.specs.declared.place.Pos.{Pos}
use Rattle.clusters.specs.declared.item.Item.{Item}
use Rattle.clusters.specs.Item.{text_of, variant}
use Rattle.clusters.specs.Merged.{weave, merged, key_of, items_of, merged_items, merged_variants}
use Rattle.clusters.specs.Plan.{plan_of}
use Rattle.donors.specs.Choice.{Variant}
use Rattle.donors.specs.Rules.{list1, list2}
use Rattle.marks.specs.Counts.{own_marks, counts_of}
use Rattle.marks.specs.Marks.{clusters_of, all_marks, total_score, asked_for, marks_after}
use Rattle.vcf.specs.declared.entry.Entry.{Entry}
use Rattle.vcf.specs.Entry.{entries_of}
use Rattle.written.specs.Entries.{Beside}
use Rattle.card.specs.Case.{SameEntry, SameEntries}

module _ {X : Type 0} (key : X → ℕ) (P : X → X → Type 0) (keyed : (x y : X) → P x y → key x ≡ key y) where
  weave_beside : (x y : X) → P x y → (f g : List X → List X) → ((ms ns : List X) → Beside P ms ns → Beside P (f ms) (g ns)) → (ms ns : List X) → Beside P ms ns
      → Beside P (weave key x f ms) (weave key y g ns)
  unfolding weave
  weave_beside x y p f g h [] [] b = (p, h [] [] tt)
  weave_beside x y p f g h [] (d ∷ ns) b = absurd b
  weave_beside x y p f g h (a ∷ ms) [] b = absurd b
  weave_beside x y p f g h (a ∷ ms) (d ∷ ns) b =
      rw (keyed x y p, keyed a d b.0) (go (leb (key y) (key d)) (h (a ∷ ms) (d ∷ ns) b) (weave_beside x y p f g h ms ns b.1))
    where
      go : (t : Bool) → Beside P (f (a ∷ ms)) (g (d ∷ ns)) → Beside P (weave key x f ms) (weave key y g ns)
          → Beside P (cond t (x ∷ f (a ∷ ms)) (a ∷ weave key x f ms)) (cond t (y ∷ g (d ∷ ns)) (d ∷ weave key y g ns))
      go true i j = (p, i)
      go false i j = (b.0, j)

  pub merged_beside : (xs ys : List X) → Beside P xs ys → (ms ns : List X) → Beside P ms ns → Beside P (merged key xs ms) (merged key ys ns)
  unfolding merged
  merged_beside [] [] h ms ns b = b
  merged_beside [] (y ∷ ys) h ms ns b = absurd h
  merged_beside (x ∷ xs) [] h ms ns b = absurd h
  merged_beside (x ∷ xs) (y ∷ ys) h ms ns b = weave_beside x y h.0 (merged key xs) (merged key ys) (merged_beside xs ys h.1) ms ns b

-- The lists t and u, and v and w, differ only so; t and v are list 1.
module _ (t u v w : List ℕ) (firsts : SameEntries t v) (seconds : SameEntries u w) where
  -- Two entries in merged order: of one list, and the same but for case.
  pub record SameItem (i j : Item) : Type 0 where
    pub side : i.side ≡ j.side
    pub entry : SameEntry (text_of i.side t u) (text_of i.side v w) i.entry j.entry

  items_beside : (side : Bool) (es ds : List Entry) → Beside (SameEntry (text_of side t u) (text_of side v w)) es ds → Beside SameItem (items_of side es) (items_of side ds)
  items_beside side [] [] b = tt
  items_beside side [] (d ∷ ds) b = absurd b
  items_beside side (e ∷ es) [] b = absurd b
  items_beside side (e ∷ es) (d ∷ ds) b = (record { side = refl; entry = b.0 }, items_beside side es ds b.1)

  pub items_case : Beside SameItem (merged_items t u) (merged_items v w)
  items_case =
      merged_beside key_of SameItem (λ i j s. ap (λ (p : Pos). p.0) s.entry.pos) (items_of list1 (entries_of t)) (items_of list1 (entries_of v))
      (items_beside list1 (entries_of t) (entries_of v) firsts) (items_of list2 (entries_of u)) (items_of list2 (entries_of w)) (items_beside list2 (entries_of u) (entries_of w) seconds)

  own_same : (side : Bool) (is js : List Item) (ms : List ℕ) → Beside SameItem is js → own_marks side is ms ≡ own_marks side js ms
  unfolding own_marks
  own_same side [] [] ms b = refl
  own_same side [] (j ∷ js) ms b = absurd b
  own_same side (i ∷ is) [] ms b = absurd b
  own_same side (i ∷ is) (j ∷ js) [] b = refl
  own_same side (i ∷ is) (j ∷ js) (m ∷ ms) b = rw (b.0.side, own_same side is js ms b.1)

  pub counts_lists : (marks : List ℕ) → counts_of (merged_items t u) marks ≡ counts_of (merged_items v w) marks
  counts_lists marks =
      let a = own_same list1 (merged_items t u) (merged_items v w) marks items_case in
      let b = own_same list2 (merged_items t u) (merged_items v w) marks items_case in
      rw (a, b)

  module _ (reference : List ℕ) where
    variant_same : (i j : Item) → SameItem i j → variant reference t u i ≡ variant reference v w j
    variant_same i j s = rw (← s.side, s.entry.pos, s.entry.long, s.entry.first, s.entry.second, s.entry.copy0, s.entry.copy1)

    map_same : (is js : List Item) → Beside SameItem is js → map (variant reference t u) is ≡ map (variant reference v w) js
    map_same [] [] b = refl
    map_same [] (j ∷ js) b = absurd b
    map_same (i ∷ is) [] b = absurd b
    map_same (i ∷ is) (j ∷ js) b = ap₂ (λ (x : Variant) (l : List Variant). x ∷ l) (variant_same i j b.0) (map_same is js b.1)

    pub variants_case : merged_variants reference t u ≡ merged_variants reference v w
    variants_case = map_same (merged_items t u) (merged_items v w) items_case

    pub plan_lists : plan_of reference t u ≡ plan_of reference v w
    plan_lists = rw variants_case

    clusters_lists : clusters_of reference t u ≡ clusters_of reference v w
    clusters_lists = rw variants_case

    pub marks_lists : all_marks reference (clusters_of reference t u) ≡ all_marks reference (clusters_of reference v w)
    marks_lists = ap (all_marks reference) clusters_lists

    pub score_lists : total_score reference (clusters_of reference t u) ≡ total_score reference (clusters_of reference v w)
    score_lists = ap (total_score reference) clusters_lists

    pub asked_lists : (k : ℕ) → asked_for reference (clusters_of reference t u) k ≡ asked_for reference (clusters_of reference v w) k
    asked_lists k = ap (λ (cs : List (List Variant)). asked_for reference cs k) clusters_lists

    pub after_lists : (k : ℕ) (marks : List ℕ) → marks_after reference (clusters_of reference t u) k marks ≡ marks_after reference (clusters_of reference v w) k marks
    after_lists k marks = ap (λ (cs : List (List Variant)). marks_after reference cs k marks) clusters_lists
