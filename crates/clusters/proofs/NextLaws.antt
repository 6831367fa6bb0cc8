-- A walk from cluster to cluster over two accepted texts.
--     accepted_ready                what the walk leans on is so at the first records of accepted texts
--     start_fits                    the entries of two texts can be counted in 32 bits
--     left_le, count_le, count_some     a cluster has no more entries than are left, and at least one
--     found_left                    behind it so many fewer are left
--     ready_passed, ready_found     it stays so behind the next entries, and behind the next cluster
--     next_done, next_plan          where no record is left there is no cluster; else there is the next one, and those behind it
--     records_done, records_next    the same of the plan's records
--     walk_none, walk_found         the step of the walk where no record is left, and where one is
--     walk_done                     a step says whether one is left
-- Assumes nothing.
use mathlib.Core.Bool.{Bool, true, false, not}
use mathlib.Core.List.{List, [], ◌∷◌, map}
use mathlib.Core.Path.{◌≡◌, refl, sym, ap, ◌∙◌}
use Prim.Native.Nat.{ℕ, zero, suc, ◌+◌, ◌-◌, ◌≤◌, ◌<◌, ◌^◌}
use native.Mathlib.Omega.{arith}
use lib.ListN.{length, drop, length-drop}
use Rattle.donors.specs.Choice.{Variant, card_rules}
use Rattle.donors.specs.Rules.{Rules}
use Rattle.vcf.specs.Entry.{records_at}
use Rattle.vcf.specs.List.{judge_text}
use Rattle.vcf.proofs.AcceptedLaws.{accepted_records, readable_records}
use Rattle.vcf.proofs.JudgeLaws.{accepted_zero, text_fits}
use Rattle.clusters.specs.declared.cluster.Found.{Found}
use Rattle.clusters.specs.declared.gap.Current.{Current}
use Rattle.clusters.specs.declared.heads.Heads.{Heads}
use Rattle.clusters.specs.declared.plan.Walk.{Walk}
use Rattle.clusters.specs.Gap.{size_of, more, begin, cut?}
use Rattle.clusters.specs.Heads.{ReadyAt, Ready, start_heads, items_from, done?, next_item, moved, passed, variants_from, first_count, found_at}
use Rattle.clusters.specs.Item.{variant}
use Rattle.clusters.specs.Plan.{first_of, plan, records_from, card_plan}
use Rattle.clusters.specs.Walk.{walk_from}
use Rattle.clusters.proofs.CardClusters.{map_length}
use Rattle.clusters.proofs.FirstLaws.{left, first_none, first_cut, first_more, first_plan, plan_step}
use Rattle.clusters.proofs.HeadsLaws.{items_none, items_step, items_few, ready_moved, passed_items}
use Rattle.clusters.proofs.SoundLaws.{entries_sound}
use Rattle.clusters.proofs.WalkLaws.{variants_step, next, behind}

module _ (reference name : List ℕ) where
  ready_start : (t : List ℕ) → (judge_text reference name t).number ≡ 0 → ReadyAt reference t (records_at t)
  ready_start t e =
      let r = accepted_records reference name t e in
      record {
        short = text_fits t (accepted_zero reference name t e).fits;
        readable = readable_records reference name t (records_at t) r;
        sound = entries_sound reference name t (records_at t) r;
      }

  pub accepted_ready : (first second : List ℕ) → (judge_text reference name first).number ≡ 0 → (judge_text reference name second).number ≡ 0
      → Ready reference first second (start_heads first second)
  accepted_ready first second e f = record { ready1 = ready_start first e; ready2 = ready_start second f }

module _ {X C H : Type 0} (𝓡 : Rules X C H) (R : List ℕ) where
  left_le : (c : Current) (xs : List X) → left 𝓡 R c xs ≤ length xs
  left_le c [] = omega (arith, first_none 𝓡 R c)
  left_le c (x ∷ xs) = go (cut? R c (size_of 𝓡 x).start) refl (left_le (more c (size_of 𝓡 x)) xs)
    where
      go : (t : Bool) → cut? R c (size_of 𝓡 x).start ≡ t → left 𝓡 R (more c (size_of 𝓡 x)) xs ≤ length xs → left 𝓡 R c (x ∷ xs) ≤ suc (length xs)
      go true e i = omega (arith, first_cut 𝓡 R c x xs e)
      go false e i = omega (arith, first_more 𝓡 R c x xs e)

drop_map : {X Y : Type 0} (f : X → Y) (n : ℕ) (xs : List X) → drop n (map f xs) ≡ map f (drop n xs)
drop_map f zero xs = refl
drop_map f (suc n) [] = refl
drop_map f (suc n) (x ∷ xs) = drop_map f n xs

module _ (reference first second : List ℕ) where
  pub start_fits : Ready reference first second (start_heads first second) → 0 + length (items_from first second (start_heads first second)) < 2 ^ 32
  start_fits r = omega (arith, items_few first second (start_heads first second), r.ready1.short, r.ready2.short)

  pub ready_passed : (n : ℕ) (h : Heads) → Ready reference first second h → n ≤ length (items_from first second h) → Ready reference first second (passed first second n h)
  unfolding passed
  ready_passed zero h r k = r
  ready_passed (suc n) h r k = go (done? first second h) refl (ready_passed n (moved first second h (next_item first second h).side))
    where
      go : (t : Bool) → done? first second h ≡ t
          → (Ready reference first second (moved first second h (next_item first second h).side) → n ≤ length (items_from first second (moved first second h (next_item first second h).side))
          → Ready reference first second (passed first second n (moved first second h (next_item first second h).side)))
          → Ready reference first second (passed first second n (moved first second h (next_item first second h).side))
      go true e f = absurd (omega (arith, ap length (items_none first second h e)))
      go false e f =
          let s = items_step first second h e in
          f (ready_moved reference first second h r (next_item first second h).side s.inside) (omega (arith, ap length s.split))

  module _ (h : Heads) where
    -- the clusters from the cursors on
    abbrev clusters : List (List Variant)
    clusters = card_plan reference (variants_from reference first second h)

    pub next_done : done? first second h ≡ true → card_plan reference (variants_from reference first second h) ≡ []
    unfolding plan
    next_done e = rw (items_none first second h e)

    pub records_done : (i : ℕ) → done? first second h ≡ true → records_from i (card_plan reference (variants_from reference first second h)) ≡ []
    unfolding records_from
    records_done i e = rw (next_done e)

    pub walk_none : (i : ℕ) → done? first second h ≡ true
        → record { more = false; cluster = record { first = i; count = 0 }; heads = h } ≡ walk_from reference first second i h
    unfolding passed
    walk_none i e = rw (e, next_done e)

    pub walk_found : (i : ℕ) → done? first second h ≡ false → (f : Found) → f ≡ found_at reference first second h
        → record { more = true; cluster = record { first = i; count = f.count }; heads = f.heads } ≡ walk_from reference first second i h
    walk_found i e f k = rw (k, e)

    pub walk_done : (i : ℕ) (w : Walk) → w ≡ walk_from reference first second i h → done? first second h ≡ not w.more
    walk_done i w e = rw e (go (done? first second h))
      where
        go : (t : Bool) → t ≡ not (not t)
        go true = refl
        go false = refl

    module _ (e : done? first second h ≡ false) where
      abbrev x : Variant
      x = variant reference first second (next reference first second h)

      abbrev xs : List Variant
      xs = variants_from reference first second (behind reference first second h)

      count_of : first_count reference first second h ≡ left card_rules reference (begin (size_of card_rules x)) xs + 1
      count_of = rw (variants_step reference first second h e) (first_plan card_rules reference x xs)

      pub count_some : 1 ≤ first_count reference first second h
      count_some = omega (arith, count_of)

      pub count_le : first_count reference first second h ≤ length (items_from first second h)
      count_le =
          omega (
            arith,
            count_of,
            left_le card_rules reference (begin (size_of card_rules x)) xs,
            map_length (variant reference first second) (items_from first second (behind reference first second h)),
            ap length (items_step first second h e).split,
          )

      pub ready_found : Ready reference first second h → Ready reference first second (found_at reference first second h).heads
      ready_found r = ready_passed (first_count reference first second h) h r count_le

      pub found_left : length (items_from first second (found_at reference first second h).heads) ≡ length (items_from first second h) - first_count reference first second h
      found_left =
          ap length (passed_items first second (first_count reference first second h) h count_le)
          ∙ length-drop (first_count reference first second h) (items_from first second h)

      variants_passed : variants_from reference first second (found_at reference first second h).heads ≡ drop (first_count reference first second h) (variants_from reference first second h)
      variants_passed =
          ap (map (variant reference first second)) (passed_items first second (first_count reference first second h) h count_le)
          ∙ sym (drop_map (variant reference first second) (first_count reference first second h) (items_from first second h))

      pub next_plan : card_plan reference (variants_from reference first second h)
          ≡ first_of (card_plan reference (variants_from reference first second h)) ∷ card_plan reference (variants_from reference first second (found_at reference first second h).heads)
      next_plan =
          let s = variants_step reference first second h e in
          rw variants_passed (step (variants_from reference first second h) s)
        where
          step : (ys : List Variant) → ys ≡ x ∷ xs → card_plan reference ys ≡ first_of (card_plan reference ys) ∷ card_plan reference (drop (length (first_of (card_plan reference ys))) ys)
          step ys s = rw s (plan_step card_rules reference x xs)

      pub records_next : (i : ℕ) → records_from i (card_plan reference (variants_from reference first second h))
          ≡ record { first = i; count = first_count reference first second h }
          ∷ records_from (i + first_count reference first second h) (card_plan reference (variants_from reference first second (found_at reference first second h).heads))
      unfolding records_from
      records_next i = ap (records_from i) next_plan
