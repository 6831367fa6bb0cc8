-- Laws of the plan in lent records.
--     plan_few                           no more clusters than entries
--     same_cluster, is_plan              the tests in words: the same record; the first records given, as many as there are clusters, are
--                                        the plan
--     judged_all, judged_same, judged_other
--                                        the records that are left, judged by the records given that are left: none is left; the same
--                                        record is next, or another
-- Assumes nothing.
use mathlib.Core.Bool.{Bool, true, false}
use mathlib.Core.List.{List, [], ◌∷◌}
use mathlib.Core.Logic.{◌↔◌}
use mathlib.Core.Path.{◌≡◌, refl, sym, ap, ap₂}
use Prim.Native.Nat.{ℕ, suc, ◌≤◌}
use native.Mathlib.Omega.{arith}
use lib.Dec.{T, eqb, eqb→eq, eqb_refl}
use lib.ListN.{length, get_or, take, drop}
use Rattle.bases.proofs.TestLaws.{both}
use Rattle.donors.specs.Choice.{card_rules}
use Rattle.donors.specs.Rules.{Rules}
use Rattle.clusters.specs.declared.gap.Current.{Current}
use Rattle.clusters.specs.declared.plan.Cluster.{Cluster}
use Rattle.clusters.specs.Gap.{size_of, more, begin, cut?}
use Rattle.clusters.specs.Item.{variant}
use Rattle.clusters.specs.Lent.{same_cluster?, is_plan?}
use Rattle.clusters.specs.Merged.{merged_items, merged_variants}
use Rattle.clusters.specs.Plan.{onto, rest, plan, card_plan, plan_of}
use Rattle.clusters.proofs.CardClusters.{map_length}
use Rattle.clusters.proofs.FirstLaws.{records_length}
use Rattle.clusters.proofs.PlanLaws.{rest_none, rest_cut, rest_more}

module _ {X C H : Type 0} (𝓡 : Rules X C H) (R : List ℕ) where
  onto_few : (c : List X) (cs : List (List X)) (n : ℕ) → length cs ≤ suc n → length (onto c cs) ≤ suc n
  onto_few c [] n h = omega arith
  onto_few c (d ∷ ds) n h = h

  rest_few : (c : Current) (xs : List X) → length (rest 𝓡 R c xs) ≤ suc (length xs)
  rest_few c [] = omega (arith, ap length (rest_none 𝓡 R c))
  rest_few c (x ∷ xs) = go (cut? R c (size_of 𝓡 x).start) refl (rest_few (begin (size_of 𝓡 x)) xs) (rest_few (more c (size_of 𝓡 x)) xs)
    where
      go : (t : Bool) → cut? R c (size_of 𝓡 x).start ≡ t → length (rest 𝓡 R (begin (size_of 𝓡 x)) xs) ≤ suc (length xs)
          → length (rest 𝓡 R (more c (size_of 𝓡 x)) xs) ≤ suc (length xs) → length (rest 𝓡 R c (x ∷ xs)) ≤ suc (suc (length xs))
      go true e i j =
          omega (arith, ap length (rest_cut 𝓡 R c x xs e), onto_few (x ∷ []) (rest 𝓡 R (begin (size_of 𝓡 x)) xs) (length xs) i)
      go false e i j =
          omega (arith, ap length (rest_more 𝓡 R c x xs e), onto_few (x ∷ []) (rest 𝓡 R (more c (size_of 𝓡 x)) xs) (length xs) j)

  items_few : (xs : List X) → length (plan 𝓡 R xs) ≤ length xs
  unfolding plan
  items_few [] = omega arith
  items_few (x ∷ xs) = onto_few (x ∷ []) (rest 𝓡 R (begin (size_of 𝓡 x)) xs) (length xs) (rest_few (begin (size_of 𝓡 x)) xs)

pub plan_few : (reference first second : List ℕ) → length (plan_of reference first second) ≤ length (merged_items first second)
plan_few reference first second =
    let xs = merged_variants reference first second in
    omega (
      arith,
      records_length 0 (card_plan reference xs),
      items_few card_rules reference xs,
      map_length (variant reference first second) (merged_items first second),
    )

pub same_cluster : (c d : Cluster) → T (same_cluster? c d) ↔ (c ≡ d)
same_cluster c d = (
  λ h. equal ((both (eqb c.first d.first) (eqb c.count d.count)).0 h),
  λ e. rw e
      ((both (eqb d.first d.first) (eqb d.count d.count)).1 (eqb_refl d.first, eqb_refl d.count)),
)
  where
    equal : T (eqb c.first d.first) × T (eqb c.count d.count) → c ≡ d
    equal h = ap₂ (λ (f n : ℕ). record { first = f; count = n }) (eqb→eq c.first d.first h.0) (eqb→eq c.count d.count h.1)

pub is_plan : (p given : List Cluster) → T (is_plan? p given) ↔ (take (length p) given ≡ p)
unfolding is_plan?
is_plan [] given = (λ h. refl, λ e. tt)
is_plan (c ∷ cs) [] = (λ h. absurd h, λ e. absurd (omega (arith, ap length e)))
is_plan (c ∷ cs) (d ∷ given) =
    let t = both (same_cluster? c d) (is_plan? cs given) in
    let s = same_cluster c d in
    let i = is_plan cs given in (
      λ h. ap₂ (λ (x : Cluster) (xs : List Cluster). x ∷ xs) (sym (s.0 (t.0 h).0)) (i.0 (t.0 h).1),
      λ e. t.1 (s.1 (sym (ap (λ (l : List Cluster). get_or l 0 d) e)), i.1 (ap (drop 1) e)),
    )

-- The records that are left, judged by the records given that are left.
pub judged_all : {left : List Cluster} (given : List Cluster) → left ≡ [] → is_plan? left given ≡ true
unfolding is_plan?
judged_all given e = rw e

module _ {left given cs ds : List Cluster} {c d : Cluster} (e : left ≡ c ∷ cs) (f : given ≡ d ∷ ds) where
  pub judged_same : same_cluster? c d ≡ true → is_plan? left given ≡ is_plan? cs ds
  unfolding is_plan?
  judged_same h = rw (e, f, h)

  pub judged_other : same_cluster? c d ≡ false → is_plan? left given ≡ false
  unfolding is_plan?
  judged_other h = rw (e, f, h)
