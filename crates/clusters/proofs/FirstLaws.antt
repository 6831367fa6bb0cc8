-- Laws of the first cluster of a plan, and of the plan's records.
--     first_none, first_cut, first_more      how many items more the current cluster has
--     first_plan                             how many items the first cluster has
--     first_take                             it is that many of the first items
--     rest_step, plan_step                   behind the first cluster the plan goes on as if it began there
--     plan_some                              no cluster is empty
--     Consecutive, records_consecutive       each record's first entry is the one behind the cluster before, the first record's is i
--     total, records_total, records_some, records_length
--                                            the counts sum to the number of items, each is at least 1, and there is one record a cluster
-- Assumes nothing.
use mathlib.Core.Bool.{Bool, true, false}
use mathlib.Core.List.{List, [], ◌∷◌, ◌++◌}
use mathlib.Core.Path.{◌≡◌, refl, sym, ap}
use Prim.Native.Nat.{ℕ, suc, ◌+◌, ◌≤◌}
use native.Mathlib.Numerals.{add-one}
use native.Mathlib.Omega.{arith}
use lib.ListN.{length, take, drop, length-append}
use Rattle.donors.specs.Apart.{All}
use Rattle.donors.specs.Rules.{Rules}
use Rattle.matching.specs.Cut.{join}
use Rattle.clusters.specs.declared.gap.Current.{Current}
use Rattle.clusters.specs.Gap.{size_of, more, begin, cut?}
use Rattle.clusters.specs.declared.plan.Cluster.{Cluster}
use Rattle.clusters.specs.Plan.{onto, first_of, rest, plan, records_from}
use Rattle.clusters.proofs.PlanLaws.{onto_onto, rest_none, rest_cut, rest_more}

first_onto : {X : Type 0} (x : X) (cs : List (List X)) → first_of (onto (x ∷ []) cs) ≡ x ∷ first_of cs
first_onto x [] = refl
first_onto x (c ∷ cs) = refl

-- A cluster with an item.
abbrev pub Some : {X : Type 0} → List X → Type 0
Some c = 1 ≤ length c

module _ {X C H : Type 0} (𝓡 : Rules X C H) (R : List ℕ) where
  -- How many of the items are still of the current cluster.
  abbrev pub left : Current → List X → ℕ
  left c xs = length (first_of (rest 𝓡 R c xs))

  pub first_none : (c : Current) → left c [] ≡ 0
  first_none c = rw (rest_none 𝓡 R c)

  pub first_cut : (c : Current) (x : X) (xs : List X) → cut? R c (size_of 𝓡 x).start ≡ true → left c (x ∷ xs) ≡ 0
  first_cut c x xs e = rw (rest_cut 𝓡 R c x xs e)

  pub first_more : (c : Current) (x : X) (xs : List X) → cut? R c (size_of 𝓡 x).start ≡ false → left c (x ∷ xs) ≡ left (more c (size_of 𝓡 x)) xs + 1
  first_more c x xs e =
      rw (rest_more 𝓡 R c x xs e, first_onto x (rest 𝓡 R (more c (size_of 𝓡 x)) xs)) (sym (add-one (left (more c (size_of 𝓡 x)) xs)))

  pub first_plan : (x : X) (xs : List X) → length (first_of (plan 𝓡 R (x ∷ xs))) ≡ left (begin (size_of 𝓡 x)) xs + 1
  unfolding plan
  first_plan x xs = rw (first_onto x (rest 𝓡 R (begin (size_of 𝓡 x)) xs)) (sym (add-one (left (begin (size_of 𝓡 x)) xs)))

  first_rest : (c : Current) (xs : List X) → first_of (rest 𝓡 R c xs) ≡ take (left c xs) xs
  first_rest c [] = rw (rest_none 𝓡 R c)
  first_rest c (x ∷ xs) = go (cut? R c (size_of 𝓡 x).start) refl (first_rest (more c (size_of 𝓡 x)) xs)
    where
      go : (t : Bool) → cut? R c (size_of 𝓡 x).start ≡ t → first_of (rest 𝓡 R (more c (size_of 𝓡 x)) xs) ≡ take (left (more c (size_of 𝓡 x)) xs) xs
          → first_of (rest 𝓡 R c (x ∷ xs)) ≡ take (left c (x ∷ xs)) (x ∷ xs)
      go true e i = rw (rest_cut 𝓡 R c x xs e)
      go false e i = rw (rest_more 𝓡 R c x xs e, first_onto x (rest 𝓡 R (more c (size_of 𝓡 x)) xs)) (ap (λ (ys : List X). x ∷ ys) i)

  pub first_take : (xs : List X) → first_of (plan 𝓡 R xs) ≡ take (length (first_of (plan 𝓡 R xs))) xs
  unfolding plan
  first_take [] = refl
  first_take (x ∷ xs) = rw (first_onto x (rest 𝓡 R (begin (size_of 𝓡 x)) xs)) (ap (λ (ys : List X). x ∷ ys) (first_rest (begin (size_of 𝓡 x)) xs))

  rest_step : (c : Current) (xs : List X) → rest 𝓡 R c xs ≡ first_of (rest 𝓡 R c xs) ∷ plan 𝓡 R (drop (left c xs) xs)
  unfolding plan
  rest_step c [] = rw (rest_none 𝓡 R c)
  rest_step c (x ∷ xs) = go (cut? R c (size_of 𝓡 x).start) refl (rest_step (more c (size_of 𝓡 x)) xs)
    where
      Step : Current → List X → Type 0
      Step d ys = rest 𝓡 R d ys ≡ first_of (rest 𝓡 R d ys) ∷ plan 𝓡 R (drop (left d ys) ys)

      go : (t : Bool) → cut? R c (size_of 𝓡 x).start ≡ t → Step (more c (size_of 𝓡 x)) xs → Step c (x ∷ xs)
      go true e i = rw (rest_cut 𝓡 R c x xs e)
      go false e i =
          rw (rest_more 𝓡 R c x xs e, first_onto x (rest 𝓡 R (more c (size_of 𝓡 x)) xs)) (ap (onto (x ∷ [])) i)

  pub plan_step : (x : X) (xs : List X) → let n = length (first_of (plan 𝓡 R (x ∷ xs))) in plan 𝓡 R (x ∷ xs) ≡ first_of (plan 𝓡 R (x ∷ xs)) ∷ plan 𝓡 R (drop n (x ∷ xs))
  unfolding plan
  plan_step x xs =
      rw (first_onto x (rest 𝓡 R (begin (size_of 𝓡 x)) xs)) (ap (onto (x ∷ [])) (rest_step (begin (size_of 𝓡 x)) xs))

  rest_some : (c : Current) (d : List X) (xs : List X) → Some d → All Some (onto d (rest 𝓡 R c xs))
  rest_some c d [] s = rw (rest_none 𝓡 R c) (omega (arith, length-append d []), tt)
  rest_some c d (x ∷ xs) s =
      go (cut? R c (size_of 𝓡 x).start) refl (rest_some (begin (size_of 𝓡 x)) (x ∷ []) xs (omega arith))
      (rest_some (more c (size_of 𝓡 x)) (d ++ (x ∷ [])) xs (omega (arith, length-append d (x ∷ []))))
    where
      go : (t : Bool) → cut? R c (size_of 𝓡 x).start ≡ t → All Some (onto (x ∷ []) (rest 𝓡 R (begin (size_of 𝓡 x)) xs))
          → All Some (onto (d ++ (x ∷ [])) (rest 𝓡 R (more c (size_of 𝓡 x)) xs)) → All Some (onto d (rest 𝓡 R c (x ∷ xs)))
      go true e i j = rw (rest_cut 𝓡 R c x xs e) (omega (arith, length-append d []), i)
      go false e i j = rw (rest_more 𝓡 R c x xs e, onto_onto d (x ∷ [])) j

  pub plan_some : (xs : List X) → All Some (plan 𝓡 R xs)
  unfolding plan
  plan_some [] = tt
  plan_some (x ∷ xs) = rest_some (begin (size_of 𝓡 x)) (x ∷ []) xs (omega arith)

-- The clusters follow one another from entry i on.
abbrev pub Consecutive : ℕ → List Cluster → Type 0
Consecutive i [] = Unit {0}
Consecutive i (r ∷ rs) = (r.first ≡ i) × Consecutive (i + r.count) rs

-- The counts' sum.
unfoldable pub total : List Cluster → ℕ
total [] = 0
total (r ∷ rs) = r.count + total rs

pub records_consecutive : {X : Type 0} (i : ℕ) (cs : List (List X)) → Consecutive i (records_from i cs)
unfolding records_from
records_consecutive i [] = tt
records_consecutive i (c ∷ cs) = (refl, records_consecutive (i + length c) cs)

pub records_total : {X : Type 0} (i : ℕ) (cs : List (List X)) → total (records_from i cs) ≡ length (join cs)
unfolding records_from total join
records_total i [] = refl
records_total i (c ∷ cs) = omega (arith, length-append c (join cs), records_total (i + length c) cs)

pub records_some : {X : Type 0} (i : ℕ) (cs : List (List X)) → All Some cs → All (λ (r : Cluster). 1 ≤ r.count) (records_from i cs)
unfolding records_from
records_some i [] s = tt
records_some i (c ∷ cs) s = (s.0, records_some (i + length c) cs s.1)

pub records_length : {X : Type 0} (i : ℕ) (cs : List (List X)) → length (records_from i cs) ≡ length cs
unfolding records_from
records_length i [] = refl
records_length i (c ∷ cs) = ap suc (records_length (i + length c) cs)
