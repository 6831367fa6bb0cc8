-- The clusters that the gap rule cuts, and the plan: one record a cluster, its first entry in merged order and its number of entries.
-- Assumes nothing: these are definitions.
use Rattle.std.specs.Prelude.{cond, List, [], ◌∷◌, ◌++◌, ℕ, ◌+◌, length}
use Rattle.donors.specs.Choice.{Variant, card_rules}
use Rattle.donors.specs.Rules.{Rules}
use Rattle.clusters.specs.declared.gap.Current.{Current}
use Rattle.clusters.specs.declared.plan.Cluster.{Cluster}
use Rattle.clusters.specs.Gap.{size_of, more, begin, cut?}
use Rattle.clusters.specs.Merged.{merged_variants}

-- Items in front of the first of some clusters.
abbrev pub onto {ℓ} : {A : Type ℓ} → List A → List (List A) → List (List A)
onto c [] = c ∷ []
onto c (d ∷ ds) = (c ++ d) ∷ ds

-- The first cluster.
abbrev pub first_of {ℓ} : {A : Type ℓ} → List (List A) → List A
first_of [] = []
first_of (c ∷ cs) = c

module _ {X C H : Type 0} (𝓡 : Rules X C H) (R : List ℕ) where
  -- What of the items is still of the current cluster, and the clusters behind it.
  unfoldable pub rest : Current → List X → List (List X)
  rest c [] = [] ∷ []
  rest c (x ∷ xs) =
      let z = size_of 𝓡 x in
      let apart = [] ∷ onto (x ∷ []) (rest (begin z) xs) in
      let along = onto (x ∷ []) (rest (more c z) xs) in
      cond (cut? R c z.start) apart along

  -- The clusters of items in merged order.
  unfoldable pub plan : List X → List (List X)
  plan [] = []
  plan (x ∷ xs) = onto (x ∷ []) (rest (begin (size_of 𝓡 x)) xs)

-- The records of clusters, the first of which begins with entry i.
unfoldable pub records_from {ℓ} : {A : Type ℓ} → ℕ → List (List A) → List Cluster
records_from i [] = []
records_from i (c ∷ cs) = record { first = i; count = length c } ∷ records_from (i + length c) cs

-- The card's clusters of entries on a reference.
abbrev pub card_plan : List ℕ → List Variant → List (List Variant)
card_plan reference xs = plan card_rules reference xs

-- The plan of two lists.
abbrev pub plan_of : List ℕ → List ℕ → List ℕ → List Cluster
plan_of reference first second = records_from 0 (card_plan reference (merged_variants reference first second))
