-- Where items may be taken apart, and what it is for strings to be best in each of several clusters.
-- Assumes nothing: these are definitions.
use Rattle.std.specs.Prelude.{List, [], ◌∷◌, ◌++◌, ℕ, ◌≤◌, length, take, drop}
use Rattle.bases.specs.Period.{NoPeriod}
use Rattle.donors.specs.Donor.{part}
use Rattle.donors.specs.Items.{Ends, Starts, reach}
use Rattle.donors.specs.Rules.{Rules}
use Rattle.matching.specs.Best.{Scoring, IsBest}

-- The lists one behind the other.
unfoldable pub join {ℓ} : {A : Type ℓ} → List (List A) → List A
join [] = []
join (c ∷ cs) = c ++ join cs

module _ {X C H : Type 0} (𝓡 : Rules X C H) (R : List ℕ) where
  -- A cut between xs and ys: those of xs end by b, those of ys start from p on, and the gap from b to p has no period q with 1 ≤ q ≤ g.
  pub record Cut (xs ys : List X) : Type 0 where
    pub b : ℕ
    pub p : ℕ
    pub ends : Ends 𝓡 b xs
    pub starts : Starts 𝓡 p ys
    pub order : b ≤ p
    pub inside : p ≤ length R
    pub gap : NoPeriod (reach 𝓡 xs) (part R b p)

  -- Behind a cluster comes nothing, or a cut.
  abbrev pub After : List X → List X → Type 0
  After c [] = Unit {0}
  After c (y ∷ ys) = Cut c (y ∷ ys)

  -- Each cluster is cut from all that come behind it.
  abbrev pub Cuts : List (List X) → Type 0
  Cuts [] = Unit {0}
  Cuts (c ∷ cs) = After c (join cs) × Cuts cs

  -- There are as many strings as clusters, and each is the best of its cluster.
  abbrev pub EachBest : Scoring X C → List (List X) → List (List C) → Type 0
  EachBest 𝓢 [] [] = Unit {0}
  EachBest 𝓢 [] (φ ∷ φs) = ⊥
  EachBest 𝓢 (c ∷ cs) [] = ⊥
  EachBest 𝓢 (c ∷ cs) (φ ∷ φs) = IsBest 𝓡 𝓢 R c φ × EachBest 𝓢 cs φs

-- A string of choices for all items, as one string a cluster.
unfoldable pub chop : {X C : Type 0} → List (List X) → List C → List (List C)
chop [] φ = []
chop (c ∷ cs) φ = take (length c) φ ∷ chop cs (drop (length c) φ)
