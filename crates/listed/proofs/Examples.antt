-- Document 01's examples of clusters, as the plan computes them: 1, 6, 7 and 8, in one table; and the records of five entries.
-- Assumes nothing.
use mathlib.Core.Bool.{Bool, true}
use mathlib.Core.List.{List, [], ◌∷◌}
use mathlib.Core.Path.{◌≡◌, refl}
use Prim.Native.Nat.{ℕ, ◌+◌}
use lib.ListN.{length}
use Rattle.bases.specs.Place.{place_of}
use Rattle.bases.specs.Letter.{letter_among, letter_of}
use Rattle.bases.specs.Period.{any_period?}
use Rattle.bases.specs.Same.{agree?}
use Rattle.donors.specs.Apart.{All}
use Rattle.donors.specs.Choice.{Variant}
use Rattle.donors.specs.Rules.{list1, list2}
use Rattle.vcf.specs.Entry.{entry_of}
use Rattle.clusters.specs.declared.item.Item.{Item}
use Rattle.clusters.specs.declared.plan.Cluster.{Cluster}
use Rattle.listed.specs.Listed.{numbers_from, listed_from}
use Rattle.clusters.specs.Plan.{rest, plan, records_from, card_plan}
use Rattle.clusters.specs.Merged.{weave, merged, item_of}

-- The letters.
abbrev A : ℕ
A = 65

abbrev C : ℕ
C = 67

abbrev G : ℕ
G = 71

abbrev T : ℕ
T = 84

-- An entry with one ALT, 1/1.
abbrev hom : Bool → ℕ → List ℕ → List ℕ → Variant
hom j pos ref alt = record { side = j; start = (place_of (record { 0 = pos })).0; len = length ref; weight = 1; room0 = true; allele0 = alt; room1 = true; allele1 = alt }

-- A row: the reference, the entries of the two lists, and the plan.
pub record Row : Type 0 where
  pub reference : List ℕ
  pub first : List Variant
  pub second : List Variant
  pub plan : List Cluster

abbrev pub table : List Row
table =
    -- 1
    record {
      reference = G ∷ C ∷ A ∷ T ∷ A ∷ T ∷ G ∷ [];
      first = hom list1 2 (C ∷ A ∷ T ∷ []) (C ∷ []) ∷ [];
      second = hom list2 4 (T ∷ A ∷ T ∷ []) (T ∷ []) ∷ [];
      plan = record { first = 0; count = 2 } ∷ [];
    }
    -- 6
    ∷ record {
      reference = G ∷ C ∷ A ∷ T ∷ A ∷ T ∷ A ∷ T ∷ A ∷ T ∷ G ∷ [];
      first = hom list1 2 (C ∷ A ∷ T ∷ []) (C ∷ []) ∷ [];
      second = hom list2 8 (T ∷ A ∷ T ∷ []) (T ∷ []) ∷ [];
      plan = record { first = 0; count = 2 } ∷ [];
    }
    -- 7
    ∷ record {
      reference = T ∷ A ∷ T ∷ G ∷ C ∷ A ∷ G ∷ T ∷ [];
      first = hom list1 1 (T ∷ A ∷ T ∷ []) (T ∷ []) ∷ [];
      second = hom list2 7 (G ∷ []) (C ∷ []) ∷ [];
      plan = record { first = 0; count = 1 } ∷ record { first = 1; count = 1 } ∷ [];
    }
    -- 8
    ∷ record {
      reference = T ∷ A ∷ T ∷ G ∷ C ∷ G ∷ T ∷ [];
      first = hom list1 1 (T ∷ A ∷ T ∷ []) (T ∷ []) ∷ [];
      second = hom list2 6 (G ∷ []) (C ∷ []) ∷ [];
      plan = record { first = 0; count = 2 } ∷ [];
    }
    ∷ []

pub examples : All (λ (r : Row). records_from 0 (card_plan r.reference (merged (λ (x : Variant). x.start) r.first r.second)) ≡ r.plan) table
unfolding letter_among letter_of any_period? agree? weave merged rest plan records_from
examples = (refl, (refl, (refl, (refl, tt))))

-- An entry, whose own numbers do not matter here, of each list.
abbrev one : Item
one = item_of list1 (entry_of [] 0)

abbrev two : Item
two = item_of list2 (entry_of [] 0)

-- Five entries in merged order, the last two a cluster of their own. Two lines stand above the records of list 1, four above those of list 2.
pub five_listed : listed_from (record { first = record { entry = 0; line = 2 + 1 }; second = record { entry = 0; line = 4 + 1 } })
    (numbers_from 0 (record { first = 0; count = 3 } ∷ record { first = 3; count = 2 } ∷ [])) (one ∷ two ∷ two ∷ one ∷ two ∷ [])
    ≡ record { list = 1; entry = 0; line = 3; cluster = 0 }
    ∷ record { list = 2; entry = 0; line = 5; cluster = 0 }
    ∷ record { list = 2; entry = 1; line = 6; cluster = 0 }
    ∷ record { list = 1; entry = 1; line = 4; cluster = 1 }
    ∷ record { list = 2; entry = 2; line = 7; cluster = 1 }
    ∷ []
unfolding listed_from numbers_from
five_listed = refl
