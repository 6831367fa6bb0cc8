-- The documents' examples of marks, as card_best computes them: document 01's 1, 6 to 12, and request c's, in one table.
-- Assumes nothing.
use mathlib.Core.Bool.{Bool, not}
use mathlib.Core.List.{List, [], ◌∷◌, ◌++◌}
use mathlib.Core.Path.{◌≡◌, refl}
use Prim.Native.Nat.{ℕ, ◌-◌}
use lib.ListN.{length, replicate}
use Rattle.bases.specs.Same.{agree?, same?}
use Rattle.donors.specs.Apart.{All, chain?}
use Rattle.donors.specs.Choice.{Choice, plus, minus, out, Variant}
use Rattle.donors.specs.Donor.{donor_from}
use Rattle.donors.specs.Rules.{list1, list2, edits}
use Rattle.matching.specs.Best.{score}
use Rattle.matching.specs.BestOf.{every?, allowed?, best_of}
use Rattle.matching.specs.Card.{card_best}
use Rattle.matching.specs.Search.{first?, better, best_over, search}

-- The letters.
abbrev A : ℕ
A = 65

abbrev C : ℕ
C = 67

abbrev G : ℕ
G = 71

abbrev T : ℕ
T = 84

-- An entry by its list, POS, REF and the alleles for copies 0 and 1, each of which takes the span where it is another than REF.
abbrev entry : Bool → ℕ → List ℕ → List ℕ → List ℕ → Variant
entry j pos ref a b = record {
  side = j;
  start = pos - 1;
  len = length ref;
  weight = 1;
  room0 = not (same? a ref);
  allele0 = a;
  room1 = not (same? b ref);
  allele1 = b;
}

-- An entry with one ALT, 1/1.
abbrev hom : Bool → ℕ → List ℕ → List ℕ → Variant
hom j pos ref alt = entry j pos ref alt alt

-- A row: the reference, the entries in merged order, and their marks.
pub record Row : Type 0 where
  pub reference : List ℕ
  pub entries : List Variant
  pub marks : List Choice

abbrev pub table : List Row
table =
    -- 1
    record {
      reference = G ∷ C ∷ A ∷ T ∷ A ∷ T ∷ G ∷ [];
      entries = hom list1 2 (C ∷ A ∷ T ∷ []) (C ∷ []) ∷ hom list2 4 (T ∷ A ∷ T ∷ []) (T ∷ []) ∷ [];
      marks = plus ∷ plus ∷ [];
    }
    -- 6
    ∷ record {
      reference = G ∷ C ∷ A ∷ T ∷ A ∷ T ∷ A ∷ T ∷ A ∷ T ∷ G ∷ [];
      entries = hom list1 2 (C ∷ A ∷ T ∷ []) (C ∷ []) ∷ hom list2 8 (T ∷ A ∷ T ∷ []) (T ∷ []) ∷ [];
      marks = plus ∷ plus ∷ [];
    }
    -- 7
    ∷ record {
      reference = T ∷ A ∷ T ∷ G ∷ C ∷ A ∷ G ∷ T ∷ [];
      entries = hom list1 1 (T ∷ A ∷ T ∷ []) (T ∷ []) ∷ hom list2 7 (G ∷ []) (C ∷ []) ∷ [];
      marks = out ∷ out ∷ [];
    }
    -- 8
    ∷ record {
      reference = T ∷ A ∷ T ∷ G ∷ C ∷ G ∷ T ∷ [];
      entries = hom list1 1 (T ∷ A ∷ T ∷ []) (T ∷ []) ∷ hom list2 6 (G ∷ []) (C ∷ []) ∷ [];
      marks = out ∷ out ∷ [];
    }
    -- 9
    ∷ record {
      reference = T ∷ G ∷ C ∷ C ∷ G ∷ T ∷ [];
      entries =
          hom list2 1 (T ∷ G ∷ []) (T ∷ [])
          ∷ hom list1 2 (G ∷ C ∷ C ∷ G ∷ []) (C ∷ C ∷ G ∷ A ∷ [])
          ∷ hom list2 5 (G ∷ []) (G ∷ A ∷ [])
          ∷ [];
      marks = plus ∷ plus ∷ plus ∷ [];
    }
    -- 10: 0/1 against 1/0, then 0/1 against 1/1
    ∷ record {
      reference = G ∷ A ∷ C ∷ [];
      entries = entry list1 2 (A ∷ []) (A ∷ []) (C ∷ []) ∷ entry list2 2 (A ∷ []) (C ∷ []) (A ∷ []) ∷ [];
      marks = plus ∷ minus ∷ [];
    }
    ∷ record {
      reference = G ∷ A ∷ C ∷ [];
      entries = entry list1 2 (A ∷ []) (A ∷ []) (C ∷ []) ∷ hom list2 2 (A ∷ []) (C ∷ []) ∷ [];
      marks = out ∷ out ∷ [];
    }
    -- 11
    ∷ record {
      reference = G ∷ A ∷ A ∷ C ∷ [];
      entries = hom list1 1 (G ∷ []) (G ∷ A ∷ []) ∷ hom list1 2 (A ∷ A ∷ []) (A ∷ []) ∷ [];
      marks = plus ∷ plus ∷ [];
    }
    -- 12, six and six
    ∷ record {
      reference = G ∷ A ∷ C ∷ [];
      entries = replicate 6 (hom list1 2 (A ∷ []) (C ∷ [])) ++ replicate 6 (hom list2 2 (A ∷ []) (C ∷ []));
      marks = (plus ∷ replicate 5 out) ++ (plus ∷ replicate 5 out);
    }
    -- c: a deletion 0/1 and a SNV under it 1/0, against one entry 1/2 that spells both
    ∷ record {
      reference = G ∷ A ∷ C ∷ T ∷ C ∷ [];
      entries =
          entry list1 2 (A ∷ C ∷ T ∷ []) (A ∷ C ∷ T ∷ []) (A ∷ [])
          ∷ entry list2 2 (A ∷ C ∷ T ∷ []) (A ∷ G ∷ T ∷ []) (A ∷ [])
          ∷ entry list1 3 (C ∷ []) (G ∷ []) (C ∷ [])
          ∷ [];
      marks = plus ∷ plus ∷ plus ∷ [];
    }
    -- c: two het duplicates, against one homozygous entry and against one het entry
    ∷ record {
      reference = G ∷ A ∷ C ∷ [];
      entries = replicate 2 (entry list1 2 (A ∷ []) (A ∷ []) (C ∷ [])) ++ (hom list2 2 (A ∷ []) (C ∷ []) ∷ []);
      marks = plus ∷ minus ∷ plus ∷ [];
    }
    ∷ record {
      reference = G ∷ A ∷ C ∷ [];
      entries = replicate 2 (entry list1 2 (A ∷ []) (A ∷ []) (C ∷ [])) ++ (entry list2 2 (A ∷ []) (A ∷ []) (C ∷ []) ∷ []);
      marks = plus ∷ out ∷ plus ∷ [];
    }
    ∷ []

pub examples : All (λ (r : Row). card_best r.reference r.entries ≡ r.marks) table
unfolding agree? chain? donor_from edits score every? allowed? best_of first? better best_over search
examples = (refl, (refl, (refl, (refl, (refl, (refl, (refl, (refl, (refl, (refl, (refl, (refl, tt))))))))))))
