-- Donors of document 01's examples, as the definitions compute them.
--     example_1     two deletions of one AT at two places give one donor
--     example_9     one change of four bases, and a deletion and an insertion, give one donor
--     example_10    a het entry under `+` and under `-`
-- Assumes nothing.
use mathlib.Core.Bool.{true, false}
use mathlib.Core.List.{List, [], ◌∷◌}
use mathlib.Core.Path.{◌≡◌, refl}
use Prim.Native.Nat.{ℕ}
use Rattle.donors.specs.Choice.{plus, minus, copy0, copy1, Variant, card_rules}
use Rattle.donors.specs.Donor.{donor_from}
use Rattle.donors.specs.Rules.{list1, list2, edits, donor_of}

-- GCATATG; POS 2 CAT to C in list 1, POS 4 TAT to T in list 2: both GCATG.
pub example_1 :
    let R : List ℕ = 71 ∷ 67 ∷ 65 ∷ 84 ∷ 65 ∷ 84 ∷ 71 ∷ [] in
    let x : Variant = record { side = list1; start = 1; len = 3; weight = 1; room0 = true; allele0 = 67 ∷ []; room1 = true; allele1 = 67 ∷ [] } in
    let y : Variant = record { side = list2; start = 3; len = 3; weight = 1; room0 = true; allele0 = 84 ∷ []; room1 = true; allele1 = 84 ∷ [] } in
    (donor_of card_rules R list1 copy0 (x ∷ y ∷ []) (plus ∷ plus ∷ []) ≡ 71 ∷ 67 ∷ 65 ∷ 84 ∷ 71 ∷ [])
    × (donor_of card_rules R list2 copy0 (x ∷ y ∷ []) (plus ∷ plus ∷ []) ≡ 71 ∷ 67 ∷ 65 ∷ 84 ∷ 71 ∷ [])
unfolding donor_from edits
example_1 = (refl, refl)

-- TGCCGT; POS 2 GCCG to CCGA in list 1, POS 1 TG to T and POS 5 G to GA in list 2: both TCCGAT.
pub example_9 :
    let R : List ℕ = 84 ∷ 71 ∷ 67 ∷ 67 ∷ 71 ∷ 84 ∷ [] in
    let x : Variant = record { side = list2; start = 0; len = 2; weight = 1; room0 = true; allele0 = 84 ∷ []; room1 = true; allele1 = 84 ∷ [] } in
    let y : Variant = record { side = list1; start = 1; len = 4; weight = 1; room0 = true; allele0 = 67 ∷ 67 ∷ 71 ∷ 65 ∷ []; room1 = true; allele1 = 67 ∷ 67 ∷ 71 ∷ 65 ∷ [] } in
    let z : Variant = record { side = list2; start = 4; len = 1; weight = 1; room0 = true; allele0 = 71 ∷ 65 ∷ []; room1 = true; allele1 = 71 ∷ 65 ∷ [] } in
    (donor_of card_rules R list1 copy0 (x ∷ y ∷ z ∷ []) (plus ∷ plus ∷ plus ∷ []) ≡ 84 ∷ 67 ∷ 67 ∷ 71 ∷ 65 ∷ 84 ∷ [])
    × (donor_of card_rules R list2 copy0 (x ∷ y ∷ z ∷ []) (plus ∷ plus ∷ plus ∷ []) ≡ 84 ∷ 67 ∷ 67 ∷ 71 ∷ 65 ∷ 84 ∷ [])
unfolding donor_from edits
example_9 = (refl, refl)

-- GAC, POS 2 A to C, 0/1: GCC stands on copy 1 under `+` and on copy 0 under `-`.
pub example_10 :
    let R : List ℕ = 71 ∷ 65 ∷ 67 ∷ [] in
    let x : Variant = record { side = list1; start = 1; len = 1; weight = 1; room0 = false; allele0 = 65 ∷ []; room1 = true; allele1 = 67 ∷ [] } in
    (donor_of card_rules R list1 copy1 (x ∷ []) (plus ∷ []) ≡ 71 ∷ 67 ∷ 67 ∷ []) × (donor_of card_rules R list1 copy0 (x ∷ []) (minus ∷ []) ≡ 71 ∷ 67 ∷ 67 ∷ [])
unfolding donor_from edits
example_10 = (refl, refl)
