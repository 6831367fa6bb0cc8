-- Laws of positions and places.
--     place_of_pos, pos_of_place    the two conversions undo each other
--     below_is, upto_is             `<` and `<=` compare them as their numbers
-- Assumes nothing.
use mathlib.Core.Path.{◌≡◌, ap}
use Prim.Native.Nat.{ℕ, ◌+◌, ◌-◌, ◌≤◌}
use native.Mathlib.Omega.{arith}
use lib.Dec.{ltb, leb}
use Rattle.std.proofs.lemmas.Bool.Decides.{nat_tests}
use Rattle.std.specs.Ordering.{nat_cmp, is_lt, is_le}
use Rattle.bases.specs.declared.place.Pos.{Pos}
use Rattle.bases.specs.declared.place.Place.{Place}
use Rattle.bases.specs.Place.{pos_of, place_of}

pub place_of_pos : (p : Place) → place_of (pos_of p) ≡ p
place_of_pos p = let e : p.0 + 1 - 1 ≡ p.0 = omega arith in ap (λ (n : ℕ). record { 0 = n }) e

pub pos_of_place : (p : Pos) → 1 ≤ p.0 → pos_of (place_of p) ≡ p
pos_of_place p h = let e : p.0 - 1 + 1 ≡ p.0 = omega arith in ap (λ (n : ℕ). record { 0 = n }) e

pub below_is : (a b : ℕ) → is_lt (nat_cmp a b) ≡ ltb a b
below_is a b = grind (arith, nat_tests)

pub upto_is : (a b : ℕ) → is_le (nat_cmp a b) ≡ leb a b
upto_is a b = grind (arith, nat_tests)
