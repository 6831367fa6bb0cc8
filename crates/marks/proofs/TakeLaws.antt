-- Laws of the first elements of a list.
--     take_map, all_take     of a list made element by element; what is so of each element
--     take_step              the first of them, and those behind it
-- Assumes nothing.
use mathlib.Core.List.{List, [], ◌∷◌, map}
use mathlib.Core.Path.{◌≡◌, refl, ap}
use Prim.Native.Nat.{ℕ, zero, suc, ◌+◌}
use native.Mathlib.Omega.{arith}
use lib.ListN.{take}
use Rattle.donors.specs.Apart.{All}

pub take_map : {X Y : Type 0} (f : X → Y) (n : ℕ) (xs : List X) → take n (map f xs) ≡ map f (take n xs)
take_map f zero xs = refl
take_map f (suc n) [] = refl
take_map f (suc n) (x ∷ xs) = ap (λ (ys : List _). f x ∷ ys) (take_map f n xs)

module _ {X : Type 0} (P : X → Type 0) where
  pub all_take : (n : ℕ) (xs : List X) → All P xs → All P (take n xs)
  all_take zero xs a = tt
  all_take (suc n) [] a = tt
  all_take (suc n) (x ∷ xs) a = (a.0, all_take n xs a.1)

pub take_step : {X : Type 0} (n m : ℕ) {xs ys : List X} {x : X} → xs ≡ x ∷ ys → m + 1 ≡ n → take n xs ≡ x ∷ take m ys
take_step n m e f = let g : n ≡ suc m = omega arith in rw (g, e)
