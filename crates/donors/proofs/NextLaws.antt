-- Laws of the next row that takes its span.
--     next_here, next_later, next_past   where a walk looks: at a row that takes its span, at one that does not, and behind the last
--     next_takes                         where there is one it takes its span
--     next_chosen                        and its entry is chosen
-- Assumes nothing.
use mathlib.Core.Bool.{Bool, true, false}
use mathlib.Core.List.{List}
use mathlib.Core.Path.{◌≡◌, refl}
use Prim.Native.Nat.{ℕ, zero, suc, ◌+◌, ◌-◌, ◌≤◌, ◌<◌}
use native.Mathlib.Omega.{arith}
use lib.ListN.{get_or}
use Rattle.bases.specs.Pick.{pick}
use Rattle.donors.specs.declared.table.Row.{Row}
use Rattle.donors.specs.Choice.{Copy, chosen?}
use Rattle.donors.specs.Table.{row_at, choice_of}
use Rattle.donors.specs.Walk.{takes_row?, next_row}
use Rattle.donors.proofs.TableLaws.{taken_chosen}

module _ (t : List Row) (φ : List ℕ) (j : Bool) (h : Copy) where
  pub next_here : (n i : ℕ) → i < n → takes_row? t φ j h i ≡ true → next_row t φ j h i (n - i) ≡ i
  unfolding next_row
  next_here n i l e = let m : n - i ≡ suc (n - (i + 1)) = omega arith in rw (m, e)

  pub next_later : (n i : ℕ) → i < n → takes_row? t φ j h i ≡ false → next_row t φ j h i (n - i) ≡ next_row t φ j h (i + 1) (n - (i + 1))
  unfolding next_row
  next_later n i l e = let m : n - i ≡ suc (n - (i + 1)) = omega arith in rw (m, e)

  pub next_past : (n i : ℕ) → n ≤ i → next_row t φ j h i (n - i) ≡ i
  unfolding next_row
  next_past n i l = let m : n - i ≡ 0 = omega arith in rw m

  next_from : (i m : ℕ) → i ≤ next_row t φ j h i m
  unfolding next_row
  next_from i zero = omega arith
  next_from i (suc m) = go (takes_row? t φ j h i) (next_from (i + 1) m)
    where
      go : (b : Bool) → i + 1 ≤ next_row t φ j h (i + 1) m → i ≤ pick b i (next_row t φ j h (i + 1) m)
      go true l = omega arith
      go false l = omega arith

  takes_within : (i m : ℕ) → next_row t φ j h i m < i + m → takes_row? t φ j h (next_row t φ j h i m) ≡ true
  unfolding next_row
  takes_within i zero l = absurd (omega arith)
  takes_within i (suc m) l = go (takes_row? t φ j h i) refl (takes_within (i + 1) m) l
    where
      go : (b : Bool) → takes_row? t φ j h i ≡ b → (next_row t φ j h (i + 1) m < i + 1 + m → takes_row? t φ j h (next_row t φ j h (i + 1) m) ≡ true)
          → pick b i (next_row t φ j h (i + 1) m) < i + suc m → takes_row? t φ j h (pick b i (next_row t φ j h (i + 1) m)) ≡ true
      go true e f k = e
      go false e f k = f (omega arith)

  pub next_takes : (n i : ℕ) → next_row t φ j h i (n - i) < n → takes_row? t φ j h (next_row t φ j h i (n - i)) ≡ true
  next_takes n i l = takes_within i (n - i) (omega (arith, next_from i (n - i)))

  pub next_chosen : (n i r : ℕ) → r ≡ next_row t φ j h i (n - i) → r < n → chosen? (choice_of (get_or φ r 0)) ≡ true
  next_chosen n i r e l =
      rw e (taken_chosen (row_at t (next_row t φ j h i (n - i))) (choice_of (get_or φ (next_row t φ j h i (n - i)) 0)) j h (next_takes n i (omega arith)))
