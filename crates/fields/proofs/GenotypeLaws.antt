-- Laws of the genotype.
--     copies_long, copies_first, copies_between, copies_separator, copies_last
--                                                             it is wrong by its length, or by the first of its bytes that is wrong
-- Assumes nothing.
use mathlib.Core.Bool.{Bool, true, false, not, ◌&&◌, ◌||◌}
use mathlib.Core.List.{List}
use mathlib.Core.Path.{◌≡◌, refl, sym}
use Prim.Native.Nat.{ℕ}
use lib.Dec.{eqb}
use lib.ListN.{length, get_or}
use borrow.Author.Tests.{eq-eqb, ne_eqb, not-true, not-false}
use Rattle.fields.specs.Genotype.{digit_to?, copies_wrong?}

-- The byte is no separator, as the code asks it.
abbrev pub neither? : ℕ → Bool
neither? b = not (eqb b 47) && not (eqb b 124)

neither : (s t : Bool) → not s && not t ≡ true → s || t ≡ false
neither true t e = sym e
neither false t e = not-true t e

one : (s t : Bool) → not s && not t ≡ false → s || t ≡ true
one true t e = refl
one false t e = not-false t e

module _ (n : ℕ) (g : List ℕ) where
  pub copies_long : (length g ≡ 3 → ⊥) → copies_wrong? n g ≡ true
  unfolding copies_wrong?
  copies_long h = rw (ne_eqb (length g) 3 h)

  pub copies_first : length g ≡ 3 → digit_to? n (get_or g 0 0) ≡ false → copies_wrong? n g ≡ true
  unfolding copies_wrong?
  copies_first h d = rw (eq-eqb (length g) 3 h, d)

  pub copies_between : length g ≡ 3 → digit_to? n (get_or g 0 0) ≡ true → neither? (get_or g 1 0) ≡ true → copies_wrong? n g ≡ true
  unfolding copies_wrong?
  copies_between h d s = rw (eq-eqb (length g) 3 h, d, neither (eqb (get_or g 1 0) 47) (eqb (get_or g 1 0) 124) s)

  -- whatever the first byte is
  pub copies_separator : length g ≡ 3 → neither? (get_or g 1 0) ≡ true → copies_wrong? n g ≡ true
  copies_separator h s = go (digit_to? n (get_or g 0 0)) refl
    where
      go : (t : Bool) → digit_to? n (get_or g 0 0) ≡ t → copies_wrong? n g ≡ true
      go true d = copies_between h d s
      go false d = copies_first h d

  pub copies_last : length g ≡ 3 → digit_to? n (get_or g 0 0) ≡ true → neither? (get_or g 1 0) ≡ false → copies_wrong? n g ≡ not (digit_to? n (get_or g 2 0))
  unfolding copies_wrong?
  copies_last h d s = rw (eq-eqb (length g) 3 h, d, one (eqb (get_or g 1 0) 47) (eqb (get_or g 1 0) 124) s)
