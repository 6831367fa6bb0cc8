-- Laws of stretches that are compared.
--     slice_bases, slice_length     the bases of a part of a slice, and how many
--     stretch_slices    parts of two slices agree as the stretches do
--     stretch_length    how long a stretch is that lies within
--     stretch_all       a stretch of all
--     stretch_same      a stretch as long as a text agrees with it exactly if they are equal
--     agree_self        every list agrees with itself
--     agree_turned      two lists agree either way round
-- Assumes nothing.
use mathlib.Core.Bool.{Bool, true, false, ◌&&◌}
use mathlib.Core.List.{List, [], ◌∷◌}
use mathlib.Core.Path.{◌≡◌, refl, sym, ap₂, ◌∙◌}
use Prim.Native.Nat.{ℕ, ◌+◌, ◌-◌, ◌≤◌}
use native.Mathlib.Omega.{arith}
use borrow.Author.Tests.{eq-eqb, ne_eqb}
use lib.Dec.{eqb, eqb→eq}
use lib.ListN.{length, take, drop, length-drop}
use lib.Seq.{length-take-le, take_all}
use Rattle.bases.specs.Letter.{bases_of}
use Rattle.bases.specs.Same.{agree?, same?}
use Rattle.bases.specs.Stretch.{stretch}
use Rattle.bases.proofs.LetterLaws.{bases_part}
use Rattle.bases.proofs.TestLaws.{of_true, of_false}

pub slice_bases : (s : List ℕ) (a n : ℕ) → bases_of (take (a + n - a) (drop a s)) ≡ stretch (bases_of s) a n
slice_bases s a n = let e : a + n - a ≡ n = omega arith in rw e (bases_part s a n)

pub slice_length : (s : List ℕ) (a n : ℕ) → a + n ≤ length s → length (take (a + n - a) (drop a s)) ≡ n
slice_length s a n h = length-take-le (a + n - a) (drop a s) (rw length-drop (omega arith)) ∙ omega arith

pub stretch_slices : (s u : List ℕ) (a b n : ℕ)
    → agree? (bases_of (take (a + n - a) (drop a s))) (bases_of (take (b + n - b) (drop b u))) ≡ agree? (stretch (bases_of s) a n) (stretch (bases_of u) b n)
stretch_slices s u a b n = ap₂ agree? (slice_bases s a n) (slice_bases u b n)

pub agree_self : (x : List ℕ) → agree? x x ≡ true
unfolding agree?
agree_self [] = refl
agree_self (a ∷ x) = rw (eq-eqb a a refl) (agree_self x)

eqb_turned : (a b : ℕ) → eqb a b ≡ eqb b a
eqb_turned a b = go (eqb a b) refl
  where
    go : (t : Bool) → eqb a b ≡ t → t ≡ eqb b a
    go true e = sym (eq-eqb b a (sym (eqb→eq a b (of_true e))))
    go false e = sym (ne_eqb b a (λ f. of_false e (of_true (eq-eqb a b (sym f)))))

pub agree_turned : (x y : List ℕ) → agree? x y ≡ agree? y x
unfolding agree?
agree_turned [] [] = refl
agree_turned [] (b ∷ y) = refl
agree_turned (a ∷ x) [] = refl
agree_turned (a ∷ x) (b ∷ y) = ap₂ ◌&&◌ (eqb_turned a b) (agree_turned x y)

pub stretch_length : (s : List ℕ) (a n : ℕ) → a + n ≤ length s → length (stretch s a n) ≡ n
stretch_length s a n h = length-take-le n (drop a s) (rw length-drop (omega arith))

pub stretch_all : (s : List ℕ) → stretch s 0 (length s) ≡ s
stretch_all s = take_all (length s) s (omega arith)

pub stretch_same : (s u : List ℕ) (a n : ℕ) → a + n ≤ length s → length u ≡ n → agree? (stretch s a n) (stretch u 0 n) ≡ same? u (stretch s a n)
stretch_same s u a n h e =
    let all : stretch u 0 n ≡ u = rw (← e) (stretch_all u) in
    let l : length u ≡ length (stretch s a n) = e ∙ sym (stretch_length s a n h) in
    rw (all, eq-eqb _ _ l) (agree_turned (stretch s a n) u)
