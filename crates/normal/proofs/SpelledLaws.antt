-- What the numbers of a normal form spell.
--     Numbers, numbers     how the numbers hang together: the new start, the bases of the reference, and those of the part
--     spelled_between      so many bases of the reference and of the part are what the closed form leaves of the allele
-- Assumes nothing.
use mathlib.Core.List.{List, ◌++◌}
use mathlib.Core.Logic.{⊎_elim}
use mathlib.Core.Path.{◌≡◌, sym, ap, ◌∙◌}
use Prim.Native.Nat.{ℕ, ◌+◌, ◌-◌, ◌≤◌, ◌<◌}
use native.Mathlib.Omega.{arith}
use lib.ListN.{length, get_or, take, drop, length-append, length-drop, get_or-append}
use lib.Seq.{length-take-le, get_or-append-add, get_or-drop, get_or-take, ext_get_or}
use Rattle.bases.specs.Letter.{letter_of, bases_of}
use Rattle.bases.specs.Stretch.{stretch}
use Rattle.bases.proofs.LetterLaws.{bases_length, bases_at}
use Rattle.vcf.specs.declared.entry.Part.{Part}
use Rattle.vcf.specs.Entry.{bytes_of}
use Rattle.normal.specs.Cut.{between}
use Rattle.normal.specs.Spelled.{Within}
use Rattle.normal.proofs.RunLaws.{le_or_lt}
use Rattle.normal.proofs.ExtendedLaws.{extended_front, extended_own, between_length, between_at}
use Rattle.normal.proofs.EntryLaws.{part_length}

-- An allele of length l behind the first s bases of the reference, of which q bases are cut off the back and t off the front: n is the new start,
-- and what is left are g bases of the reference and `own` of the allele's own.
pub record Numbers (s l q t n g own : ℕ) : Type 0 where
  pub reach : g ≤ s - n
  pub whole : n + q + g + own ≡ s + l
  pub inner : t + own ≤ l
  pub joint : 1 ≤ own → n + g ≡ s + t
  pub some : 1 ≤ g + own

-- Bases of the reference are taken in, and nothing is cut off the front.
numbers_in : (s m l q : ℕ) → m ≤ l → q + 1 ≤ s + m → m ≤ q → Numbers s l q 0 (s + 0 - (q + 1 - m)) (q + 1 - m - (q - l)) (l - (q + 0))
numbers_in s m l q b c h =
    record { reach = omega arith; whole = omega arith; inner = omega arith; joint = λ o. omega arith; some = omega arith }

-- None is taken in.
numbers_out : (s m l q t : ℕ) → m ≤ l → t + q + 1 ≤ m → Numbers s l q t (s + t - (q + 1 - m)) (q + 1 - m - (q - l)) (l - (q + t))
numbers_out s m l q t b c =
    record { reach = omega arith; whole = omega arith; inner = omega arith; joint = λ o. omega arith; some = omega arith }

pub numbers : (s m l q t : ℕ) → 1 ≤ m → m ≤ l → q ≤ s + m - 1 → t ≤ m - (q + 1) → Numbers s l q t (s + t - (q + 1 - m)) (q + 1 - m - (q - l)) (l - (q + t))
numbers s m l q t a b c d = ⊎_elim inside (λ h. numbers_out s m l q t b (omega arith)) (le_or_lt m q)
  where
    inside : m ≤ q → Numbers s l q t (s + t - (q + 1 - m)) (q + 1 - m - (q - l)) (l - (q + t))
    inside h = let z : t ≡ 0 = omega arith in rw z (numbers_in s m l q b (omega arith) h)

module _ (reference text : List ℕ) (s : ℕ) (p : Part) (q t n g own : ℕ) (fits : s ≤ length reference) (within : Within text p) (num : Numbers s p.len q t n g own) where
  front : List ℕ
  front = stretch reference n g

  rest : List ℕ
  rest = bases_of (take own (drop (p.at + t) text))

  front_length : length front ≡ g
  unfolding front
  front_length = length-take-le g (drop n reference) (rw length-drop (omega arith))

  rest_length : length rest ≡ own
  unfolding rest
  rest_length = bases_length (take own (drop (p.at + t) text)) ∙ length-take-le own (drop (p.at + t) text) (rw length-drop (omega arith))

  a : List ℕ
  a = bases_of (bytes_of text p)

  a_length : length a ≡ p.len
  unfolding a
  a_length = bases_length (bytes_of text p) ∙ part_length text p within

  at_front : (j : ℕ) → j < g → get_or (front ++ rest) j 0 ≡ get_or reference (n + j) 0
  unfolding front
  at_front j l =
      get_or-append front rest 0 j (omega (arith, front_length)) ∙ get_or-take g (drop n reference) j 0 l ∙ get_or-drop n reference j 0

  at_rest : (j : ℕ) → j < own → get_or (front ++ rest) (g + j) 0 ≡ letter_of (get_or text (p.at + t + j) 0)
  unfolding rest
  at_rest j l =
      ap (λ (z : ℕ). get_or (front ++ rest) (z + j) 0) (sym front_length)
      ∙ get_or-append-add front rest j 0
      ∙ bases_at (take own (drop (p.at + t) text)) j
      ∙ ap letter_of (get_or-take own (drop (p.at + t) text) j 0 l ∙ get_or-drop (p.at + t) text j 0)

  at_own : (j : ℕ) → j < p.len → get_or a j 0 ≡ letter_of (get_or text (p.at + j) 0)
  unfolding a
  at_own j l = bases_at (bytes_of text p) j ∙ ap letter_of (get_or-take p.len (drop p.at text) j 0 l ∙ get_or-drop p.at text j 0)

  kept : n + q < s + length a
  kept = omega (arith, a_length)

  same_front : (j : ℕ) → j < g → get_or (front ++ rest) j 0 ≡ get_or (between reference s q n a) j 0
  same_front j l =
      let b = between_at reference s fits a q n kept j (omega (arith, a_length)) in
      let e = extended_front reference s fits a (n + j) (omega arith) in
      cc (at_front j l)

  same_rest : (j : ℕ) → j < own → get_or (front ++ rest) (g + j) 0 ≡ get_or (between reference s q n a) (g + j) 0
  same_rest j l =
      let b = between_at reference s fits a q n kept (g + j) (omega (arith, a_length)) in
      let i : n + (g + j) ≡ s + (t + j) = omega (arith, num.joint (omega arith)) in
      let e = extended_own reference s fits a (t + j) in
      let d : p.at + t + j ≡ p.at + (t + j) = omega arith in
      cc (at_rest j l, at_own (t + j) (omega arith))

  spelled_length : length (front ++ rest) ≡ length (between reference s q n a)
  spelled_length =
      length-append front rest
      ∙ omega (arith, front_length, rest_length, a_length, between_length reference s fits a q n kept)

  pub spelled_between : stretch reference n g ++ bases_of (take own (drop (p.at + t) text)) ≡ between reference s q n (bases_of (bytes_of text p))
  unfolding front rest a
  spelled_between = ext_get_or 0 (front ++ rest) (between reference s q n a) spelled_length same
    where
      same : (j : ℕ) → j < length (front ++ rest) → get_or (front ++ rest) j 0 ≡ get_or (between reference s q n a) j 0
      same j l = ⊎_elim behind (same_front j) (le_or_lt g j)
        where
          behind : g ≤ j → get_or (front ++ rest) j 0 ≡ get_or (between reference s q n a) j 0
          behind h =
              let e : g + (j - g) ≡ j = omega arith in
              rw (← e) (same_rest (j - g) (omega (arith, length-append front rest, front_length, rest_length)))
