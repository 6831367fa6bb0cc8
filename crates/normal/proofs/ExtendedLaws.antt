-- Laws of an allele that stands behind the first s bases of the reference, with q bases cut off its end, from the place p on.
--     take_same            two lists that begin with the same p bases
--     extended_length, extended_front, extended_own
--                          the allele with all that stands before it: its length, and base by base
--     back_own, back_front the base k before its last: its own, or of the reference
--     own_read, front_read the same of a part of a text: the letter there, or a base of the reference
--     ref_at, ref_read     of REF: bases of the reference
--     kept_length          what is left of that
--     between_length, between_first, between_last
--                          what is left from p on: its length, its first base and its last
--     cut_same             where two alleles are alike at every place cut off, what is cut off is the same
-- Assumes nothing.
use mathlib.Core.List.{List, ◌++◌}
use mathlib.Core.Logic.{⊎_elim}
use mathlib.Core.Path.{◌≡◌, sym, ap, ◌∙◌}
use Prim.Native.Nat.{ℕ, ◌+◌, ◌-◌, ◌≤◌, ◌<◌}
use native.Mathlib.Omega.{arith}
use lib.ListN.{length, get_or, take, drop, length-append, length-drop, get_or-append}
use lib.Seq.{length-take-le, get_or-append-add, get_or-drop, get_or-take, ext_get_or}
use Rattle.bases.specs.Letter.{letter_of, bases_of}
use Rattle.bases.specs.Stretch.{stretch}
use Rattle.bases.proofs.LetterLaws.{bases_length, bases_at}
use Rattle.bases.proofs.StretchLaws.{stretch_length}
use Rattle.normal.specs.Form.{first, last}
use Rattle.normal.specs.Cut.{back_at, between}
use Rattle.normal.proofs.RunLaws.{le_or_lt}

pub take_same : (p : ℕ) (x y : List ℕ) → p ≤ length x → p ≤ length y → ((j : ℕ) → j < p → get_or x j 0 ≡ get_or y j 0) → take p x ≡ take p y
take_same p x y hx hy h =
    let lx = length-take-le p x hx in
    ext_get_or 0 (take p x) (take p y) (omega (arith, length-take-le p y hy))
    (λ j l. get_or-take p x j 0 (omega arith) ∙ h j (omega arith) ∙ sym (get_or-take p y j 0 (omega arith)))

module _ (r : List ℕ) (s : ℕ) (fits : s ≤ length r) (a : List ℕ) where
  pub extended_length : length (take s r ++ a) ≡ s + length a
  extended_length = length-append (take s r) a ∙ ap (λ (n : ℕ). n + length a) (length-take-le s r fits)

  pub extended_front : (j : ℕ) → j < s → get_or (take s r ++ a) j 0 ≡ get_or r j 0
  extended_front j h = get_or-append (take s r) a 0 j (omega (arith, length-take-le s r fits)) ∙ get_or-take s r j 0 h

  pub extended_own : (j : ℕ) → get_or (take s r ++ a) (s + j) 0 ≡ get_or a j 0
  extended_own j =
      ap (λ (n : ℕ). get_or (take s r ++ a) (n + j) 0) (sym (length-take-le s r fits))
      ∙ get_or-append-add (take s r) a j 0

  pub back_own : (k : ℕ) → k < length a → back_at r s k a ≡ get_or a (length a - k - 1) 0
  back_own k h =
      let e : s + length a - (k + 1) ≡ s + (length a - k - 1) = omega arith in
      ap (λ (n : ℕ). get_or (take s r ++ a) n 0) e ∙ extended_own (length a - k - 1)

  pub back_front : (k : ℕ) → length a ≤ k → k < s + length a → back_at r s k a ≡ get_or r (s - (k - length a) - 1) 0
  back_front k h l =
      let e : s + length a - (k + 1) ≡ s - (k - length a) - 1 = omega arith in
      ap (λ (n : ℕ). get_or (take s r ++ a) n 0) e ∙ extended_front (s - (k - length a) - 1) (omega arith)

  module _ (q p : ℕ) (h : p + q < s + length a) where
    pub kept_length : length (take (s + length a - q) (take s r ++ a)) ≡ s + length a - q
    kept_length = length-take-le (s + length a - q) (take s r ++ a) (omega (arith, extended_length))

    pub between_length : length (between r s q p a) ≡ s + length a - q - p
    between_length = length-drop p (take (s + length a - q) (take s r ++ a)) ∙ ap (λ (n : ℕ). n - p) kept_length

    pub between_at : (j : ℕ) → p + j < s + length a - q → get_or (between r s q p a) j 0 ≡ get_or (take s r ++ a) (p + j) 0
    between_at j k = get_or-drop p _ j 0 ∙ get_or-take (s + length a - q) (take s r ++ a) (p + j) 0 k

    pub between_first : first (between r s q p a) ≡ get_or (take s r ++ a) p 0
    between_first = between_at 0 (omega arith) ∙ ap (λ (n : ℕ). get_or (take s r ++ a) n 0) (omega arith)

    pub between_last : last (between r s q p a) ≡ back_at r s q a
    between_last =
        let e : length (between r s q p a) - 1 ≡ s + length a - q - p - 1 = omega (arith, between_length) in
        let d : p + (s + length a - q - p - 1) ≡ s + length a - (q + 1) = omega arith in
        ap (λ (n : ℕ). get_or (between r s q p a) n 0) e
        ∙ between_at (s + length a - q - p - 1) (omega arith)
        ∙ ap (λ (n : ℕ). get_or (take s r ++ a) n 0) d

module _ (r : List ℕ) (s : ℕ) (fits : s ≤ length r) (a b : List ℕ) (q : ℕ) (ha : q ≤ s + length a) (hb : q ≤ s + length b) where
  pub cut_same : ((k : ℕ) → k < q → back_at r s k a ≡ back_at r s k b) → drop (s + length a - q) (take s r ++ a) ≡ drop (s + length b - q) (take s r ++ b)
  cut_same h = ext_get_or 0 _ _ (omega (arith, dropped a, dropped b)) (λ j l. at j (omega (arith, dropped a)))
    where
      dropped : (c : List ℕ) → length (drop (s + length c - q) (take s r ++ c)) ≡ s + length c - (s + length c - q)
      dropped c = length-drop (s + length c - q) (take s r ++ c) ∙ ap (λ (n : ℕ). n - (s + length c - q)) (extended_length r s fits c)

      read : (c : List ℕ) → q ≤ s + length c → (j : ℕ) → j < q → get_or (drop (s + length c - q) (take s r ++ c)) j 0 ≡ back_at r s (q - (j + 1)) c
      read c k j l =
          let e : s + length c - q + j ≡ s + length c - (q - (j + 1) + 1) = omega arith in
          get_or-drop (s + length c - q) (take s r ++ c) j 0 ∙ ap (λ (n : ℕ). get_or (take s r ++ c) n 0) e

      at : (j : ℕ) → j < q → get_or (drop (s + length a - q) (take s r ++ a)) j 0 ≡ get_or (drop (s + length b - q) (take s r ++ b)) j 0
      at j l = read a ha j l ∙ h (q - (j + 1)) (omega arith) ∙ sym (read b hb j l)

module _ (r : List ℕ) (s : ℕ) (fits : s ≤ length r) (a : List ℕ) (k : ℕ) where
  pub own_read : k < length a → back_at r s k (bases_of a) ≡ letter_of (get_or a (length a - k - 1) 0)
  own_read h =
      let l = bases_length a in
      let b = back_own r s fits (bases_of a) k (omega arith) in
      cc (bases_at a (length a - k - 1))

  pub front_read : length a ≤ k → k < s + length a → back_at r s k (bases_of a) ≡ get_or r (s - (k - length a) - 1) 0
  front_read h i =
      let l = bases_length a in
      let b = back_front r s fits (bases_of a) k (omega arith) (omega arith) in
      cc

-- REF is n bases of the reference: with all that stands before it, it is the reference up to where it ends.
module _ (r : List ℕ) (s n : ℕ) (within : s + n ≤ length r) where
  pub ref_at : (j : ℕ) → j < n → get_or (stretch r s n) j 0 ≡ get_or r (s + j) 0
  ref_at j h = get_or-take n (drop s r) j 0 h ∙ get_or-drop s r j 0

  ref_length : length (stretch r s n) ≡ n
  ref_length = stretch_length r s n within

  pub ref_read : (k : ℕ) → k < s + n → back_at r s k (stretch r s n) ≡ get_or r (s + n - k - 1) 0
  ref_read k h = ⊎_elim front own (le_or_lt n k)
    where
      front : n ≤ k → back_at r s k (stretch r s n) ≡ get_or r (s + n - k - 1) 0
      front g =
          let l = ref_length in
          let d : s - (k - length (stretch r s n)) - 1 ≡ s + n - k - 1 = omega arith in
          back_front r s (omega arith) (stretch r s n) k (omega arith) (omega arith) ∙ ap (λ (i : ℕ). get_or r i 0) d

      own : k < n → back_at r s k (stretch r s n) ≡ get_or r (s + n - k - 1) 0
      own g =
          let l = ref_length in
          let d : s + (length (stretch r s n) - k - 1) ≡ s + n - k - 1 = omega arith in
          back_own r s (omega arith) (stretch r s n) k (omega arith) ∙ ref_at (length (stretch r s n) - k - 1) (omega arith) ∙ ap (λ (i : ℕ). get_or r i 0) d
