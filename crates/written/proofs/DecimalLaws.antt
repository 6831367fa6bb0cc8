-- Laws of decimal writing.
--     decimal-value, decimal_digits, decimal-first     its value, its digits, and that it has no leading zero
--     decimal_pos                                      a POS is read back
--     decimal_read                                     a POS that is read is written as it stood
--     decimal_le, decimal_add                          a smaller number has no more digits; a larger one at most as many more as it is larger
-- Assumes nothing.
use mathlib.Core.Bool.{Bool, true, false, not}
use mathlib.Core.List.{List, [], ◌∷◌, ◌++◌}
use mathlib.Core.Path.{◌≡◌, refl, sym, ap, subst, ◌∙◌}
use Prim.Native.Nat.{ℕ, zero, suc, ◌+◌, ◌-◌, ◌*◌, ◌/◌, ◌%◌, ◌≤◌}
use native.Mathlib.Omega.{arith}
use borrow.Author.Tests.{ltb-true, ltb-false, le-leb, lt-ltb, le-ltb, ne_eqb, eq-eqb}
use lib.Dec.{T, ltb, leb, eqb, leb→le, T_not}
use lib.ListN.{length, get_or, length-append}
use Rattle.bases.specs.declared.place.Pos.{Pos}
use Rattle.bases.proofs.TestLaws.{both, of_true, is_true}
use Rattle.bases.specs.Pick.{pick}
use Rattle.fields.specs.Pos.{digit?, all_digits?, value_from, largest_pos, is_pos?, read_pos}
use Rattle.fields.proofs.PosLaws.{value_grows}
use Rattle.written.specs.Written.{digits_of, decimal}

value_snoc : (v : ℕ) (ds : List ℕ) (d : ℕ) → value_from v (ds ++ (d ∷ [])) ≡ value_from v ds * 10 + (d - 48)
unfolding value_from
value_snoc v [] d = refl
value_snoc v (b ∷ ds) d = value_snoc (v * 10 + (b - 48)) ds d

digits_snoc : (ds : List ℕ) (d : ℕ) → T (all_digits? ds) → T (digit? d) → T (all_digits? (ds ++ (d ∷ [])))
unfolding all_digits?
digits_snoc [] d h k = (both (digit? d) true).1 (k, tt)
digits_snoc (b ∷ ds) d h k =
    let s = (both (digit? b) (all_digits? ds)).0 h in
    (both (digit? b) (all_digits? (ds ++ (d ∷ [])))).1 (s.0, digits_snoc ds d s.1 k)

digits_front : (ds : List ℕ) (d : ℕ) → T (all_digits? (ds ++ (d ∷ []))) → T (all_digits? ds) × T (digit? d)
unfolding all_digits?
digits_front [] d h = (tt, ((both (digit? d) true).0 h).0)
digits_front (b ∷ ds) d h =
    let s = (both (digit? b) (all_digits? (ds ++ (d ∷ [])))).0 h in
    let r = digits_front ds d s.1 in
    ((both (digit? b) (all_digits? ds)).1 (s.0, r.0), r.1)

digit_is : (d : ℕ) → 48 ≤ d → d ≤ 57 → T (digit? d)
digit_is d h k = (both (leb 48 d) (leb d 57)).1 (of_true (le-leb 48 d h), of_true (le-leb d 57 k))

digit_from : (d : ℕ) → T (digit? d) → (48 ≤ d) × (d ≤ 57)
digit_from d t = let s = (both (leb 48 d) (leb d 57)).0 t in (leb→le 48 d s.0, leb→le d 57 s.1)

first_snoc : (ds : List ℕ) (d : ℕ) → (get_or ds 0 48 ≡ 48 → ⊥) → get_or (ds ++ (d ∷ [])) 0 48 ≡ 48 → ⊥
first_snoc [] d h e = h refl
first_snoc (b ∷ ds) d h e = h e

-- The number has at most so many digits.
abbrev Fits : ℕ → ℕ → Type 0
Fits zero n = n ≡ 0
Fits (suc k) n = Fits k (n / 10)

fits_pos : (n : ℕ) → n ≤ largest_pos → Fits 5 n
fits_pos n h = omega arith

digits_value : (k n : ℕ) → Fits k n → value_from 0 (digits_of k n) ≡ n
unfolding digits_of value_from
digits_value zero n h = sym h
digits_value (suc k) n h = go (ltb n 10) refl (digits_value k (n / 10) h)
  where
    go : (t : Bool) → ltb n 10 ≡ t → value_from 0 (digits_of k (n / 10)) ≡ n / 10 → value_from 0 (pick t ((48 + n) ∷ []) (digits_of k (n / 10) ++ ((48 + n % 10) ∷ []))) ≡ n
    go true e r = omega arith
    go false e r = value_snoc 0 (digits_of k (n / 10)) (48 + n % 10) ∙ omega arith

digits_digits : (k n : ℕ) → T (all_digits? (digits_of k n))
unfolding digits_of all_digits?
digits_digits zero n = tt
digits_digits (suc k) n = go (ltb n 10) refl (digits_digits k (n / 10))
  where
    go : (t : Bool) → ltb n 10 ≡ t → T (all_digits? (digits_of k (n / 10))) → T (all_digits? (pick t ((48 + n) ∷ []) (digits_of k (n / 10) ++ ((48 + n % 10) ∷ []))))
    go true e r = (both (digit? (48 + n)) true).1 (digit_is (48 + n) (omega arith) (omega (arith, ltb-true n 10 e)), tt)
    go false e r = digits_snoc (digits_of k (n / 10)) (48 + n % 10) r (digit_is (48 + n % 10) (omega arith) (omega arith))

digits_first : (k n : ℕ) → Fits k n → 1 ≤ n → get_or (digits_of k n) 0 48 ≡ 48 → ⊥
unfolding digits_of
digits_first zero n h l = λ e. omega arith
digits_first (suc k) n h l = go (ltb n 10) refl (digits_first k (n / 10) h)
  where
    go : (t : Bool) → ltb n 10 ≡ t → (1 ≤ n / 10 → get_or (digits_of k (n / 10)) 0 48 ≡ 48 → ⊥) → get_or (pick t ((48 + n) ∷ []) (digits_of k (n / 10) ++ ((48 + n % 10) ∷ []))) 0 48 ≡ 48 → ⊥
    go true f r e = omega arith
    go false f r e = first_snoc (digits_of k (n / 10)) (48 + n % 10) (r (omega (arith, ltb-false n 10 f))) e

pub decimal_digits : (n : ℕ) → T (all_digits? (decimal n))
decimal_digits n = digits_digits 5 n

pub decimal_pos : (p : Pos) → 1 ≤ p.0 → p.0 ≤ largest_pos → read_pos (decimal p.0) ≡ p
unfolding is_pos?
decimal_pos p l h =
    let n = p.0 in
    let v : value_from 0 (decimal n) ≡ n = digits_value 5 n (fits_pos n h) in
    rw (is_true (all_digits? (decimal n)) (digits_digits 5 n), ne_eqb (get_or (decimal n) 0 48) 48 (digits_first 5 n (fits_pos n h) l), v, le-leb n largest_pos h)

pub decimal_some : (n : ℕ) → 1 ≤ length (decimal n)
unfolding digits_of
decimal_some n = go (ltb n 10) (digits_of 4 (n / 10))
  where
    go : (t : Bool) (ds : List ℕ) → 1 ≤ length (pick t ((48 + n) ∷ []) (ds ++ ((48 + n % 10) ∷ [])))
    go true ds = omega arith
    go false ds = omega (arith, length-append ds ((48 + n % 10) ∷ []))

value_some : (f : List ℕ) → T (all_digits? f) → (get_or f 0 48 ≡ 48 → ⊥) → 1 ≤ value_from 0 f
unfolding value_from all_digits?
value_some [] h n = absurd (n refl)
value_some (b ∷ bs) h n = omega (arith, value_grows (0 * 10 + (b - 48)) bs, digit_from b ((both (digit? b) (all_digits? bs)).0 h).0, n)

-- A list that is not empty, by its last.
record Ends (f : List ℕ) : Type 0 where
  init : List ℕ
  last : ℕ
  split : f ≡ init ++ (last ∷ [])

ends : (b : ℕ) (bs : List ℕ) → Ends (b ∷ bs)
ends b [] = record { init = []; last = b; split = refl }
ends b (c ∷ bs) = let r = ends c bs in record { init = b ∷ r.init; last = r.last; split = ap (λ (l : List ℕ). b ∷ l) r.split }

-- A POS without a leading zero is what is written for its number.
abbrev Reads : ℕ → List ℕ → Type 0
Reads k f = T (all_digits? f) → (get_or f 0 48 ≡ 48 → ⊥) → Fits k (value_from 0 f) → digits_of k (value_from 0 f) ≡ f

reads_one : (k d : ℕ) → Reads (suc k) (d ∷ [])
unfolding digits_of value_from all_digits?
reads_one k d t n h =
    let b = digit_from d ((both (digit? d) true).0 t).0 in
    let e : 48 + (0 * 10 + (d - 48)) ≡ d = omega arith in
    rw (lt-ltb (0 * 10 + (d - 48)) 10 (omega arith), e)

reads_more : (k c : ℕ) (g : List ℕ) (d : ℕ) → Reads k (c ∷ g) → Reads (suc k) (c ∷ g ++ (d ∷ []))
unfolding digits_of
reads_more k c g d r t n h =
    let s = digits_front (c ∷ g) d t in
    let b = digit_from d s.1 in
    let v = value_from 0 (c ∷ g) in
    let w = value_from 0 (c ∷ g ++ (d ∷ [])) in
    let e : w ≡ v * 10 + (d - 48) = value_snoc 0 (c ∷ g) d in
    let some = value_some (c ∷ g) s.0 n in
    let tens : w / 10 ≡ v = omega arith in
    let ones : 48 + w % 10 ≡ d = omega arith in
    rw (le-ltb w 10 (omega arith), ones, tens, r s.0 n (rw tens at h))

reads_last : (k : ℕ) → ((f : List ℕ) → Reads k f) → (g : List ℕ) (d : ℕ) → Reads (suc k) (g ++ (d ∷ []))
reads_last k r [] d = reads_one k d
reads_last k r (c ∷ g) d = reads_more k c g d (r (c ∷ g))

digits_read : (k : ℕ) (f : List ℕ) → Reads k f
digits_read zero f = λ t n h. absurd (omega (arith, value_some f t n))
digits_read (suc k) [] = λ t n h. absurd (n refl)
digits_read (suc k) (b ∷ bs) = let e = ends b bs in subst (Reads (suc k)) (sym e.split) (reads_last k (digits_read k) e.init e.last)

pub decimal_read : (f : List ℕ) → 1 ≤ (read_pos f).0 → decimal (read_pos f).0 ≡ f
unfolding is_pos?
decimal_read f h = go (is_pos? f) refl h
  where
    go : (t : Bool) → is_pos? f ≡ t → 1 ≤ pick t (value_from 0 f) 0 → decimal (pick t (value_from 0 f) 0) ≡ f
    go true e h =
        let s = (both (all_digits? f) _).0 (of_true e) in
        let u = (both (not (eqb (get_or f 0 48) 48)) (leb (value_from 0 f) largest_pos)).0 s.1 in
        digits_read 5 f s.0 (λ z. T_not (eqb (get_or f 0 48) 48) u.0 (of_true (eq-eqb _ _ z))) (fits_pos (value_from 0 f) (leb→le _ _ u.1))
    go false e h = absurd (omega arith)

-- A larger number has no fewer digits, and at most as many more as it is larger.
digits_le : (k m n : ℕ) → m ≤ n → length (digits_of k m) ≤ length (digits_of k n)
unfolding digits_of
digits_le zero m n h = omega arith
digits_le (suc k) m n h = go (ltb m 10) (ltb n 10) refl refl (digits_le k (m / 10) (n / 10) (omega arith))
  where
    go : (s t : Bool) → ltb m 10 ≡ s → ltb n 10 ≡ t → length (digits_of k (m / 10)) ≤ length (digits_of k (n / 10))
        → length (pick s ((48 + m) ∷ []) (digits_of k (m / 10) ++ ((48 + m % 10) ∷ []))) ≤ length (pick t ((48 + n) ∷ []) (digits_of k (n / 10) ++ ((48 + n % 10) ∷ [])))
    go true true d e r = omega arith
    go true false d e r = omega (arith, length-append (digits_of k (n / 10)) ((48 + n % 10) ∷ []))
    go false true d e r = absurd (omega (arith, ltb-false m 10 d, ltb-true n 10 e))
    go false false d e r =
        omega (arith, length-append (digits_of k (m / 10)) ((48 + m % 10) ∷ []), length-append (digits_of k (n / 10)) ((48 + n % 10) ∷ []))

digits_few : (k n : ℕ) → 1 ≤ n → length (digits_of k n) ≤ n
unfolding digits_of
digits_few zero n h = omega arith
digits_few (suc k) n h = go (ltb n 10) refl (digits_few k (n / 10))
  where
    go : (t : Bool) → ltb n 10 ≡ t → (1 ≤ n / 10 → length (digits_of k (n / 10)) ≤ n / 10) → length (pick t ((48 + n) ∷ []) (digits_of k (n / 10) ++ ((48 + n % 10) ∷ []))) ≤ n
    go true e r = omega arith
    go false e r = omega (arith, length-append (digits_of k (n / 10)) ((48 + n % 10) ∷ []), ltb-false n 10 e, r (omega (arith, ltb-false n 10 e)))

digits_add : (k m n : ℕ) → m ≤ n → length (digits_of k n) ≤ length (digits_of k m) + (n - m)
unfolding digits_of
digits_add zero m n h = omega arith
digits_add (suc k) m n h = go (ltb m 10) (ltb n 10) refl refl (digits_add k (m / 10) (n / 10) (omega arith))
  where
    go : (s t : Bool) → ltb m 10 ≡ s → ltb n 10 ≡ t → length (digits_of k (n / 10)) ≤ length (digits_of k (m / 10)) + (n / 10 - m / 10)
        → length (pick t ((48 + n) ∷ []) (digits_of k (n / 10) ++ ((48 + n % 10) ∷ []))) ≤ length (pick s ((48 + m) ∷ []) (digits_of k (m / 10) ++ ((48 + m % 10) ∷ []))) + (n - m)
    go true true d e r = omega arith
    go true false d e r =
        omega (arith, length-append (digits_of k (n / 10)) ((48 + n % 10) ∷ []), digits_few k (n / 10) (omega (arith, ltb-false n 10 e)), ltb-true m 10 d, ltb-false n 10 e)
    go false true d e r = absurd (omega (arith, ltb-false m 10 d, ltb-true n 10 e))
    go false false d e r =
        omega (arith, length-append (digits_of k (m / 10)) ((48 + m % 10) ∷ []), length-append (digits_of k (n / 10)) ((48 + n % 10) ∷ []))

pub decimal_le : (m n : ℕ) → m ≤ n → length (decimal m) ≤ length (decimal n)
decimal_le m n h = digits_le 5 m n h

pub decimal_add : (m n : ℕ) → m ≤ n → length (decimal n) ≤ length (decimal m) + (n - m)
decimal_add m n h = digits_add 5 m n h
