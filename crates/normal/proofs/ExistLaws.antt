-- A normal form exists: the closed form gives it, for an entry on the reference with no empty allele.
--     normal_cut    the closed form takes the same from each allele, and leaves none empty
--     normal_is     what it gives is normal
-- Assumes nothing.
use mathlib.Core.List.Memᴰ
use mathlib.Core.List.{List, ◌++◌}
use mathlib.Core.Logic.{⊎_elim}
use mathlib.Core.Path.{◌≡◌, refl, sym, ap, ◌∙◌}
use Prim.Native.Nat.{ℕ, ◌+◌, ◌-◌, ◌≤◌, ◌<◌}
use native.Mathlib.Omega.{arith}
use lib.Dec.{T, eqb, eqb→eq}
use lib.ListN.{length, get_or, take, drop}
use lib.Seq.{get_or-take, get_or-drop}
use borrow.Author.Tests.{eq-eqb}
use Rattle.bases.proofs.TestLaws.{of_true}
use Rattle.normal.specs.Form.{Form, alleles, Each, One, OnReference, NoneEmpty, first, AllEndAlike, AllBeginAlike, Normal}
use Rattle.normal.specs.Cut.{shortest, back_at, back_alike?, front_alike?, cut_of, trim_of, new_start, between, cut_form}
use Rattle.normal.proofs.MemberLaws.{all_iff}
use Rattle.normal.proofs.RunLaws.{le_or_lt, run_le, run_below, run_stop, shortest_le, shortest_one}
use Rattle.normal.proofs.ExtendedLaws.{take_same, extended_length, extended_front, extended_own, between_length, between_first, between_last}
use Rattle.normal.proofs.CutLaws.{Cut}

module _ (r : List ℕ) (f : Form) (on : OnReference r f) (some : NoneEmpty f) where
  abbrev m : ℕ
  m = shortest f.ref f.alts

  abbrev q : ℕ
  q = cut_of r f

  abbrev t : ℕ
  t = trim_of f q

  abbrev p : ℕ
  p = (new_start f q t).0

  keeps_one : 1 ≤ m
  keeps_one = let o = shortest_one f.ref f.alts in omega (arith, some o.0 o.1, o.2)

  q_most : q ≤ f.start.0 + m - 1
  q_most = run_le (back_alike? r f) (f.start.0 + m - 1)

  t_most : t ≤ m - (q + 1)
  t_most = run_le (front_alike? f) (m - (q + 1))

  back_alike : (k : ℕ) → T (back_alike? r f k) → Each (λ a. back_at r f.start.0 k a ≡ back_at r f.start.0 k f.ref) f.alts
  back_alike k h a n = eqb→eq _ _ ((all_iff _ f.alts).0 h a n)

  front_alike : (k : ℕ) → T (front_alike? f k) → Each (λ a. get_or a k 0 ≡ get_or f.ref k 0) f.alts
  front_alike k h a n = eqb→eq _ _ ((all_iff _ f.alts).0 h a n)

  at_ref : (k : ℕ) → k < length f.ref → get_or f.ref k 0 ≡ get_or r (f.start.0 + k) 0
  at_ref k h = ap (λ (l : List ℕ). get_or l k 0) (sym on.1) ∙ get_or-take (length f.ref) (drop f.start.0 r) k 0 h ∙ get_or-drop f.start.0 r k 0

  front_at : Each (λ a. (j : ℕ) → j < p → get_or (take f.start.0 r ++ a) j 0 ≡ get_or r j 0) (alleles f)
  front_at a n j h = ⊎_elim own (extended_front r f.start.0 (omega arith) a j) (le_or_lt f.start.0 j)
    where
      alike : f.start.0 ≤ j → get_or a (j - f.start.0) 0 ≡ get_or f.ref (j - f.start.0) 0
      alike l =
          ⊎_elim (λ e. rw e) (front_alike (j - f.start.0) (run_below (front_alike? f) (m - (q + 1)) (j - f.start.0) (omega arith)) a)
          (Memᴰ.cases_cons n)

      own : f.start.0 ≤ j → get_or (take f.start.0 r ++ a) j 0 ≡ get_or r j 0
      own l =
          let e : f.start.0 + (j - f.start.0) ≡ j = omega arith in
          rw (← e) (extended_own r f.start.0 (omega arith) a (j - f.start.0) ∙ alike l
          ∙ at_ref (j - f.start.0) (omega (arith, t_most, shortest_le f.ref f.alts f.ref (Memᴰ.head refl))))

  left_one : Each (λ a. p + q < f.start.0 + length a) (alleles f)
  left_one a n = omega (arith, q_most, t_most, keeps_one, shortest_le f.ref f.alts a n)

  pub normal_cut : Cut r f q p
  normal_cut = record { front = front; back = back; left = left_one }
    where
      front : Each (λ a. take p (take f.start.0 r ++ a) ≡ take p r) (alleles f)
      front a n =
          take_same p (take f.start.0 r ++ a) r (omega (arith, extended_length r f.start.0 (omega arith) a, left_one a n))
          (omega (arith, left_one f.ref (Memᴰ.head refl))) (front_at a n)

      back : Each (λ a. (k : ℕ) → k < q → back_at r f.start.0 k a ≡ back_at r f.start.0 k f.ref) (alleles f)
      back a n k h =
          ⊎_elim (λ e. rw e) (back_alike k (run_below (back_alike? r f) (f.start.0 + m - 1) k h) a) (Memᴰ.cases_cons n)

  cut_length : Each (λ a. length (between r f.start.0 q p a) ≡ f.start.0 + length a - q - p) (alleles f)
  cut_length a n = between_length r f.start.0 (omega arith) a q p (left_one a n)

  -- The shortest allele.
  least : One (λ a. length a ≡ m) (alleles f)
  least = shortest_one f.ref f.alts

  pub normal_is : Normal (cut_form r f q (record { 0 = p }))
  normal_is = record { some = left; ends = ends; begins = begins }
    where
      left : NoneEmpty (cut_form r f q (record { 0 = p }))
      left b n = let o = Memᴰ.of_map (between r f.start.0 q p) (alleles f) n in rw (← o.2) (omega (arith, cut_length o.0 o.1, left_one o.0 o.1))

      back : AllEndAlike (cut_form r f q (record { 0 = p })) → T (back_alike? r f q)
      back h = (all_iff (λ a. eqb (back_at r f.start.0 q a) (back_at r f.start.0 q f.ref)) f.alts).1 same
        where
          same : Each (λ a. T (eqb (back_at r f.start.0 q a) (back_at r f.start.0 q f.ref))) f.alts
          same a n =
              of_true (eq-eqb (back_at r f.start.0 q a) (back_at r f.start.0 q f.ref)
              (sym (between_last r f.start.0 (omega arith) a q p (left_one a (Memᴰ.tail n)))
              ∙ h (between r f.start.0 q p a) (Memᴰ.map (between r f.start.0 q p) n)
              ∙ between_last r f.start.0 (omega arith) f.ref q p (left_one f.ref (Memᴰ.head refl))))

      ends : AllEndAlike (cut_form r f q (record { 0 = p })) → (p + 1 ≡ 1) × One (λ a. length a ≡ 1) (alleles (cut_form r f q (record { 0 = p })))
      ends h =
          let stop : q < f.start.0 + m - 1 → ⊥ = λ l. run_stop (back_alike? r f) (f.start.0 + m - 1) l (back h) in
          let o = least in (
            omega (arith, q_most, t_most, keeps_one),
            (
              between r f.start.0 q p o.0,
              Memᴰ.map (between r f.start.0 q p) o.1,
              omega (arith, q_most, t_most, keeps_one, cut_length o.0 o.1, o.2),
            ),
          )

      front : AllBeginAlike (cut_form r f q (record { 0 = p })) → p ≡ f.start.0 + t → T (front_alike? f t)
      front h e = (all_iff (λ a. eqb (get_or a t 0) (get_or f.ref t 0)) f.alts).1 same
        where
          at : Each (λ a. first (between r f.start.0 q p a) ≡ get_or a t 0) (alleles f)
          at a n =
              between_first r f.start.0 (omega arith) a q p (left_one a n)
              ∙ ap (λ (j : ℕ). get_or (take f.start.0 r ++ a) j 0) e
              ∙ extended_own r f.start.0 (omega arith) a t

          same : Each (λ a. T (eqb (get_or a t 0) (get_or f.ref t 0))) f.alts
          same a n =
              of_true (eq-eqb (get_or a t 0) (get_or f.ref t 0)
              (sym (at a (Memᴰ.tail n))
              ∙ h (between r f.start.0 q p a) (Memᴰ.map (between r f.start.0 q p) n)
              ∙ at f.ref (Memᴰ.head refl)))

      begins : AllBeginAlike (cut_form r f q (record { 0 = p })) → Each (λ a. 2 ≤ length a) (alleles (cut_form r f q (record { 0 = p }))) → ⊥
      begins h two =
          let o = least in
          let l = cut_length o.0 o.1 in
          let e = o.2 in
          let k = two (between r f.start.0 q p o.0) (Memᴰ.map (between r f.start.0 q p) o.1) in
          run_stop (front_alike? f) (m - (q + 1)) (omega (arith, q_most, t_most, keeps_one))
          (front h (omega (arith, q_most, t_most, keeps_one)))
