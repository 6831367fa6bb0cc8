-- Laws of the gap rule.
--     cut_words                 the test in document 01's words
--     cut_gap, gap_cut          a cut is where the gap has no period q with 1 ≤ q ≤ g: that holds both 'g = 0' and 'longer than g'
--     cut_test, cut_read, cut_behind
--                               the same as tests, and by what is read; no cut where the item starts before b
--     source_cut                where source document 000 allows a cut, so does this rule
--     stop, stop_ends, current_of, current_begin, current_more
--                               what is kept of a cluster: the largest end and the four sums over its items, one item more at a time
--     cut_right                 where the rule cuts behind a cluster, matching may cut
-- Assumes nothing.
use mathlib.Core.Bool.{Bool, true, false, beq, not, ◌&&◌}
use mathlib.Core.List.{List, [], ◌∷◌, ◌++◌}
use mathlib.Core.Logic.{◌↔◌, ◌⊎◌, inl, inr, ⊎_elim}
use mathlib.Core.Path.{◌≡◌, refl}
use Prim.Native.Nat.{ℕ, ◌+◌, ◌-◌, ◌≤◌, ◌<◌, max}
use native.Mathlib.Decide.{ℕ_discrete}
use native.Mathlib.Omega.{arith}
use borrow.Author.Tests.{le-leb, lt-leb, lt-ltb, eq-eqb}
use lib.Dec.{T, T_not, not_T, eqb, leb, ltb, leb→le, ltb→lt, eqb→eq}
use lib.ListN.{length}
use Rattle.bases.specs.declared.place.Place.{Place}
use Rattle.bases.specs.Period.{Period, NoPeriod, any_period?}
use Rattle.bases.proofs.PeriodLaws.{no_period_iff, no_period_long}
use Rattle.bases.proofs.TestLaws.{of_true, of_false, is_true, is_false, both, either}
use Rattle.donors.specs.Donor.{part}
use Rattle.donors.specs.Items.{only, Ends, Sorted, over}
use Rattle.donors.specs.Rules.{Rules, list1, list2}
use Rattle.donors.proofs.PartLaws.{part_length}
use Rattle.matching.specs.Cut.{Cut}
use Rattle.clusters.specs.declared.gap.Current.{Current}
use Rattle.clusters.specs.Gap.{size_of, more, begin, reach_of, gap_cuts?, cut?}

module _ (R : List ℕ) (g : ℕ) (b p : Place) where
  -- the gap is longer than g and has no period up to g
  abbrev long? : Bool
  long? = ltb g (p.0 - b.0) && not (any_period? g (part R b.0 p.0))

  pub gap_words : T (gap_cuts? R g b p) ↔ ((g ≡ 0) ⊎ ((g < p.0 - b.0) × NoPeriod g (part R b.0 p.0)))
  gap_words = (
    λ t. ⊎_elim (λ z. inl (eqb→eq g 0 z)) (λ k. inr (to ((both (ltb g (p.0 - b.0)) (not (any_period? g (part R b.0 p.0)))).0 k))) ((either (eqb g 0) long?).0 t),
    λ w. (either (eqb g 0) long?).1 (⊎_elim (λ z. inl (of_true (eq-eqb g 0 z))) (λ k. inr (of k)) w),
  )
    where
      to : T (ltb g (p.0 - b.0)) × T (not (any_period? g (part R b.0 p.0))) → (g < p.0 - b.0) × NoPeriod g (part R b.0 p.0)
      to k = (ltb→lt g (p.0 - b.0) k.0, (no_period_iff g (part R b.0 p.0)).0 (is_false (any_period? g (part R b.0 p.0)) (T_not (any_period? g (part R b.0 p.0)) k.1)))

      of : (g < p.0 - b.0) × NoPeriod g (part R b.0 p.0) → T long?
      of k =
          (both (ltb g (p.0 - b.0)) (not (any_period? g (part R b.0 p.0)))).1
          (of_true (lt-ltb g (p.0 - b.0) k.0), not_T (any_period? g (part R b.0 p.0)) (of_false ((no_period_iff g (part R b.0 p.0)).1 k.1)))

  gap_period : T (gap_cuts? R g b p) → NoPeriod g (part R b.0 p.0)
  gap_period t = ⊎_elim (λ z q h k. absurd (omega arith)) (λ w. w.1) (gap_words.0 t)

  period_gap : p.0 ≤ length R → NoPeriod g (part R b.0 p.0) → T (gap_cuts? R g b p)
  period_gap h n = gap_words.1 (go (ℕ_discrete g 0))
    where
      go : Dec (g ≡ 0) → (g ≡ 0) ⊎ ((g < p.0 - b.0) × NoPeriod g (part R b.0 p.0))
      go (yes z) = inl z
      go (no z) = inr (omega (arith, part_length R b.0 p.0 h, no_period_long g (part R b.0 p.0) (omega arith) n), n)

  gap_test : p.0 ≤ length R → gap_cuts? R g b p ≡ not (any_period? g (part R b.0 p.0))
  gap_test h = go (any_period? g (part R b.0 p.0)) refl
    where
      go : (t : Bool) → any_period? g (part R b.0 p.0) ≡ t → gap_cuts? R g b p ≡ not t
      go true e = is_false (gap_cuts? R g b p) (λ k. of_false ((no_period_iff g (part R b.0 p.0)).1 (gap_period k)) (of_true e))
      go false e = is_true (gap_cuts? R g b p) (period_gap h ((no_period_iff g (part R b.0 p.0)).0 e))

module _ (R : List ℕ) (c : Current) (p : Place) where
  pub cut_words : T (cut? R c p) ↔ ((c.b.0 ≤ p.0) × ((reach_of c ≡ 0) ⊎ ((reach_of c < p.0 - c.b.0) × NoPeriod (reach_of c) (part R c.b.0 p.0))))
  cut_words = (
    λ t. let k = (both (leb c.b.0 p.0) (gap_cuts? R (reach_of c) c.b p)).0 t in (leb→le c.b.0 p.0 k.0, (gap_words R (reach_of c) c.b p).0 k.1),
    λ w. (both (leb c.b.0 p.0) (gap_cuts? R (reach_of c) c.b p)).1 (of_true (le-leb c.b.0 p.0 w.0), (gap_words R (reach_of c) c.b p).1 w.1),
  )

  pub cut_gap : T (cut? R c p) → (c.b.0 ≤ p.0) × NoPeriod (reach_of c) (part R c.b.0 p.0)
  cut_gap t =
      let k = (both (leb c.b.0 p.0) (gap_cuts? R (reach_of c) c.b p)).0 t in
      (leb→le c.b.0 p.0 k.0, gap_period R (reach_of c) c.b p k.1)

  pub gap_cut : p.0 ≤ length R → c.b.0 ≤ p.0 → NoPeriod (reach_of c) (part R c.b.0 p.0) → T (cut? R c p)
  gap_cut h k n =
      (both (leb c.b.0 p.0) (gap_cuts? R (reach_of c) c.b p)).1 (of_true (le-leb c.b.0 p.0 k), period_gap R (reach_of c) c.b p h n)

  pub cut_behind : p.0 < c.b.0 → cut? R c p ≡ false
  cut_behind h = rw (lt-leb c.b.0 p.0 h)

  pub cut_test : p.0 ≤ length R → c.b.0 ≤ p.0 → cut? R c p ≡ not (any_period? (reach_of c) (part R c.b.0 p.0))
  cut_test h k = rw (le-leb c.b.0 p.0 k) (gap_test R (reach_of c) c.b p h)

  -- a gap of more than 2g with no period of at most half its length
  pub source_cut : p.0 ≤ length R → c.b.0 ≤ p.0 → reach_of c + reach_of c < p.0 - c.b.0
      → ((q : ℕ) → 1 ≤ q → q + q ≤ p.0 - c.b.0 → Period q (part R c.b.0 p.0) → ⊥)
      → T (cut? R c p)
  source_cut h k long none = gap_cut h k (λ q a d. none q a (omega arith))

-- The same of bytes, as the code asks it.
pub cut_read : (R : List ℕ) (c : Current) (p : Place) {g : ℕ} {t : Bool} → p.0 ≤ length R → c.b.0 ≤ p.0
    → g ≡ reach_of c → t ≡ any_period? g (part R c.b.0 p.0) → not t ≡ cut? R c p
cut_read R c p h k eg et = let e = cut_test R c p h k in cc

module _ {X C H : Type 0} (𝓡 : Rules X C H) where
  -- The largest end.
  unfoldable pub stop : List X → ℕ
  stop [] = 0
  stop (x ∷ xs) = max (𝓡.start x + 𝓡.len x) (stop xs)

  ends_more : (b d : ℕ) (xs : List X) → b ≤ d → Ends 𝓡 b xs → Ends 𝓡 d xs
  ends_more b d [] h u = tt
  ends_more b d (x ∷ xs) h u = (omega arith, ends_more b d xs h u.1)

  pub stop_ends : (xs : List X) → Ends 𝓡 (stop xs) xs
  unfolding stop
  stop_ends [] = tt
  stop_ends (x ∷ xs) = (omega arith, ends_more (stop xs) (stop (x ∷ xs)) xs (omega arith) (stop_ends xs))

  -- What is kept of a cluster of these items.
  abbrev pub current_of : List X → Current
  current_of xs = record {
    b = record { 0 = stop xs };
    a1 = over 𝓡 𝓡.shrink list1 xs;
    b1 = over 𝓡 𝓡.grow list1 xs;
    a2 = over 𝓡 𝓡.shrink list2 xs;
    b2 = over 𝓡 𝓡.grow list2 xs;
  }

  stop_snoc : (xs : List X) (x : X) → stop (xs ++ (x ∷ [])) ≡ max (stop xs) (𝓡.start x + 𝓡.len x)
  unfolding stop
  stop_snoc [] x = omega arith
  stop_snoc (y ∷ xs) x = omega (arith, stop_snoc xs x)

  over_snoc : (f : X → ℕ) (j : Bool) (xs : List X) (x : X) → over 𝓡 f j (xs ++ (x ∷ [])) ≡ over 𝓡 f j xs + only (beq j (𝓡.side x)) (f x)
  unfolding over
  over_snoc f j [] x = omega arith
  over_snoc f j (y ∷ xs) x = omega (arith, over_snoc f j xs x)

  pub current_more : (xs : List X) (x : X) → more (current_of xs) (size_of 𝓡 x) ≡ current_of (xs ++ (x ∷ []))
  current_more xs x =
      cc (
        stop_snoc xs x,
        over_snoc 𝓡.shrink list1 xs x,
        over_snoc 𝓡.grow list1 xs x,
        over_snoc 𝓡.shrink list2 xs x,
        over_snoc 𝓡.grow list2 xs x,
      )

  pub current_begin : (x : X) → begin (size_of 𝓡 x) ≡ current_of (x ∷ [])
  unfolding stop over
  current_begin x = current_more [] x

  pub cut_right : (R : List ℕ) (cur : List X) (x : X) (xs : List X) → Sorted 𝓡 (x ∷ xs) → 𝓡.start x + 𝓡.len x ≤ length R
      → T (cut? R (current_of cur) (size_of 𝓡 x).start) → Cut 𝓡 R cur (x ∷ xs)
  cut_right R cur x xs s n t =
      let k = cut_gap R (current_of cur) (size_of 𝓡 x).start t in
      record {
        b = stop cur;
        p = 𝓡.start x;
        ends = stop_ends cur;
        starts = (omega arith, s.0);
        order = k.0;
        inside = omega arith;
        gap = k.1;
      }
