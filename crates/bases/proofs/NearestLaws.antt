-- Laws of the place nearest to one where two bases q apart differ.
--     upper_find                  from i up: as `find` over the places
--     nearest_above, nearest_past, nearest_end
--                                 both ways from two places: found above, not found above, with nothing below
--     nearest_none, nearest_some  where there is none, q is a period; else it has a base q behind it, and q is none
-- Assumes nothing.
use mathlib.Core.Bool.{Bool, true, false}
use mathlib.Core.List.{List}
use mathlib.Core.Logic.{◌⊎◌, inl, inr, ⊎_elim}
use mathlib.Core.Path.{◌≡◌, refl, sym, ◌∙◌}
use Prim.Native.Nat.{ℕ, zero, suc, ◌+◌, ◌-◌, ◌≤◌, ◌<◌}
use native.Mathlib.Decide.{dec_lt}
use native.Mathlib.Nat.{not-suc-le-zero, le_of_suc-le-suc, eq-or-lt_of_le}
use native.Mathlib.Omega.{arith}
use lib.ListN.{length, get_or}
use Rattle.std.proofs.lemmas.Option.{none-some, same_Some}
use Rattle.std.specs.List.{find, range_with_len}
use Rattle.std.specs.Prelude.{Option, None, Some}
use borrow.Author.Tests.{eqb-true, eqb-false, not-true, not-false}
use Rattle.bases.specs.Nearest.{differ?, upper, nearest, nearest_to}
use Rattle.bases.specs.Period.{period?}
use Rattle.bases.specs.Pick.{pick}
use Rattle.bases.proofs.PeriodLaws.{period_iff}
use Rattle.bases.proofs.TestLaws.{is_true, is_false}

-- The bases at i and q behind it are equal.
abbrev pub Same : ℕ → List ℕ → ℕ → Type 0
Same q y i = get_or y i 0 ≡ get_or y (i + q) 0

pub upper_find : (q : ℕ) (y : List ℕ) (i n : ℕ) → find (differ? q y) (range_with_len i n) ≡ upper q y i n
unfolding upper
upper_find q y i zero = refl
upper_find q y i (suc n) = go (differ? q y i) refl (upper_find q y (i + 1) n)
  where
    go : (t : Bool) → differ? q y i ≡ t → find (differ? q y) (range_with_len (i + 1) n) ≡ upper q y (i + 1) n
        → find (differ? q y) (range_with_len i (suc n)) ≡ pick t (Some i) (upper q y (i + 1) n)
    go true e h = rw e
    go false e h = rw e h

pub nearest_above : (q : ℕ) (y : List ℕ) (above n below : ℕ) → above < n → 0 < below → differ? q y above ≡ true → nearest q y above (n - above) below ≡ Some above
unfolding nearest
nearest_above q y above n zero h k d = absurd (not-suc-le-zero k)
nearest_above q y above n (suc below) h k d = let e : n - above ≡ suc (n - (above + 1)) = omega arith in rw (e, d)

-- where the next above is tried and not found, or there is none: what is left to do, and from where on
abbrev pub Past : ℕ → List ℕ → ℕ → ℕ → ℕ → Type 0
Past q y n above next = ((above < n) × (differ? q y above ≡ false) × (next ≡ above + 1)) ⊎ ((n ≤ above) × (next ≡ above))

pub nearest_past : (q : ℕ) (y : List ℕ) (above n below next : ℕ) → Past q y n above next → 0 < below
    → nearest q y above (n - above) below ≡ pick (differ? q y (below - 1)) (Some (below - 1)) (nearest q y next (n - next) (below - 1))
unfolding nearest
nearest_past q y above n zero next p k = absurd (not-suc-le-zero k)
nearest_past q y above n (suc below) next (inl (h, s, t)) k =
    let e : n - above ≡ suc (n - (above + 1)) = omega arith in
    let b : suc below - 1 ≡ below = omega arith in
    rw (t, e, b, s)
nearest_past q y above n (suc below) next (inr (h, t)) k =
    let e : n - above ≡ 0 = omega arith in
    let b : suc below - 1 ≡ below = omega arith in
    rw (t, e, b)

pub nearest_end : (q : ℕ) (y : List ℕ) (above n below : ℕ) → below ≡ 0 → nearest q y above n below ≡ upper q y above n
unfolding nearest
nearest_end q y above n below z = rw z

-- What trying some places tells: there is none and in all of them the bases are equal, or it is one below m where they differ.
abbrev Tells : ℕ → List ℕ → (ℕ → Type 0) → ℕ → Option ℕ → Type 0
Tells q y Tried m r = ((r ≡ None) × ((i : ℕ) → Tried i → Same q y i)) ⊎ ((i : ℕ) × (r ≡ Some i) × (i < m) × (Same q y i → ⊥))

upper_tells : (q : ℕ) (y : List ℕ) (m i n : ℕ) → i + n ≡ m → Tells q y (λ j. (i ≤ j) × (j < m)) m (upper q y i n)
unfolding upper
upper_tells q y m i zero h = inl (refl, λ j w. absurd (omega arith))
upper_tells q y m i (suc n) h = go (differ? q y i) refl (upper_tells q y m (i + 1) n (omega arith))
  where
    go : (t : Bool) → differ? q y i ≡ t → Tells q y (λ j. (i + 1 ≤ j) × (j < m)) m (upper q y (i + 1) n)
        → Tells q y (λ j. (i ≤ j) × (j < m)) m (pick t (Some i) (upper q y (i + 1) n))
    go true e w = inr (i, refl, omega arith, eqb-false _ _ (not-true _ e))
    go false e (inl (z, f)) =
        inl (z, λ j w. ⊎_elim (λ k. rw (← k) (eqb-true _ _ (not-false _ e))) (λ k. f j (omega arith, w.1)) (eq-or-lt_of_le w.0))
    go false e (inr w) = inr w

-- one place below more, found or not
down : (q : ℕ) (y : List ℕ) (m above below : ℕ) (r : Option ℕ) → below < m → Tells q y (λ i. (i < below) ⊎ ((above ≤ i) × (i < m))) m r
    → Tells q y (λ i. (i < suc below) ⊎ ((above ≤ i) × (i < m))) m (pick (differ? q y below) (Some below) r)
down q y m above below r h w = go (differ? q y below) refl w
  where
    go : (t : Bool) → differ? q y below ≡ t → Tells q y (λ i. (i < below) ⊎ ((above ≤ i) × (i < m))) m r
        → Tells q y (λ i. (i < suc below) ⊎ ((above ≤ i) × (i < m))) m (pick t (Some below) r)
    go true e w = inr (below, refl, h, eqb-false _ _ (not-true _ e))
    go false e (inl (z, f)) = inl (
      z,
      λ i. ⊎_elim
          (λ k. ⊎_elim (λ l. rw l (eqb-true _ _ (not-false _ e))) (λ l. f i (inl l)) (eq-or-lt_of_le (le_of_suc-le-suc k)))
          (λ k. f i (inr k)),
    )
    go false e (inr w) = inr w

nearest_tells : (q : ℕ) (y : List ℕ) (m above n below : ℕ) → above + n ≡ m → below ≤ m → Tells q y (λ i. (i < below) ⊎ ((above ≤ i) × (i < m))) m (nearest q y above n below)
unfolding nearest
nearest_tells q y m above n zero h k = go (upper_tells q y m above n h)
  where
    go : Tells q y (λ i. (above ≤ i) × (i < m)) m (upper q y above n) → Tells q y (λ i. (i < 0) ⊎ ((above ≤ i) × (i < m))) m (upper q y above n)
    go (inl (z, f)) = inl (z, λ i. ⊎_elim (λ l. absurd (not-suc-le-zero l)) (f i))
    go (inr w) = inr w
nearest_tells q y m above zero (suc below) h k = down q y m above below _ k (nearest_tells q y m above zero below h (omega arith))
nearest_tells q y m above (suc n) (suc below) h k =
    go (differ? q y above) refl (down q y m (above + 1) below _ k (nearest_tells q y m (above + 1) n below (omega arith) (omega arith)))
  where
    rest : Option ℕ
    rest = pick (differ? q y below) (Some below) (nearest q y (above + 1) n below)

    go : (t : Bool) → differ? q y above ≡ t → Tells q y (λ i. (i < suc below) ⊎ ((above + 1 ≤ i) × (i < m))) m rest
        → Tells q y (λ i. (i < suc below) ⊎ ((above ≤ i) × (i < m))) m (pick t (Some above) rest)
    go true e w = inr (above, refl, omega arith, eqb-false _ _ (not-true _ e))
    go false e (inl (z, f)) = inl (
      z,
      λ i. ⊎_elim
          (λ l. f i (inl l))
          (λ w. ⊎_elim (λ l. rw (← l) (eqb-true _ _ (not-false _ e))) (λ l. f i (inr (omega arith, w.1))) (eq-or-lt_of_le w.0)),
    )
    go false e (inr w) = inr w

-- both answers, by whether q is a period
nearest_period : (at q : ℕ) (y : List ℕ) → at + q ≤ length y
    → ((nearest_to at q y ≡ None) × (period? q y ≡ true)) ⊎ ((i : ℕ) × (nearest_to at q y ≡ Some i) × (i + q < length y) × (period? q y ≡ false))
nearest_period at q y h = go (nearest_tells q y (length y - q) at (length y - q - at) at (omega arith) (omega arith))
  where
    go : Tells q y (λ i. (i < at) ⊎ ((at ≤ i) × (i < length y - q))) (length y - q) (nearest_to at q y)
        → ((nearest_to at q y ≡ None) × (period? q y ≡ true)) ⊎ ((i : ℕ) × (nearest_to at q y ≡ Some i) × (i + q < length y) × (period? q y ≡ false))
    go (inl (z, f)) = inl (z, is_true _ ((period_iff q y).1 (λ i k. f i (side i (omega arith) (dec_lt i at)))))
      where
        side : (i : ℕ) → i < length y - q → Dec (i < at) → (i < at) ⊎ ((at ≤ i) × (i < length y - q))
        side i k (yes l) = inl l
        side i k (no l) = inr (omega arith, k)
    go (inr (i, e, l, d)) = inr (i, e, omega arith, is_false _ (λ t. d ((period_iff q y).0 t i (omega arith))))

pub nearest_none : (at q : ℕ) (y : List ℕ) → at + q ≤ length y → nearest_to at q y ≡ None → period? q y ≡ true
nearest_none at q y h n = ⊎_elim (λ w. w.1) (λ w. absurd (none-some w.0 (sym n ∙ w.1))) (nearest_period at q y h)

pub nearest_some : (at q : ℕ) (y : List ℕ) (i : ℕ) → at + q ≤ length y → nearest_to at q y ≡ Some i → (i + q < length y) × (period? q y ≡ false)
nearest_some at q y i h e =
    ⊎_elim (λ w. absurd (none-some i (sym w.0 ∙ e))) (λ w. (rw (same_Some i w.0 (sym e ∙ w.1)) w.2, w.3)) (nearest_period at q y h)
