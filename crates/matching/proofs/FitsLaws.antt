-- Laws of one choice more: it overlaps none of those made before it exactly if it fits.
--     and_not, and_so
--                    a test made of two, by the first
--     no_room, with_room
--                    whether a row fits on a copy, by whether it takes its span there
--     end_here, end_earlier, end_none
--                    where the last row before one ends: by the row before it, and at the start
--     end_reached    where the last row ends that takes its span is where the list's edits end
--     fits_keeps     one choice more is kept exactly if it fits
-- Assumes nothing.
use mathlib.Core.Bool.{Bool, true, false, beq, not, ◌&&◌, ◌||◌}
use mathlib.Core.List.{List, [], ◌∷◌, ◌++◌}
use mathlib.Core.Logic.{◌↔◌}
use mathlib.Core.Path.{◌≡◌, sym, ap, ap₂, ◌∙◌, subst}
use Prim.Native.Nat.{ℕ, zero, suc, ◌+◌, ◌-◌, ◌≤◌, ◌<◌}
use native.Mathlib.Nat.{zero-add}
use native.Mathlib.Omega.{arith}
use lib.Dec.{T, leb, leb→le, le→leb}
use lib.ListN.{length, get_or}
use Rattle.bases.specs.Pick.{pick}
use Rattle.bases.proofs.TestLaws.{both, one_test}
use Rattle.donors.specs.declared.table.Row.{Row}
use Rattle.donors.specs.Apart.{Chain}
use Rattle.donors.specs.Choice.{Choice, Copy, copy0, copy1, Variant, card_rules}
use Rattle.donors.specs.Donor.{Edit, end}
use Rattle.donors.specs.Rules.{put_if, edit_of, takes?, edits}
use Rattle.donors.specs.Table.{row_at, variants_from, choice_of, choices_from, room_at?, row_takes?}
use Rattle.donors.specs.Walk.{takes_row?}
use Rattle.donors.proofs.TableLaws.{row_takes, taken_side}
use Rattle.matching.specs.BestOf.{keep?}
use Rattle.matching.specs.Card.{card_finite}
use Rattle.matching.specs.Fits.{end_before, fits_on?, fits?}
use Rattle.matching.specs.Made.{Kept}
use Rattle.matching.proofs.AnswerLaws.{choices_length}
use Rattle.matching.proofs.EntryLaws.{entries, entry_at, entries_length, entries_at_lem}
use Rattle.matching.proofs.KeepLaws.{keep_words, reached, chain_put, reached_put, edits_none, edits_so_far, edits_one}

choices_append : (φ : List ℕ) (i k m : ℕ) → choices_from φ i (k + m) ≡ choices_from φ i k ++ choices_from φ (i + k) m
unfolding choices_from
choices_append φ i zero m = let e : i + 0 ≡ i = omega arith in rw (zero-add m, e)
choices_append φ i (suc k) m =
    let e : suc k + m ≡ suc (k + m) = omega arith in
    let f : i + suc k ≡ (i + 1) + k = omega arith in
    rw (e, f) (ap (λ (ψ : List Choice). choice_of (get_or φ i 0) ∷ ψ) (choices_append φ (i + 1) k m))

choices_last : (φ : List ℕ) (n : ℕ) → choices_from φ 0 (suc n) ≡ choices_from φ 0 n ++ (choice_of (get_or φ n 0) ∷ [])
unfolding choices_from
choices_last φ n = let e : suc n ≡ n + 1 = omega arith in ap (choices_from φ 0) e ∙ choices_append φ 0 n 1 ∙ rw (zero-add n)

pub and_not : (s t : Bool) → s ≡ false → false ≡ s && t
and_not s t e = rw e

pub and_so : (s t u : Bool) → s ≡ true → u ≡ t → u ≡ s && t
and_so s t u e f = rw e f

module _ (t : List Row) (φ : List ℕ) (j : Bool) (h : Copy) (n i : ℕ) (l : 0 < n) (e : i ≡ n - 1) where
  end_step : end_before t φ j h n ≡ pick (takes_row? t φ j h i) ((row_at t i).start + (row_at t i).len) (end_before t φ j h i)
  unfolding end_before
  end_step = let f : n ≡ suc i = omega arith in rw f

  pub end_here : takes_row? t φ j h i ≡ true → end_before t φ j h n ≡ (row_at t i).start + (row_at t i).len
  end_here u = end_step ∙ rw u

  pub end_earlier : takes_row? t φ j h i ≡ false → end_before t φ j h n ≡ end_before t φ j h i
  end_earlier u = end_step ∙ rw u

pub end_none : (t : List Row) (φ : List ℕ) (j : Bool) (h : Copy) (n : ℕ) → n ≤ 0 → end_before t φ j h n ≡ 0
unfolding end_before
end_none t φ j h n l = let f : n ≡ 0 = omega arith in rw f

module _ (t : List Row) (φ : List ℕ) (n : ℕ) (c : Choice) (h : Copy) where
  pub no_room : room_at? (row_at t n) c h ≡ false → true ≡ fits_on? t φ n c h
  no_room e = rw e

  pub with_room : (e s : ℕ) → room_at? (row_at t n) c h ≡ true → e ≡ end_before t φ (row_at t n).first h n → s ≡ (row_at t n).start → leb e s ≡ fits_on? t φ n c h
  with_room e s u f g = rw (u, f, g)

module _ (reference first second : List ℕ) (t : List Row) where
  -- the entries of the rows before row n
  abbrev rows : ℕ → List Variant
  rows n = entries reference first second t 0 n

  row_last : (n : ℕ) → rows (suc n) ≡ rows n ++ (entry_at reference first second t n ∷ [])
  unfolding variants_from
  row_last n =
      let e : suc n - (n + 1) ≡ 0 = omega arith in
      entries_at_lem reference first second t n (suc n) (omega arith)
      ∙ ap (λ (k : ℕ). rows n ++ (entry_at reference first second t n ∷ entries reference first second t (n + 1) k)) e

  module _ (φ : List ℕ) where
    as_many : (n : ℕ) → length (choices_from φ 0 n) ≡ length (rows n)
    as_many n = choices_length φ 0 n ∙ sym (entries_length reference first second t 0 n)

    -- the edits of the rows before row n
    abbrev made : Bool → Copy → ℕ → List Edit
    made j h n = edits card_rules j h (rows n) (choices_from φ 0 n)

    pub end_reached : (j : Bool) (h : Copy) (n : ℕ) → end_before t φ j h n ≡ reached 0 (made j h n)
    unfolding end_before reached edits choices_from
    end_reached j h zero = rw (edits_none j h (rows 0))
    end_reached j h (suc n) =
        let c = choice_of (get_or φ n 0) in
        let x = entry_at reference first second t n in
        rw (end_reached j h n) (sym (ap₂ (λ (xs : List Variant) (ψ : List Choice). reached 0 (edits card_rules j h xs ψ)) (row_last n) (choices_last φ n)
        ∙ ap (reached 0) (edits_one (rows n) x [] (choices_from φ 0 n) (as_many n) j h c)
        ∙ reached_put (takes? card_rules j h x c) (made j h n) (edit_of card_rules x c h)
        ∙ ap (λ (b : Bool). pick b (end (edit_of card_rules x c h)) (reached 0 (made j h n)))
        (row_takes reference (pick (row_at t n).first first second) (row_at t n) c j h)))

    -- row n is the next of the rows, and the choices before it are kept
    module _ (m n : ℕ) (l : n < m) (k : Kept (rows m) (choices_from φ 0 n)) (c : Choice) where
      abbrev x : Variant
      x = entry_at reference first second t n

      abbrev vs : List Variant
      vs = entries reference first second t (n + 1) (m - (n + 1))

      all : rows m ≡ rows n ++ (x ∷ vs)
      all = entries_at_lem reference first second t n m l

      -- its edit and those before it
      abbrev more : Bool → Copy → List Edit
      more j h = made j h n ++ put_if (takes? card_rules j h x c) (edit_of card_rules x c h) []

      more_is : (j : Bool) (h : Copy) → edits card_rules j h (rows m) (choices_from φ 0 n ++ (c ∷ [])) ≡ more j h
      more_is j h = rw all (edits_one (rows n) x vs (choices_from φ 0 n) (as_many n) j h c)

      so_far : (j : Bool) (h : Copy) → Chain 0 (made j h n)
      so_far j h =
          subst (Chain 0) (ap (λ (xs : List Variant). edits card_rules j h xs (choices_from φ 0 n)) all ∙ edits_so_far (rows n) x vs (choices_from φ 0 n) (as_many n) j h)
          ((keep_words (rows m) (choices_from φ 0 n)).0 k j h)

      -- the end of its list's edits is no matter where it takes no span
      abbrev Free : Copy → Type 0
      Free h = T (room_at? (row_at t n) c h) → end_before t φ (row_at t n).first h n ≤ (row_at t n).start

      free_iff : (h : Copy) → T (fits_on? t φ n c h) ↔ Free h
      free_iff h = go (room_at? (row_at t n) c h)
        where
          go : (b : Bool) → T (not b || leb (end_before t φ (row_at t n).first h n) (row_at t n).start) ↔ (T b → end_before t φ (row_at t n).first h n ≤ (row_at t n).start)
          go true = (λ u v. leb→le _ _ u, λ f. le→leb _ _ (f tt))
          go false = (λ u v. absurd v, λ f. tt)

      chain_iff : (h : Copy) → ((j : Bool) → Chain 0 (more j h)) ↔ Free h
      chain_iff h = (to, of)
        where
          step : (j : Bool) → Chain 0 (more j h) ↔ (T (takes? card_rules j h x c) → reached 0 (made j h n) ≤ x.start)
          step j = chain_put (takes? card_rules j h x c) (made j h n) (edit_of card_rules x c h) (so_far j h)

          own : (b r : Bool) → T r → T (beq b b && r)
          own true r u = u
          own false r u = u

          to : ((j : Bool) → Chain 0 (more j h)) → Free h
          to f u =
              let j = (row_at t n).first in
              let v : T (takes? card_rules j h x c) = rw (row_takes reference (pick j first second) (row_at t n) c j h) (own j (room_at? (row_at t n) c h) u) in
              rw (end_reached j h n) ((step j).0 (f j) v)

          of : Free h → (j : Bool) → Chain 0 (more j h)
          of f j = (step j).1 (λ u.
              let v : T (row_takes? (row_at t n) c j h) = rw (row_takes reference (pick (row_at t n).first first second) (row_at t n) c j h) at u in
              let w = (both (beq j (row_at t n).first) (room_at? (row_at t n) c h)).0 v in
              rw (sym (end_reached j h n)) (subst (λ (i : Bool). end_before t φ i h n ≤ (row_at t n).start) (taken_side j (row_at t n).first (room_at? (row_at t n) c h) v) (f w.1)))

      pub fits_keeps : keep? card_rules card_finite (rows m) (choices_from φ 0 n ++ (c ∷ [])) ≡ fits? t φ n c
      fits_keeps = one_test _ _ (to, of)
        where
          two : T (fits? t φ n c) ↔ (T (fits_on? t φ n c copy0) × T (fits_on? t φ n c copy1))
          two = both (fits_on? t φ n c copy0) (fits_on? t φ n c copy1)

          to : Kept (rows m) (choices_from φ 0 n ++ (c ∷ [])) → T (fits? t φ n c)
          to u =
              let w : (h : Copy) → Free h = λ h. (chain_iff h).0 (λ j. subst (Chain 0) (more_is j h) ((keep_words (rows m) (choices_from φ 0 n ++ (c ∷ []))).0 u j h)) in
              two.1 ((free_iff copy0).1 (w copy0), (free_iff copy1).1 (w copy1))

          of : T (fits? t φ n c) → Kept (rows m) (choices_from φ 0 n ++ (c ∷ []))
          of u = (keep_words (rows m) (choices_from φ 0 n ++ (c ∷ []))).1 (λ j h. subst (Chain 0) (sym (more_is j h)) ((chain_iff h).1 (free h) j))
            where
              free : (h : Copy) → Free h
              free copy0 = (free_iff copy0).0 (two.0 u).0
              free copy1 = (free_iff copy1).0 (two.0 u).1
