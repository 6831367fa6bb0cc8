-- Laws of the edits of a list's rows.
--     edits_in, edit_at         the edits of n rows from row i on, and that of row i
--     edits_taken, edits_skipped, edits_past
--                             the edits of the rows from row i on: by whether row i takes its span, and at the end
--     edits_next              they are those from the next row on that takes its span
--     edits_own               a list's edits come from the text of that list alone
-- Assumes nothing.
use mathlib.Core.Bool.{Bool, true, false, beq, ◌&&◌}
use mathlib.Core.List.{List, [], ◌∷◌}
use mathlib.Core.Path.{◌≡◌, refl, ◌∙◌}
use Prim.Native.Nat.{ℕ, zero, suc, ◌+◌, ◌-◌, ◌≤◌, ◌<◌}
use native.Mathlib.Omega.{arith}
use lib.ListN.{get_or}
use Rattle.bases.specs.Pick.{pick}
use Rattle.donors.specs.declared.table.Row.{Row}
use Rattle.donors.specs.Choice.{Choice, Copy, card_rules}
use Rattle.donors.specs.Donor.{Edit}
use Rattle.donors.specs.Rules.{put_if, edit_of, edits}
use Rattle.donors.specs.Table.{row_at, variant_of, variants_from, variants_in, choice_of, choices_from, room_at?}
use Rattle.donors.specs.Walk.{takes_row?, next_row}
use Rattle.donors.proofs.TableLaws.{row_takes}

-- The edits that n rows from row i on make on copy h as entries of list j, whose text this is.
abbrev pub edits_in : List ℕ → List ℕ → List Row → List ℕ → Bool → Copy → ℕ → ℕ → List Edit
edits_in reference text t φ j h i n = edits card_rules j h (variants_in reference text t i n) (choices_from φ i n)

-- The edit of row i.
abbrev pub edit_at : List ℕ → List ℕ → List Row → List ℕ → Copy → ℕ → Edit
edit_at reference text t φ h i = edit_of card_rules (variant_of reference text (row_at t i)) (choice_of (get_or φ i 0)) h

module _ (reference text : List ℕ) (t : List Row) (φ : List ℕ) (j : Bool) (h : Copy) where
  edits_first : (i m : ℕ) → edits_in reference text t φ j h i (suc m) ≡ put_if (takes_row? t φ j h i) (edit_at reference text t φ h i) (edits_in reference text t φ j h (i + 1) m)
  unfolding edits variants_in choices_from
  edits_first i m = rw (row_takes reference text (row_at t i) (choice_of (get_or φ i 0)) j h)

  edits_more : (i n : ℕ) → i < n
      → edits_in reference text t φ j h i (n - i) ≡ put_if (takes_row? t φ j h i) (edit_at reference text t φ h i) (edits_in reference text t φ j h (i + 1) (n - (i + 1)))
  edits_more i n l = let e : n - i ≡ suc (n - (i + 1)) = omega arith in rw e (edits_first i (n - (i + 1)))

  pub edits_taken : (i n : ℕ) → i < n → takes_row? t φ j h i ≡ true
      → edits_in reference text t φ j h i (n - i) ≡ edit_at reference text t φ h i ∷ edits_in reference text t φ j h (i + 1) (n - (i + 1))
  edits_taken i n l e = edits_more i n l ∙ rw e

  edits_skipped : (i n : ℕ) → i < n → takes_row? t φ j h i ≡ false → edits_in reference text t φ j h i (n - i) ≡ edits_in reference text t φ j h (i + 1) (n - (i + 1))
  edits_skipped i n l e = edits_more i n l ∙ rw e

  pub edits_past : (i n : ℕ) → n ≤ i → edits_in reference text t φ j h i (n - i) ≡ []
  unfolding edits variants_in
  edits_past i n l = let e : n - i ≡ 0 = omega arith in rw e

  edits_within : (m i n : ℕ) → n - i ≡ m → edits_in reference text t φ j h i (n - i) ≡ edits_in reference text t φ j h (next_row t φ j h i m) (n - next_row t φ j h i m)
  unfolding next_row
  edits_within zero i n e = refl
  edits_within (suc m) i n e = go (takes_row? t φ j h i) refl (next_row t φ j h (i + 1) m) (edits_within m (i + 1) n (omega arith))
    where
      go : (b : Bool) → takes_row? t φ j h i ≡ b → (r : ℕ) → edits_in reference text t φ j h (i + 1) (n - (i + 1)) ≡ edits_in reference text t φ j h r (n - r)
          → edits_in reference text t φ j h i (n - i) ≡ edits_in reference text t φ j h (pick b i r) (n - pick b i r)
      go true f r w = refl
      go false f r w = edits_skipped i n (omega arith) f ∙ w

  pub edits_next : (i n : ℕ) → edits_in reference text t φ j h i (n - i) ≡ edits_in reference text t φ j h (next_row t φ j h i (n - i)) (n - next_row t φ j h i (n - i))
  edits_next i n = edits_within (n - i) i n refl

pub edits_own : (reference first second : List ℕ) (t : List Row) (j : Bool) (h : Copy) (φ : List Choice) (i n : ℕ)
    → edits card_rules j h (variants_from reference first second t i n) φ ≡ edits card_rules j h (variants_in reference (pick j first second) t i n) φ
unfolding edits variants_from variants_in
edits_own reference first second t j h φ i zero = refl
edits_own reference first second t j h [] i (suc n) = refl
edits_own reference first second t j h (c ∷ φ) i (suc n) =
    rw (
      edits_own reference first second t j h φ (i + 1) n,
      row_takes reference (pick (row_at t i).first first second) (row_at t i) c j h,
    ) (go j (row_at t i).first (room_at? (row_at t i) c h))
  where
    es : List Edit
    es = edits card_rules j h (variants_in reference (pick j first second) t (i + 1) n) φ

    entry : Bool → Edit
    entry b = edit_of card_rules (variant_of reference (pick b first second) (row_at t i)) c h

    go : (j b r : Bool) → put_if (beq j b && r) (entry b) es ≡ put_if (beq j b && r) (entry j) es
    go true true r = refl
    go true false r = refl
    go false true r = refl
    go false false r = refl
