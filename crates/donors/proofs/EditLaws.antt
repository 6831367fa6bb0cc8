-- Laws of the edits that choices make.
--     edits_append, allowed_append    the edits of two runs of items are those of each in turn; so with what is allowed
--     chain_front, allowed_front      what does not overlap, or is allowed, does not or is so far
--     edits_ends, edits_starts        edits lie where their items lie
--     edits_ordered, apart_words      of items in order a chain of edits is what document 01 asks: no two chosen spans of a list overlap on a copy
--     over_append                     sums over two runs of items
--     cuts_over, adds_over            edits take away and add no more than their items may
--     donors_near                     as far as a place that no item crosses, the two lists' donors differ in length by no more than reach
-- Assumes nothing.
use mathlib.Core.Bool.{Bool, true, false, beq, ◌&&◌}
use mathlib.Core.List.{List, [], ◌∷◌, ◌++◌}
use mathlib.Core.Logic.{◌↔◌}
use mathlib.Core.Path.{◌≡◌, refl, ap, ◌∙◌}
use Prim.Native.Nat.{ℕ, ◌+◌, ◌≤◌}
use native.Mathlib.Nat.{suc_inj}
use native.Mathlib.Omega.{arith}
use lib.Dec.{T}
use lib.ListN.{length}
use Rattle.donors.specs.Apart.{All, Chain, NoOverlap}
use Rattle.donors.specs.Donor.{Edit, donor_to}
use Rattle.donors.specs.Items.{only, Ends, Starts, Sorted, Solid, over, reach}
use Rattle.donors.specs.Rules.{Rules, list1, list2, put_if, edit_of, takes?, edits, Allowed}
use Rattle.donors.proofs.ApartLaws.{Ordered, chain_pairwise}
use Rattle.donors.proofs.DonorLaws.{EndsBy, StartsFrom, cuts, adds, donor_length}

put_append : (t : Bool) (e : Edit) (es fs : List Edit) → put_if t e (es ++ fs) ≡ put_if t e es ++ fs
put_append true e es fs = refl
put_append false e es fs = refl

put_all : (P : Edit → Type 0) (t : Bool) (e : Edit) (es : List Edit) → P e → All P es → All P (put_if t e es)
put_all P true e es a b = (a, b)
put_all P false e es a b = b

put_chain : (t : Bool) (e : Edit) (es fs : List Edit) → ((a : ℕ) → Chain a es → Chain a fs) → (a : ℕ) → Chain a (put_if t e es) → Chain a (put_if t e fs)
put_chain true e es fs f a c = (c.0, f _ c.1)
put_chain false e es fs f a c = f a c

put_ordered : (t : Bool) (e : Edit) (es : List Edit) → 1 ≤ e.len → StartsFrom e.start es → Ordered es → Ordered (put_if t e es)
put_ordered true e es h s o = (h, s, o)
put_ordered false e es h s o = o

module _ {X C H : Type 0} (𝓡 : Rules X C H) where
  pub edits_append : (j : Bool) (h : H) (xs ys : List X) (φ ψ : List C) → length φ ≡ length xs
      → edits 𝓡 j h (xs ++ ys) (φ ++ ψ) ≡ edits 𝓡 j h xs φ ++ edits 𝓡 j h ys ψ
  unfolding edits
  edits_append j h [] ys [] ψ l = refl
  edits_append j h [] ys (c ∷ φ) ψ l = absurd (omega arith)
  edits_append j h (x ∷ xs) ys [] ψ l = absurd (omega arith)
  edits_append j h (x ∷ xs) ys (c ∷ φ) ψ l =
      ap (put_if (takes? 𝓡 j h x c) (edit_of 𝓡 x c h)) (edits_append j h xs ys φ ψ (suc_inj l))
      ∙ put_append (takes? 𝓡 j h x c) (edit_of 𝓡 x c h) (edits 𝓡 j h xs φ) (edits 𝓡 j h ys ψ)

  pub allowed_append : (xs ys : List X) (φ ψ : List C) → length φ ≡ length xs → Allowed 𝓡 (xs ++ ys) (φ ++ ψ) ↔ (Allowed 𝓡 xs φ × Allowed 𝓡 ys ψ)
  allowed_append [] ys [] ψ l = (λ a. (tt, a), λ a. a.1)
  allowed_append [] ys (c ∷ φ) ψ l = absurd (omega arith)
  allowed_append (x ∷ xs) ys [] ψ l = absurd (omega arith)
  allowed_append (x ∷ xs) ys (c ∷ φ) ψ l =
      let i = allowed_append xs ys φ ψ (suc_inj l) in
      (λ a. ((a.0, (i.0 a.1).0), (i.0 a.1).1), λ a. (a.0.0, i.1 (a.0.1, a.1)))

  pub chain_front : (j : Bool) (h : H) (xs : List X) (φ ψ : List C) (a : ℕ) → Chain a (edits 𝓡 j h xs (φ ++ ψ)) → Chain a (edits 𝓡 j h xs φ)
  unfolding edits
  chain_front j h [] φ ψ a c = tt
  chain_front j h (x ∷ xs) [] ψ a c = tt
  chain_front j h (x ∷ xs) (d ∷ φ) ψ a c =
      put_chain (takes? 𝓡 j h x d) (edit_of 𝓡 x d h) (edits 𝓡 j h xs (φ ++ ψ)) (edits 𝓡 j h xs φ) (chain_front j h xs φ ψ) a c

  pub allowed_front : (xs : List X) (φ ψ : List C) → Allowed 𝓡 xs (φ ++ ψ) → Allowed 𝓡 xs φ
  allowed_front [] φ ψ a = tt
  allowed_front (x ∷ xs) [] ψ a = tt
  allowed_front (x ∷ xs) (c ∷ φ) ψ a = (a.0, allowed_front xs φ ψ a.1)

  pub edits_ends : (j : Bool) (h : H) (b : ℕ) (xs : List X) (φ : List C) → Ends 𝓡 b xs → EndsBy b (edits 𝓡 j h xs φ)
  unfolding edits
  edits_ends j h b [] φ u = tt
  edits_ends j h b (x ∷ xs) [] u = tt
  edits_ends j h b (x ∷ xs) (c ∷ φ) u = put_all _ (takes? 𝓡 j h x c) (edit_of 𝓡 x c h) (edits 𝓡 j h xs φ) u.0 (edits_ends j h b xs φ u.1)

  pub edits_starts : (j : Bool) (h : H) (p : ℕ) (xs : List X) (φ : List C) → Starts 𝓡 p xs → StartsFrom p (edits 𝓡 j h xs φ)
  unfolding edits
  edits_starts j h p [] φ u = tt
  edits_starts j h p (x ∷ xs) [] u = tt
  edits_starts j h p (x ∷ xs) (c ∷ φ) u = put_all _ (takes? 𝓡 j h x c) (edit_of 𝓡 x c h) (edits 𝓡 j h xs φ) u.0 (edits_starts j h p xs φ u.1)

  pub edits_ordered : (j : Bool) (h : H) (xs : List X) (φ : List C) → Solid 𝓡 xs → Sorted 𝓡 xs → Ordered (edits 𝓡 j h xs φ)
  unfolding edits
  edits_ordered j h [] φ n s = tt
  edits_ordered j h (x ∷ xs) [] n s = tt
  edits_ordered j h (x ∷ xs) (c ∷ φ) n s =
      put_ordered (takes? 𝓡 j h x c) (edit_of 𝓡 x c h) (edits 𝓡 j h xs φ) n.0
      (edits_starts j h (𝓡.start x) xs φ s.0) (edits_ordered j h xs φ n.1 s.1)

  pub apart_words : (j : Bool) (h : H) (xs : List X) (φ : List C) → Solid 𝓡 xs → Sorted 𝓡 xs
      → Chain 0 (edits 𝓡 j h xs φ) ↔ NoOverlap (edits 𝓡 j h xs φ)
  apart_words j h xs φ n s = chain_pairwise (edits 𝓡 j h xs φ) (edits_ordered j h xs φ n s)

  pub over_append : (f : X → ℕ) (j : Bool) (xs ys : List X) → over 𝓡 f j (xs ++ ys) ≡ over 𝓡 f j xs + over 𝓡 f j ys
  unfolding over
  over_append f j [] ys = omega arith
  over_append f j (x ∷ xs) ys = omega (arith, over_append f j xs ys)

  -- what an item's edit takes away and adds is within the item's bounds
  put_cuts : (t r : Bool) (x : X) (c : C) (h : H) (es : List Edit) (n : ℕ) → (T r → T (𝓡.room x c h)) → cuts es ≤ n
      → cuts (put_if (t && r) (edit_of 𝓡 x c h) es) ≤ only t (𝓡.shrink x) + n
  unfolding cuts
  put_cuts true true x c h es n f k = omega (arith, 𝓡.low x c h (f tt))
  put_cuts true false x c h es n f k = omega arith
  put_cuts false r x c h es n f k = omega arith

  put_adds : (t r : Bool) (x : X) (c : C) (h : H) (es : List Edit) (n : ℕ) → (T r → T (𝓡.room x c h)) → adds es ≤ n
      → adds (put_if (t && r) (edit_of 𝓡 x c h) es) ≤ only t (𝓡.grow x) + n
  unfolding adds
  put_adds true true x c h es n f k = omega (arith, 𝓡.high x c h (f tt))
  put_adds true false x c h es n f k = omega arith
  put_adds false r x c h es n f k = omega arith

  pub cuts_over : (j : Bool) (h : H) (xs : List X) (φ : List C) → cuts (edits 𝓡 j h xs φ) ≤ over 𝓡 𝓡.shrink j xs
  unfolding cuts edits over
  cuts_over j h [] φ = omega arith
  cuts_over j h (x ∷ xs) [] = omega arith
  cuts_over j h (x ∷ xs) (c ∷ φ) =
      put_cuts (beq j (𝓡.side x)) (𝓡.room x c h) x c h (edits 𝓡 j h xs φ) (over 𝓡 𝓡.shrink j xs) (λ r. r) (cuts_over j h xs φ)

  pub adds_over : (j : Bool) (h : H) (xs : List X) (φ : List C) → adds (edits 𝓡 j h xs φ) ≤ over 𝓡 𝓡.grow j xs
  unfolding adds edits over
  adds_over j h [] φ = omega arith
  adds_over j h (x ∷ xs) [] = omega arith
  adds_over j h (x ∷ xs) (c ∷ φ) =
      put_adds (beq j (𝓡.side x)) (𝓡.room x c h) x c h (edits 𝓡 j h xs φ) (over 𝓡 𝓡.grow j xs) (λ r. r) (adds_over j h xs φ)

  pub donors_near : (R : List ℕ) (h : H) (b : ℕ) (xs : List X) (φ : List C) → Ends 𝓡 b xs → b ≤ length R → ((j : Bool) → Chain 0 (edits 𝓡 j h xs φ))
      → (length (donor_to R 0 b (edits 𝓡 list1 h xs φ)) ≤ length (donor_to R 0 b (edits 𝓡 list2 h xs φ)) + reach 𝓡 xs)
      × (length (donor_to R 0 b (edits 𝓡 list2 h xs φ)) ≤ length (donor_to R 0 b (edits 𝓡 list1 h xs φ)) + reach 𝓡 xs)
  donors_near R h b xs φ u k c =
      let d1 = donor_length R 0 b (edits 𝓡 list1 h xs φ) (omega arith) k (c list1) (edits_ends list1 h b xs φ u) in
      let d2 = donor_length R 0 b (edits 𝓡 list2 h xs φ) (omega arith) k (c list2) (edits_ends list2 h b xs φ u) in
      let s1 = cuts_over list1 h xs φ in
      let s2 = cuts_over list2 h xs φ in
      let g1 = adds_over list1 h xs φ in
      let g2 = adds_over list2 h xs φ in
      (omega arith, omega arith)
