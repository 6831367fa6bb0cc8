-- Laws of lists whose members are looked at one by one.
--     paired       two lists with the same images: each member of the second has a partner in the first
--     map_length, map_at
--                  two lists with the same images: their lengths, and place by place
--     map_through  a function that agrees with two others in turn, on each member
--     map_inj      an injective function gives the same list only of the same list
--     all_iff      a test holds of all exactly if it holds of each
-- Assumes nothing.
use mathlib.Core.Bool.{Bool}
use mathlib.Core.List.Memᴰ
use mathlib.Core.List.{List, [], ◌∷◌, map, Memᴰ, nil≢cons}
use mathlib.Core.Logic.{◌↔◌, ⊎_elim}
use mathlib.Core.Path.{◌≡◌, refl, sym, ap, subst, ◌∙◌}
use Prim.Native.Nat.{ℕ, zero, suc, ◌<◌}
use native.Mathlib.Nat.{not-suc-le-zero, le_of_suc-le-suc}
use lib.Dec.{T}
use lib.ListN.{length, get_or, length-map}
use Rattle.bases.proofs.TestLaws.{both}
use Rattle.normal.specs.Form.{Each, One}
use Rattle.normal.specs.Cut.{all?}

module _ (F G : List ℕ → List ℕ) where
  pub paired : (xs ys : List (List ℕ)) → map F xs ≡ map G ys → (b : List ℕ) → Memᴰ b ys → One (λ a. F a ≡ G b) xs
  paired [] [] e b m = absurd (Memᴰ.not-nil m)
  paired [] (y ∷ ys) e b m = absurd (nil≢cons e)
  paired (x ∷ xs) [] e b m = absurd (Memᴰ.not-nil m)
  paired (x ∷ xs) (y ∷ ys) e b m = ⊎_elim here (λ n. later (paired xs ys (cc) b n)) (Memᴰ.cases_cons m)
    where
      here : b ≡ y → One (λ a. F a ≡ G b) (x ∷ xs)
      here h = (x, Memᴰ.head refl, cc)

      later : One (λ a. F a ≡ G b) xs → One (λ a. F a ≡ G b) (x ∷ xs)
      later (a, n, h) = (a, Memᴰ.tail n, h)

  pub map_length : (xs ys : List (List ℕ)) → map F xs ≡ map G ys → length xs ≡ length ys
  map_length xs ys e = sym (length-map xs F) ∙ ap length e ∙ length-map ys G

  pub map_at : (xs ys : List (List ℕ)) → map F xs ≡ map G ys → (i : ℕ) → i < length xs → F (get_or xs i []) ≡ G (get_or ys i [])
  map_at [] ys e i h = absurd (not-suc-le-zero h)
  map_at (x ∷ xs) [] e i h = absurd (nil≢cons (sym e))
  map_at (x ∷ xs) (y ∷ ys) e zero h = cc
  map_at (x ∷ xs) (y ∷ ys) e (suc i) h = map_at xs ys (cc) i (le_of_suc-le-suc h)

  pub map_through : (H : List ℕ → List ℕ) (xs : List (List ℕ)) → Each (λ a. F a ≡ G (H a)) xs → map F xs ≡ map G (map H xs)
  map_through H [] h = refl
  map_through H (x ∷ xs) h =
      let e = h x (Memᴰ.head refl) in
      let k = map_through H xs (λ a m. h a (Memᴰ.tail m)) in
      cc

pub map_inj : (F : List ℕ → List ℕ) → ((a b : List ℕ) → F a ≡ F b → a ≡ b) → (xs ys : List (List ℕ)) → map F xs ≡ map F ys → xs ≡ ys
map_inj F i [] [] e = refl
map_inj F i [] (y ∷ ys) e = cc
map_inj F i (x ∷ xs) [] e = cc
map_inj F i (x ∷ xs) (y ∷ ys) e = let h = i x y (cc) in let k = map_inj F i xs ys (cc) in cc

pub all_iff : (t : List ℕ → Bool) (xs : List (List ℕ)) → T (all? t xs) ↔ Each (λ a. T (t a)) xs
unfolding all?
all_iff t [] = (λ h a m. absurd (Memᴰ.not-nil m), λ h. tt)
all_iff t (x ∷ xs) = (to (all_iff t xs), of (all_iff t xs))
  where
    to : T (all? t xs) ↔ Each (λ a. T (t a)) xs → T (all? t (x ∷ xs)) → Each (λ a. T (t a)) (x ∷ xs)
    to r h a m =
        let s = (both (t x) (all? t xs)).0 h in
        ⊎_elim (λ e. subst (λ (y : List ℕ). T (t y)) (sym e) s.0) (λ n. r.0 s.1 a n) (Memᴰ.cases_cons m)

    of : T (all? t xs) ↔ Each (λ a. T (t a)) xs → Each (λ a. T (t a)) (x ∷ xs) → T (all? t (x ∷ xs))
    of r h = (both (t x) (all? t xs)).1 (h x (Memᴰ.head refl), r.1 (λ a m. h a (Memᴰ.tail m)))
