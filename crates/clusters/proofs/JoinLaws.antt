-- Lists one behind the other: where an element of list k stands.
--     join_at                     element i of list k, behind the lists before it
--     first_apart, first_within   list k ends before a later one begins, and within the whole
--     join_of                     each element of the whole is of some list
--     join_same, map_at, joined_at   lists made of others, each as long as that
--     join_more                   one list more
-- Assumes nothing.
use mathlib.Core.List.{List, [], ◌∷◌, ◌++◌, map, append_assoc, append-nil}
use mathlib.Core.Path.{◌≡◌, refl, sym, ap, ap₂, ◌∙◌}
use Prim.Native.Nat.{ℕ, zero, suc, ◌+◌, ◌-◌, ◌≤◌, ◌<◌}
use native.Mathlib.Decide.{dec_lt}
use native.Mathlib.Nat.{zero-add}
use native.Mathlib.Omega.{arith}
use lib.ListN.{length, get_or, take, length-append, get_or-append}
use lib.Seq.{get_or-append-add}
use Rattle.matching.specs.Cut.{join}

module _ {A : Type 0} where
  -- How many elements stand before list k.
  abbrev pub before : List (List A) → ℕ → ℕ
  before cs k = length (join (take k cs))

  pub join_at : (cs : List (List A)) (k i : ℕ) (z : A) → i < length (get_or cs k []) → get_or (join cs) (before cs k + i) z ≡ get_or (get_or cs k []) i z
  unfolding join
  join_at [] zero i z h = absurd (omega arith)
  join_at [] (suc k) i z h = absurd (omega arith)
  join_at (c ∷ cs) zero i z h = ap (λ (n : ℕ). get_or (c ++ join cs) n z) (zero-add i) ∙ get_or-append c (join cs) z i h
  join_at (c ∷ cs) (suc k) i z h =
      let e : length (c ++ join (take k cs)) + i ≡ length c + (before cs k + i) = omega (arith, length-append c (join (take k cs))) in
      ap (λ (n : ℕ). get_or (c ++ join cs) n z) e ∙ get_or-append-add c (join cs) (before cs k + i) z ∙ join_at cs k i z h

  pub first_apart : (cs : List (List A)) (k j : ℕ) → k < j → before cs k + length (get_or cs k []) ≤ before cs j
  unfolding join
  first_apart cs k zero h = absurd (omega arith)
  first_apart [] zero (suc j) h = omega arith
  first_apart [] (suc k) (suc j) h = omega arith
  first_apart (c ∷ cs) zero (suc j) h = omega (arith, length-append c (join (take j cs)))
  first_apart (c ∷ cs) (suc k) (suc j) h =
      omega (arith, length-append c (join (take k cs)), length-append c (join (take j cs)), first_apart cs k j (omega arith))

  pub first_within : (cs : List (List A)) (k : ℕ) → before cs k + length (get_or cs k []) ≤ length (join cs)
  unfolding join
  first_within [] zero = omega arith
  first_within [] (suc k) = omega arith
  first_within (c ∷ cs) zero = omega (arith, length-append c (join cs))
  first_within (c ∷ cs) (suc k) = omega (arith, length-append c (join (take k cs)), length-append c (join cs), first_within cs k)

  -- Element e of the whole is element i of list k.
  pub record Of (cs : List (List A)) (e : ℕ) : Type 0 where
    pub list : ℕ
    pub place : ℕ
    pub there : list < length cs
    pub inside : place < length (get_or cs list [])
    pub at : e ≡ before cs list + place

  pub join_of : (cs : List (List A)) (e : ℕ) → e < length (join cs) → Of cs e
  unfolding join
  join_of [] e h = absurd (omega arith)
  join_of (c ∷ cs) e h = go (dec_lt e (length c)) (join_of cs (e - length c))
    where
      go : Dec (e < length c) → (e - length c < length (join cs) → Of cs (e - length c)) → Of (c ∷ cs) e
      go (yes k) f = record { list = 0; place = e; there = omega arith; inside = k; at = sym (zero-add e) }
      go (no k) f =
          let o = f (omega (arith, length-append c (join cs))) in
          record {
            list = suc o.list;
            place = o.place;
            there = omega (arith, o.there);
            inside = o.inside;
            at = omega (arith, o.at, length-append c (join (take o.list cs)));
          }

-- Lists made of others, each as long as that: they begin where those do, and list k is made of that one.
module _ {A B : Type 0} (f : List A → List B) (same : (c : List A) → length (f c) ≡ length c) (none : f [] ≡ []) where
  pub join_same : (cs : List (List A)) (k : ℕ) → before (map f cs) k ≡ before cs k
  unfolding join
  join_same cs zero = refl
  join_same [] (suc k) = refl
  join_same (c ∷ cs) (suc k) =
      length-append (f c) (join (take k (map f cs))) ∙ ap₂ ◌+◌ (same c) (join_same cs k) ∙ sym (length-append c (join (take k cs)))

  pub map_at : (cs : List (List A)) (k : ℕ) → get_or (map f cs) k [] ≡ f (get_or cs k [])
  map_at [] zero = sym none
  map_at [] (suc k) = sym none
  map_at (c ∷ cs) zero = refl
  map_at (c ∷ cs) (suc k) = map_at cs k

  -- Element i of list k, among the lists made of them.
  pub joined_at : (cs : List (List A)) (k i : ℕ) (z : B) → i < length (get_or cs k []) → get_or (join (map f cs)) (before cs k + i) z ≡ get_or (f (get_or cs k [])) i z
  joined_at cs k i z h =
      let e = map_at cs k in
      ap (λ (n : ℕ). get_or (join (map f cs)) (n + i) z) (sym (join_same cs k))
      ∙ join_at (map f cs) k i z (rw (e, same (get_or cs k [])) h)
      ∙ ap (λ (c : List B). get_or c i z) e

  pub join_more : (cs : List (List A)) (n : ℕ) → n < length cs → join (map f (take (suc n) cs)) ≡ join (map f (take n cs)) ++ f (get_or cs n [])
  unfolding join
  join_more [] n h = absurd (omega arith)
  join_more (c ∷ cs) zero h = append-nil (f c)
  join_more (c ∷ cs) (suc n) h =
      ap (λ (l : List B). f c ++ l) (join_more cs n (omega arith)) ∙ sym (append_assoc (f c) (join (map f (take n cs))) (f (get_or cs n [])))

  pub join_long : (cs : List (List A)) (n : ℕ) → length (join (map f (take n cs))) ≡ before cs n
  unfolding join
  join_long cs zero = refl
  join_long [] (suc n) = refl
  join_long (c ∷ cs) (suc n) = length-append (f c) (join (map f (take n cs))) ∙ ap₂ ◌+◌ (same c) (join_long cs n) ∙ sym (length-append c (join (take n cs)))
