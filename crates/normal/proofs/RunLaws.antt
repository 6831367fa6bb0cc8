-- Laws of tests in a row, and of the shortest length.
--     le_or_lt                        two numbers, one way or the other
--     run_le, run_below, run_stop     how many hold in a row: at most n, all of them do, and the next does not
--     run_is                          that says which number it is
--     shortest_le, shortest_one       no allele is shorter, and one has that length
-- Assumes nothing.
use mathlib.Core.Bool.{Bool, true, false}
use mathlib.Core.List.Memᴰ
use mathlib.Core.List.{List, [], ◌∷◌, Memᴰ}
use mathlib.Core.Logic.{◌⊎◌, inl, inr, ⊎_elim}
use mathlib.Core.Path.{◌≡◌, refl}
use Prim.Native.Nat.{ℕ, zero, suc, ◌-◌, ◌≤◌, ◌<◌, min}
use native.Mathlib.Nat.{not-suc-le-zero, le_of_suc-le-suc, min-le_left, min-le_right, eq-zero-or-pos}
use native.Mathlib.Omega.{arith}
use lib.Dec.{T}
use lib.ListN.{length}
use Rattle.bases.proofs.TestLaws.{of_true, of_false}
use Rattle.bases.specs.Pick.{pick}
use Rattle.normal.specs.Form.{Each, One}
use Rattle.normal.specs.Cut.{run, shortest}

pub le_or_lt : (a b : ℕ) → (a ≤ b) ⊎ (b < a)
le_or_lt a b = ⊎_elim (λ z. inl (omega arith)) (λ p. inr (omega arith)) (eq-zero-or-pos (a - b))

pub run_le : (t : ℕ → Bool) (n : ℕ) → run t n ≤ n
unfolding run
run_le t zero = omega arith
run_le t (suc n) = go (t 0) (run_le (λ i. t (suc i)) n)
  where
    go : (b : Bool) {k : ℕ} → k ≤ n → pick b (suc k) 0 ≤ suc n
    go true h = omega arith
    go false h = omega arith

pub run_below : (t : ℕ → Bool) (n k : ℕ) → k < run t n → T (t k)
unfolding run
run_below t zero k h = absurd (not-suc-le-zero h)
run_below t (suc n) k h = go k (t 0) refl (λ i. run_below (λ j. t (suc j)) n i) h
  where
    go : (k : ℕ) (b : Bool) → t 0 ≡ b → ((i : ℕ) → i < run (λ j. t (suc j)) n → T (t (suc i))) → k < pick b (suc (run (λ j. t (suc j)) n)) 0 → T (t k)
    go zero true e more h = of_true e
    go (suc k) true e more h = more k (le_of_suc-le-suc h)
    go k false e more h = absurd (not-suc-le-zero h)

pub run_stop : (t : ℕ → Bool) (n : ℕ) → run t n < n → T (t (run t n)) → ⊥
unfolding run
run_stop t zero h = absurd (not-suc-le-zero h)
run_stop t (suc n) h = go (t 0) refl (run_stop (λ j. t (suc j)) n) h
  where
    go : (b : Bool) → t 0 ≡ b → (run (λ j. t (suc j)) n < n → T (t (suc (run (λ j. t (suc j)) n))) → ⊥) → pick b (suc (run (λ j. t (suc j)) n)) 0 < suc n
        → T (t (pick b (suc (run (λ j. t (suc j)) n)) 0)) → ⊥
    go true e more h = more (le_of_suc-le-suc h)
    go false e more h = of_false e

pub run_is : (t : ℕ → Bool) (n k : ℕ) → k ≤ n → ((i : ℕ) → i < k → T (t i)) → (k < n → T (t k) → ⊥) → run t n ≡ k
run_is t n k h below stop =
    let low : run t n < k → ⊥ = λ l. run_stop t n (omega arith) (below (run t n) l) in
    let high : k < run t n → ⊥ = λ l. stop (omega (arith, run_le t n)) (run_below t n k l) in
    omega arith

pub shortest_le : (ref : List ℕ) (xs : List (List ℕ)) → Each (λ a. shortest ref xs ≤ length a) (ref ∷ xs)
unfolding shortest
shortest_le ref [] a m = ⊎_elim (λ e. rw e (omega arith)) (λ n. absurd (Memᴰ.not-nil n)) (Memᴰ.cases_cons m)
shortest_le ref (x ∷ xs) a m =
    ⊎_elim (λ e. le a (Memᴰ.head e) (shortest_le ref xs)) (λ n. ⊎_elim here (λ k. le a (Memᴰ.tail k) (shortest_le ref xs)) (Memᴰ.cases_cons n)) (Memᴰ.cases_cons m)
  where
    here : a ≡ x → min (length x) (shortest ref xs) ≤ length a
    here e = rw e (omega (arith, min-le_left (length x) (shortest ref xs)))

    le : (b : List ℕ) → Memᴰ b (ref ∷ xs) → Each (λ a. shortest ref xs ≤ length a) (ref ∷ xs) → min (length x) (shortest ref xs) ≤ length b
    le b k all = omega (arith, min-le_right (length x) (shortest ref xs), all b k)

pub shortest_one : (ref : List ℕ) (xs : List (List ℕ)) → One (λ a. length a ≡ shortest ref xs) (ref ∷ xs)
unfolding shortest
shortest_one ref [] = (ref, Memᴰ.head refl, refl)
shortest_one ref (x ∷ xs) = ⊎_elim new (old (shortest_one ref xs)) (le_or_lt (length x) (shortest ref xs))
  where
    new : length x ≤ shortest ref xs → One (λ a. length a ≡ shortest ref (x ∷ xs)) (ref ∷ x ∷ xs)
    new h = (x, Memᴰ.tail (Memᴰ.head refl), omega arith)

    old : One (λ a. length a ≡ shortest ref xs) (ref ∷ xs) → shortest ref xs < length x → One (λ a. length a ≡ shortest ref (x ∷ xs)) (ref ∷ x ∷ xs)
    old (a, m, e) h = (a, ⊎_elim (λ d. Memᴰ.head d) (λ k. Memᴰ.tail (Memᴰ.tail k)) (Memᴰ.cases_cons m), omega arith)
