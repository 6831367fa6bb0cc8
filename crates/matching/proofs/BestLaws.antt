-- Laws of the best string.
--     best_unique     there is one best string at the most
--     best_product    where legality splits and the score adds, best pairs multiply: the whole is best exactly if its two parts are
-- Assumes nothing.
use mathlib.Core.List.{List, ◌++◌}
use mathlib.Core.Logic.{inl, inr, ◌↔◌}
use mathlib.Core.Path.{◌≡◌, sym, ◌∙◌, subst}
use Prim.Native.Nat.{ℕ, ◌+◌, ◌≤◌}
use native.Mathlib.Omega.{arith}
use lib.ListN.{length, take, drop, take-append-drop}
use lib.Seq.{length-take-le}
use Rattle.matching.specs.Best.{Beats, Best}
use Rattle.matching.proofs.OrderLaws.{before_antisym, first_antisym, first_append, first_front, first_back}

module _ {C : Type 0} (rank : C → ℕ) where
  pub best_unique : ((a b : C) → rank a ≡ rank b → a ≡ b) → (L : List C → Type 0) (s : List C → ℕ) (φ ψ : List C) → Best rank L s φ → Best rank L s ψ → φ ≡ ψ
  best_unique d L s φ ψ a b =
      let e = before_antisym (a.top ψ b.legal) (b.top φ a.legal) in
      first_antisym rank d φ ψ e.1 e.2

  module _ (n : ℕ) (L L1 L2 : List C → Type 0) (s s1 s2 : List C → ℕ)
      (long : (θ : List C) → L θ → n ≤ length θ) (long1 : (φ : List C) → L1 φ → length φ ≡ n)
      (splits : (φ ψ : List C) → length φ ≡ n → L (φ ++ ψ) ↔ (L1 φ × L2 ψ))
      (adds : (φ ψ : List C) → length φ ≡ n → s (φ ++ ψ) ≡ s1 φ + s2 ψ) where
    fronts : (φ ψ φ' : List C) → length φ ≡ n → length φ' ≡ n → Beats rank s (φ ++ ψ) (φ' ++ ψ) → Beats rank s1 φ φ'
    fronts φ ψ φ' l l' (inl h) = inl (omega (arith, adds φ ψ l, adds φ' ψ l'))
    fronts φ ψ φ' l l' (inr h) = inr (omega (arith, adds φ ψ l, adds φ' ψ l'), first_front rank φ φ' ψ ψ (l ∙ sym l') h.1)

    backs : (φ ψ ψ' : List C) → length φ ≡ n → Beats rank s (φ ++ ψ) (φ ++ ψ') → Beats rank s2 ψ ψ'
    backs φ ψ ψ' l (inl h) = inl (omega (arith, adds φ ψ l, adds φ ψ' l))
    backs φ ψ ψ' l (inr h) = inr (omega (arith, adds φ ψ l, adds φ ψ' l), first_back rank φ ψ ψ' h.1)

    joint : (φ φ' ψ ψ' : List C) → length φ ≡ n → length φ' ≡ n → Beats rank s1 φ φ' → Beats rank s2 ψ ψ' → Beats rank s (φ ++ ψ) (φ' ++ ψ')
    joint φ φ' ψ ψ' l l' (inl a) (inl b) = inl (omega (arith, adds φ ψ l, adds φ' ψ' l'))
    joint φ φ' ψ ψ' l l' (inl a) (inr b) = inl (omega (arith, adds φ ψ l, adds φ' ψ' l'))
    joint φ φ' ψ ψ' l l' (inr a) (inl b) = inl (omega (arith, adds φ ψ l, adds φ' ψ' l'))
    joint φ φ' ψ ψ' l l' (inr a) (inr b) =
        inr (omega (arith, adds φ ψ l, adds φ' ψ' l'), first_append rank φ φ' ψ ψ' (l ∙ sym l') a.1 b.1)

    whole : (φ ψ θ : List C) → length φ ≡ n → Best rank L1 s1 φ → Best rank L2 s2 ψ → L θ → Beats rank s (φ ++ ψ) θ
    whole φ ψ θ l a b h =
        let c : take n θ ++ drop n θ ≡ θ = take-append-drop n θ in
        let l' : length (take n θ) ≡ n = length-take-le n θ (long θ h) in
        let h' = (splits (take n θ) (drop n θ) l').0 (rw c h) in
        subst (Beats rank s (φ ++ ψ)) c (joint φ (take n θ) ψ (drop n θ) l l' (a.top (take n θ) h'.0) (b.top (drop n θ) h'.1))

    pub best_product : (φ ψ : List C) → length φ ≡ n → Best rank L s (φ ++ ψ) ↔ (Best rank L1 s1 φ × Best rank L2 s2 ψ)
    best_product φ ψ l = (
      λ b. let h = (splits φ ψ l).0 b.legal in (
        record { legal = h.0; top = λ φ' h'. fronts φ ψ φ' l (long1 φ' h') (b.top (φ' ++ ψ) ((splits φ' ψ (long1 φ' h')).1 (h', h.1))) },
        record { legal = h.1; top = λ ψ' h'. backs φ ψ ψ' l (b.top (φ ++ ψ') ((splits φ ψ' l).1 (h.0, h'))) },
      ),
      λ b. record { legal = (splits φ ψ l).1 (b.0.legal, b.1.legal); top = λ θ h. whole φ ψ θ l b.0 b.1 h },
    )
