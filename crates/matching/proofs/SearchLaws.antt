-- The search finds the best. It may drop any choices that no legal string begins with: so one theorem serves each search of the card.
--     some_of, some_out       an element that P holds of, and one that it is known to hold of
--     Answers                 an answer is the best of the strings that P allows, or there are none
--     answer_found            where there is one, the answer is a string
--     better_answers, over_answers
--                             the better of two answers, and the best over the choices
--     From, search_answers    the search from a beginning on answers for the legal strings that begin so
--     search_best             the search from nothing on answers for all of them
-- Assumes nothing.
use mathlib.Core.Bool.{Bool, true, false, cond}
use mathlib.Core.List.{List, [], ◌∷◌, ◌++◌, append_assoc, append-nil}
use mathlib.Core.Logic.{◌⊎◌, inl, inr, ⊎_elim, ◌↔◌}
use mathlib.Core.Option.{Option, none, some}
use mathlib.Core.Path.{◌≡◌, refl, sym, ap, ◌∙◌, subst}
use Prim.Native.Nat.{ℕ, zero, suc, ◌+◌, ◌≤◌}
use native.Mathlib.Omega.{arith}
use lib.Dec.{T}
use lib.ListN.{length, length-append}
use Rattle.matching.specs.Best.{Beats, Best}
use Rattle.matching.specs.BestOf.{Some, Covers}
use Rattle.matching.specs.Search.{beats?, better, best_over, search}
use Rattle.matching.proofs.OrderLaws.{beats_iff, beats_refl, beats_trans, beats_total}

pub some_of : {A : Type 0} (P : A → Type 0) (a : A) (l : List A) → Some (λ (b : A). a ≡ b) l → P a → Some P l
some_of P a [] m p = absurd m
some_of P a (b ∷ l) (inl e) p = inl (subst P e p)
some_of P a (b ∷ l) (inr m) p = inr (some_of P a l m p)

pub some_out : {A : Type 0} (P : A → Type 0) (Q : Type 0) (l : List A) → ((a : A) → P a → Q) → Some P l → Q
some_out P Q [] f m = absurd m
some_out P Q (b ∷ l) f (inl p) = f b p
some_out P Q (b ∷ l) f (inr m) = some_out P Q l f m

module _ {C : Type 0} (rank : C → ℕ) (s : List C → ℕ) where
  -- The answer is the best of the strings that P allows, or there are none.
  abbrev pub Answers : (List C → Type 0) → Option (List C) → Type 0
  Answers P none = (ψ : List C) → P ψ → ⊥
  Answers P (some φ) = Best rank P s φ

  answers_iff : (P Q : List C → Type 0) → ((ψ : List C) → P ψ ↔ Q ψ) → (o : Option (List C)) → Answers P o → Answers Q o
  answers_iff P Q f none a = λ ψ q. a ψ ((f ψ).1 q)
  answers_iff P Q f (some φ) a = record { legal = (f φ).0 a.legal; top = λ ψ q. a.top ψ ((f ψ).1 q) }

  pub answer_found : (P : List C → Type 0) (φ : List C) → P φ → (o : Option (List C)) → Answers P o → (ψ : List C) × (o ≡ some ψ) × Best rank P s ψ
  answer_found P φ p none a = absurd (a φ p)
  answer_found P φ p (some ψ) a = (ψ, refl, a)

  pub better_answers : (P Q : List C → Type 0) (a b : Option (List C)) → Answers P a → Answers Q b → Answers (λ (ψ : List C). P ψ ⊎ Q ψ) (better rank s a b)
  unfolding better
  better_answers P Q none none f g = λ ψ. ⊎_elim (f ψ) (g ψ)
  better_answers P Q none (some ψ) f g = record { legal = inr g.legal; top = λ χ. ⊎_elim (λ p. absurd (f χ p)) (g.top χ) }
  better_answers P Q (some φ) none f g = record { legal = inl f.legal; top = λ χ. ⊎_elim (f.top χ) (λ q. absurd (g χ q)) }
  better_answers P Q (some φ) (some ψ) f g =
      let i = beats_iff rank s φ ψ in
      go (beats? rank s φ ψ) i.0 (λ n. ⊎_elim (λ w. absurd (n (i.1 w))) (λ w. w) (beats_total rank s φ ψ))
    where
      go : (t : Bool) → (T t → Beats rank s φ ψ) → ((T t → ⊥) → Beats rank s ψ φ) → Best rank (λ (χ : List C). P χ ⊎ Q χ) s (cond t φ ψ)
      go true y n = record { legal = inl f.legal; top = λ χ. ⊎_elim (f.top χ) (λ q. beats_trans rank s φ ψ χ (y tt) (g.top χ q)) }
      go false y n = record { legal = inr g.legal; top = λ χ. ⊎_elim (λ p. beats_trans rank s ψ φ χ (n (λ u. u)) (f.top χ p)) (g.top χ) }

  pub over_answers : (P : C → List C → Type 0) (f : C → Option (List C)) → ((c : C) → Answers (P c) (f c)) → (cs : List C)
      → Answers (λ (ψ : List C). Some (λ (c : C). P c ψ) cs) (best_over rank s f cs)
  unfolding best_over
  over_answers P f a [] = λ ψ m. m
  over_answers P f a (c ∷ cs) = better_answers (P c) (λ (ψ : List C). Some (λ (d : C). P d ψ) cs) (f c) (best_over rank s f cs) (a c) (over_answers P f a cs)

  -- the legal strings L are of length n, and keep? drops no string that a legal one begins with
  module _ (choices : List C) (all : Covers choices) (keep? legal? : List C → Bool) (n : ℕ) (L : List C → Type 0)
      (legal_iff : (φ : List C) → T (legal? φ) ↔ L φ) (long : (φ : List C) → L φ → length φ ≡ n)
      (keeps : (φ ψ : List C) → L (φ ++ ψ) → T (keep? φ)) where
    -- The string is legal and begins with φ.
    abbrev pub From : List C → List C → Type 0
    From φ ψ = L ψ × ((τ : List C) × (ψ ≡ φ ++ τ))

    -- what begins with φ and is longer begins with φ and one more
    from_more : (φ ψ : List C) → length φ + 1 ≤ n → From φ ψ ↔ Some (λ (c : C). From (φ ++ (c ∷ [])) ψ) choices
    from_more φ ψ h = (
      λ g. to g.1.0 g.1.1 g.0,
      some_out (λ (c : C). From (φ ++ (c ∷ [])) ψ) (From φ ψ) choices (λ c g. (g.0, (c ∷ g.1.0, g.1.1 ∙ append_assoc φ (c ∷ []) g.1.0))),
    )
      where
        to : (τ : List C) → ψ ≡ φ ++ τ → L ψ → Some (λ (c : C). From (φ ++ (c ∷ [])) ψ) choices
        to [] e g = absurd (omega (arith, long ψ g, ap length (e ∙ append-nil φ)))
        to (c ∷ τ) e g = some_of (λ (d : C). From (φ ++ (d ∷ [])) ψ) c choices (all c) (g, (τ, e ∙ sym (append_assoc φ (c ∷ []) τ)))

    -- a string of the full length is the only one that begins with it
    from_all : (φ ψ : List C) → length φ ≡ n → From φ ψ → ψ ≡ φ
    from_all φ ψ h g = to g.1.0 g.1.1
      where
        to : (τ : List C) → ψ ≡ φ ++ τ → ψ ≡ φ
        to [] e = e ∙ append-nil φ
        to (c ∷ τ) e = absurd (omega (arith, long ψ g.0, ap length e, length-append φ (c ∷ τ)))

    stop_answers : (φ : List C) → length φ ≡ n → (t : Bool) → T t ↔ L φ → Answers (From φ) (cond t (some φ) none)
    stop_answers φ h true f = record {
      legal = (f.0 tt, ([], sym (append-nil φ)));
      top = λ ψ g. subst (λ (θ : List C). Beats rank s φ θ) (sym (from_all φ ψ h g)) (beats_refl rank s φ);
    }
    stop_answers φ h false f = λ ψ g. f.1 (subst L (from_all φ ψ h g) g.0)

    -- what the search makes of choice c behind φ, with m more to make
    abbrev next : ℕ → List C → C → Option (List C)
    next m φ c = cond (keep? (φ ++ (c ∷ []))) (search rank s choices keep? legal? m (φ ++ (c ∷ []))) none

    kept_answers : (θ : List C) (r : Option (List C)) (t : Bool) → ((ψ : List C) → From θ ψ → T t) → Answers (From θ) r → Answers (From θ) (cond t r none)
    kept_answers θ r true f a = a
    kept_answers θ r false f a = f

    pub search_answers : (m : ℕ) (φ : List C) → length φ + m ≡ n → Answers (From φ) (search rank s choices keep? legal? m φ)
    unfolding search
    search_answers zero φ h = stop_answers φ (omega arith) (legal? φ) (legal_iff φ)
    search_answers (suc m) φ h =
        answers_iff (λ (ψ : List C). Some (λ (c : C). From (φ ++ (c ∷ [])) ψ) choices) (From φ)
        (λ ψ. let i = from_more φ ψ (omega arith) in (i.1, i.0)) (best_over rank s (next m φ) choices)
        (over_answers (λ (c : C). From (φ ++ (c ∷ []))) (next m φ) (λ c.
        kept_answers (φ ++ (c ∷ [])) (search rank s choices keep? legal? m (φ ++ (c ∷ []))) (keep? (φ ++ (c ∷ [])))
        (λ ψ g. keeps (φ ++ (c ∷ [])) g.1.0 (subst L g.1.1 g.0))
        (search_answers m (φ ++ (c ∷ [])) (omega (arith, length-append φ (c ∷ []))))) choices)

    pub search_best : Answers L (search rank s choices keep? legal? n [])
    search_best =
        answers_iff (From []) L (λ ψ. (λ g. g.0, λ g. (g, (ψ, refl)))) (search rank s choices keep? legal? n []) (search_answers n [] (omega arith))
