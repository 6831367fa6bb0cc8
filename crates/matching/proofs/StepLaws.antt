-- Laws of the card's search: one step of it.
--     search_stop                 with no choice left the answer is the choices made, where they are legal
--     below                       the answer below one more choice, nothing where that is not kept
--     below_kept, below_dropped   where it is kept, and where it is not
--     below_most                  it scores no more than with every entry left chosen
--     search_three                the best so far, improved by the search's answer, is that improved by the answers below `+`, below `-` and below `0`, in turn
-- Assumes nothing.
use Rattle.std.specs.Prelude.{None}
use mathlib.Core.Bool.{true, false, cond}
use mathlib.Core.List.{List, [], ◌∷◌, ◌++◌}
use mathlib.Core.Option.{Option, none, some}
use mathlib.Core.Path.{◌≡◌, refl, ap, ◌∙◌}
use Prim.Native.Nat.{ℕ, suc, ◌+◌, ◌<◌}
use native.Mathlib.Omega.{arith}
use lib.ListN.{length, drop}
use Rattle.donors.specs.Choice.{Choice, plus, minus, out, Variant, card_rules}
use Rattle.matching.specs.Answer.{Answer, answer_of, improved}
use Rattle.matching.specs.Best.{First, score}
use Rattle.matching.specs.BestOf.{keep?}
use Rattle.matching.specs.Card.{rank_of, card_scoring, card_finite}
use Rattle.matching.specs.Made.{card_legal?, card_search, answer_from, weights}
use Rattle.matching.specs.Search.{better, best_over, search}
use Rattle.matching.proofs.ImprovedLaws.{AtMost, improved_three, better_improved}
use Rattle.matching.proofs.ScoreLaws.{score_more}
use Rattle.matching.proofs.TopLaws.{Of, of_both, cond_of, better_of, GoesOn, search_goes_on, goes_sooner}

better_none : (xs : List Variant) (o : Option (List Choice)) → better rank_of (score card_scoring xs) o none ≡ o
unfolding better
better_none xs none = refl
better_none xs (some φ) = refl

module _ (R : List ℕ) (xs : List Variant) where
  -- the search's answer below one more choice, none where that is not kept
  abbrev kept_on : ℕ → List Choice → Choice → Option (List Choice)
  kept_on m φ c = cond (keep? card_rules card_finite xs (φ ++ (c ∷ []))) (card_search R xs m (φ ++ (c ∷ []))) none

  abbrev pub below : ℕ → List Choice → Choice → Answer
  below m φ c = answer_of xs (kept_on m φ c)

  pub search_stop : (φ : List Choice) → card_search R xs 0 φ ≡ cond (card_legal? R xs φ) (some φ) none
  unfolding search
  search_stop φ = refl

  search_step : (m : ℕ) (φ : List Choice)
      → card_search R xs (suc m) φ ≡ better rank_of (score card_scoring xs) (kept_on m φ plus) (better rank_of (score card_scoring xs) (kept_on m φ minus) (kept_on m φ out))
  unfolding search best_over
  search_step m φ =
      ap (λ (o : Option (List Choice)). better rank_of (score card_scoring xs) (kept_on m φ plus) (better rank_of (score card_scoring xs) (kept_on m φ minus) o)) (better_none xs (kept_on m φ out))

  pub below_kept : (m : ℕ) (φ : List Choice) (c : Choice) → keep? card_rules card_finite xs (φ ++ (c ∷ [])) ≡ true → below m φ c ≡ answer_from R xs m (φ ++ (c ∷ []))
  below_kept m φ c e = rw e

  pub below_dropped : (m : ℕ) (φ : List Choice) (c : Choice) → keep? card_rules card_finite xs (φ ++ (c ∷ [])) ≡ false → below m φ c ≡ None
  below_dropped m φ c e = rw e

  below_on : (m : ℕ) (φ : List Choice) (c : Choice) → Of (GoesOn (φ ++ (c ∷ []))) (kept_on m φ c)
  below_on m φ c =
      let θ = φ ++ (c ∷ []) in
      cond_of (GoesOn θ) (card_search R xs m θ) (keep? card_rules card_finite xs θ)
      (search_goes_on rank_of (score card_scoring xs) card_finite.choices (keep? card_rules card_finite xs) (card_legal? R xs) m θ)

  pub below_most : (m : ℕ) (φ : List Choice) (c : Choice)
      → AtMost (score card_scoring xs (φ ++ (c ∷ [])) + weights (drop (length (φ ++ (c ∷ []))) xs)) (below m φ c)
  below_most m φ c = go (kept_on m φ c) (below_on m φ c)
    where
      go : (o : Option (List Choice)) → Of (GoesOn (φ ++ (c ∷ []))) o
          → AtMost (score card_scoring xs (φ ++ (c ∷ [])) + weights (drop (length (φ ++ (c ∷ []))) xs)) (answer_of xs o)
      go none g = tt
      go (some ψ) g = rw g.1 (score_more xs (φ ++ (c ∷ [])) g.0)

  -- the answer below one choice comes before that below one that ranks behind it
  sooner : (m : ℕ) (φ : List Choice) (c d : Choice) → rank_of c < rank_of d → Of (λ (χ : List Choice). Of (First rank_of χ) (kept_on m φ d)) (kept_on m φ c)
  sooner m φ c d h = goes_sooner rank_of φ c d h (kept_on m φ c) (kept_on m φ d) (below_on m φ c) (below_on m φ d)

  pub search_three : (m : ℕ) (φ : List Choice) (best : Answer)
      → improved best (answer_from R xs (suc m) φ) ≡ improved (improved (improved best (below m φ plus)) (below m φ minus)) (below m φ out)
  search_three m φ best = ap (improved best) three ∙ improved_three best (below m φ plus) (below m φ minus) (below m φ out)
    where
      two : Option (List Choice)
      two = better rank_of (score card_scoring xs) (kept_on m φ minus) (kept_on m φ out)

      first : Of (λ (χ : List Choice). Of (First rank_of χ) two) (kept_on m φ plus)
      first = of_both (λ (χ : List Choice). Of (First rank_of χ) (kept_on m φ minus)) (λ (χ : List Choice). Of (First rank_of χ) (kept_on m φ out)) (λ (χ : List Choice). Of (First rank_of χ) two)
          (λ χ. better_of rank_of (score card_scoring xs) (First rank_of χ) (kept_on m φ minus) (kept_on m φ out))
          (kept_on m φ plus) (sooner m φ plus minus (omega arith)) (sooner m φ plus out (omega arith))

      three : answer_from R xs (suc m) φ ≡ improved (below m φ plus) (improved (below m φ minus) (below m φ out))
      three =
          ap (answer_of xs) (search_step m φ) ∙ better_improved xs (kept_on m φ plus) two first
          ∙ ap (improved (below m φ plus)) (better_improved xs (kept_on m φ minus) (kept_on m φ out) (sooner m φ minus out (omega arith)))
