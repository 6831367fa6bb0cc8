-- The card's own best pair: the general theorems at the card's rules and score.
--     rank_words        `+` ranks before `-`, and `-` before `0`
--     score_words       the score is the number of chosen entries in both lists
--     all_allowed       every choice is allowed
--     legal_words       a legal pair is what document 01 and request c say, for entries in merged order
--     best_words        and so is the best pair, where each of them counts 1
--     card_best_lem         card_best is that best pair, and the only one
--     card_split        at a cut, choices are together legal, and together best, exactly if each side is
--     card_clusters     over any clusters cut where they may be, the best pair is the clusters' best pairs, joined
--     card_chop         and a string is best exactly if, chopped, it is best in each cluster
-- Assumes nothing.
use mathlib.Core.Bool.{Bool, true, false, beq, ◌&&◌}
use mathlib.Core.List.{List, [], ◌∷◌, ◌++◌, map}
use mathlib.Core.Logic.{◌↔◌}
use mathlib.Core.Path.{◌≡◌, refl, subst, fun_ext}
use Prim.Native.Nat.{ℕ, ◌+◌, ◌<◌}
use native.Mathlib.Omega.{arith}
use lib.ListN.{length}
use Rattle.donors.specs.Apart.{All}
use Rattle.donors.specs.Choice.{Choice, plus, minus, out, Copy, copy0, copy1, Variant, Plain, chosen?, card_rules, those, chosen_of}
use Rattle.donors.specs.Items.{Sorted, Solid}
use Rattle.donors.specs.Rules.{list1, list2, put_if, donor_of, Allowed}
use Rattle.donors.proofs.ChoiceLaws.{card_apart}
use Rattle.matching.specs.Best.{Best, score, IsBest}
use Rattle.matching.specs.Card.{counts, rank_of, card_scoring, card_finite, card_best, LegalPair, chosen_count, BestPair}
use Rattle.matching.specs.Cut.{join, Cut, Cuts, EachBest, chop}
use Rattle.matching.specs.Legal.{Legal}
use Rattle.matching.proofs.BestOfLaws.{best_one, best_there}
use Rattle.matching.proofs.ClusterLaws.{cuts_chop, best_clusters}
use Rattle.matching.proofs.CutLaws.{legal_split, best_split}

pub rank_words : (rank_of plus < rank_of minus) × (rank_of minus < rank_of out)
rank_words = omega arith

counts_put : (s : Bool) (c : Choice) (x : Variant) (us vs : List Variant) → x.weight ≡ 1
    → length (put_if (beq list1 s && chosen? c) x us) + length (put_if (beq list2 s && chosen? c) x vs) ≡ counts x c + (length us + length vs)
counts_put true plus x us vs e = omega arith
counts_put true minus x us vs e = omega arith
counts_put true out x us vs e = omega arith
counts_put false plus x us vs e = omega arith
counts_put false minus x us vs e = omega arith
counts_put false out x us vs e = omega arith

pub score_words : (xs : List Variant) → All Plain xs → (φ : List Choice) → score card_scoring xs φ ≡ chosen_count xs φ
unfolding score those
score_words [] p φ = refl
score_words (x ∷ xs) p [] = refl
score_words (x ∷ xs) p (c ∷ φ) = omega (arith, counts_put x.side c x (chosen_of list1 xs φ) (chosen_of list2 xs φ) p.0.weight, score_words xs p.1 φ)

pub all_allowed : (xs : List Variant) (φ : List Choice) → Allowed card_rules xs φ
all_allowed [] φ = tt
all_allowed (x ∷ xs) [] = tt
all_allowed (x ∷ xs) (c ∷ φ) = (tt, all_allowed xs φ)

module _ (R : List ℕ) (xs : List Variant) (solid : Solid card_rules xs) (sorted : Sorted card_rules xs) where
  pub legal_words : (φ : List Choice) → Legal card_rules R xs φ ↔ LegalPair R xs φ
  legal_words φ = (
    λ g. record { long = g.long; apart = λ j h. (card_apart j h xs φ solid sorted).0 (g.apart j h); same0 = g.same copy0; same1 = g.same copy1 },
    λ g. record { long = g.long; allowed = all_allowed xs φ; apart = λ j h. (card_apart j h xs φ solid sorted).1 (g.apart j h); same = same g },
  )
    where
      same : LegalPair R xs φ → (h : Copy) → donor_of card_rules R list1 h xs φ ≡ donor_of card_rules R list2 h xs φ
      same g copy0 = g.same0
      same g copy1 = g.same1

module _ (R : List ℕ) (xs : List Variant) (plain : All Plain xs) (solid : Solid card_rules xs) (sorted : Sorted card_rules xs) where
  words : (φ : List Choice) → Legal card_rules R xs φ ↔ LegalPair R xs φ
  words = legal_words R xs solid sorted

  pub best_words : (φ : List Choice) → IsBest card_rules card_scoring R xs φ ↔ BestPair R xs φ
  best_words φ =
      let e : score card_scoring xs ≡ chosen_count xs = fun_ext (score_words xs plain) in
      subst (λ (s : List Choice → ℕ). IsBest card_rules card_scoring R xs φ ↔ Best rank_of (LegalPair R xs) s φ) e (
        λ b. record { legal = (words φ).0 b.legal; top = λ ψ g. b.top ψ ((words ψ).1 g) },
        λ b. record { legal = (words φ).1 b.legal; top = λ ψ g. b.top ψ ((words ψ).0 g) },
      )

  pub card_best_lem : BestPair R xs (card_best R xs) × ((φ : List Choice) → BestPair R xs φ → φ ≡ card_best R xs)
  card_best_lem =
      let b = best_there card_rules card_scoring R xs card_finite in
      ((best_words (card_best R xs)).0 b, λ φ h. best_one card_rules card_scoring R xs φ (card_best R xs) ((best_words φ).1 h) b)

pub card_split : (R : List ℕ) (xs ys : List Variant) → Cut card_rules R xs ys → (φ ψ : List Choice) → length φ ≡ length xs
    → (Legal card_rules R (xs ++ ys) (φ ++ ψ) ↔ (Legal card_rules R xs φ × Legal card_rules R ys ψ))
    × (IsBest card_rules card_scoring R (xs ++ ys) (φ ++ ψ) ↔ (IsBest card_rules card_scoring R xs φ × IsBest card_rules card_scoring R ys ψ))
card_split R xs ys k φ ψ l = (legal_split card_rules R xs ys k φ ψ l, best_split card_rules card_scoring R xs ys k φ ψ l)

pub card_clusters : (R : List ℕ) (cs : List (List Variant)) → Cuts card_rules R cs → card_best R (join cs) ≡ join (map (card_best R) cs)
card_clusters R cs k = best_clusters card_rules card_scoring R card_finite cs k

pub card_chop : (R : List ℕ) (cs : List (List Variant)) (φ : List Choice) → Cuts card_rules R cs → length φ ≡ length (join cs)
    → IsBest card_rules card_scoring R (join cs) φ ↔ EachBest card_rules R card_scoring cs (chop cs φ)
card_chop R cs φ k l = cuts_chop card_rules card_scoring R cs φ k l
