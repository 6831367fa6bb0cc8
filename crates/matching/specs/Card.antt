-- The card's own score and rank, read off the entries. Document 01: the score is the number of chosen entries in both lists, each of which
-- counts 1; `+` ranks before `-` before `0`.
-- Assumes nothing: these are definitions.
use Rattle.std.specs.Prelude.{Bool, List, [], ◌∷◌, ◌≡◌, refl, ℕ, ◌+◌, length}
use Rattle.std.proofs.Common.{inl, inr, arith}
use Rattle.bases.specs.Pick.{pick}
use Rattle.donors.specs.Apart.{Pairwise}
use Rattle.donors.specs.Choice.{Choice, plus, minus, out, Copy, copy0, copy1, Variant, chosen?}
use Rattle.donors.specs.Choice.{card_rules, chosen_of, carriers_of, SpansApart}
use Rattle.donors.specs.Rules.{list1, list2, donor_of}
use Rattle.matching.specs.Best.{Best, Scoring}
use Rattle.matching.specs.BestOf.{Covers, Finite, best_of}

-- What a choice counts: the entry's weight, if it is chosen.
abbrev pub counts : Variant → Choice → ℕ
counts x c = pick (chosen? c) x.weight 0

-- `+` before `-` before `0`.
abbrev pub rank_of : Choice → ℕ
rank_of plus = 0
rank_of minus = 1
rank_of out = 2

-- No two choices rank alike.
pub rank_distinct : (a b : Choice) → rank_of a ≡ rank_of b → a ≡ b
rank_distinct plus plus e = refl
rank_distinct plus minus e = absurd (omega arith)
rank_distinct plus out e = absurd (omega arith)
rank_distinct minus plus e = absurd (omega arith)
rank_distinct minus minus e = refl
rank_distinct minus out e = absurd (omega arith)
rank_distinct out plus e = absurd (omega arith)
rank_distinct out minus e = absurd (omega arith)
rank_distinct out out e = refl

-- The card's scoring.
abbrev pub card_scoring : Scoring Variant Choice
card_scoring = record { weight = counts; rank = rank_of; distinct = rank_distinct }

-- The choices and the copies are all there.
pub every_choice : Covers (plus ∷ minus ∷ out ∷ [])
every_choice plus = inl refl
every_choice minus = inr (inl refl)
every_choice out = inr (inr (inl refl))

pub every_copy : Covers (copy0 ∷ copy1 ∷ [])
every_copy copy0 = inl refl
every_copy copy1 = inr (inl refl)

-- What the card searches over.
abbrev pub card_finite : Finite card_rules
card_finite = record {
  choices = plus ∷ minus ∷ out ∷ [];
  copies = copy0 ∷ copy1 ∷ [];
  out = out;
  all_choices = every_choice;
  all_copies = every_copy;
  out_ok = λ x. tt;
  out_room = λ x h. refl;
}

-- The best string of choices for entries in merged order on a reference.
abbrev pub card_best : List ℕ → List Variant → List Choice
card_best R xs = best_of card_rules card_finite card_scoring R xs

-- A legal pair of choices in request c's words: no two chosen entries of one list overlap on the same copy where both carry an allele other
-- than REF; and in document 01's: the lists' donors are equal on copy 0 and on copy 1.
pub record LegalPair (R : List ℕ) (xs : List Variant) (φ : List Choice) : Type 0 where
  pub long : length φ ≡ length xs
  pub apart : (j : Bool) (h : Copy) → Pairwise SpansApart (carriers_of j h xs φ)
  pub same0 : donor_of card_rules R list1 copy0 xs φ ≡ donor_of card_rules R list2 copy0 xs φ
  pub same1 : donor_of card_rules R list1 copy1 xs φ ≡ donor_of card_rules R list2 copy1 xs φ

-- The number of chosen entries in both lists.
abbrev pub chosen_count : List Variant → List Choice → ℕ
chosen_count xs φ = length (chosen_of list1 xs φ) + length (chosen_of list2 xs φ)

-- The best pair in document 01's words: of the legal pairs that with the most chosen entries, and among equals the first in dictionary
-- order.
abbrev pub BestPair : List ℕ → List Variant → List Choice → Type 0
BestPair R xs φ = Best rank_of (LegalPair R xs) (chosen_count xs) φ
