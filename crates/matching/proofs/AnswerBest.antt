-- The answer of `best_choices` in document 01's words.
--     made_start      what is carried at the start of the search
--     search_start    the search from there on answers the best choices
--     best_answer_lem     of plain entries in merged order, the choices in the answer are the best pair, and the score is the number of chosen entries in both lists
-- Assumes nothing.
use Rattle.std.specs.Prelude.{Some, None}
use mathlib.Core.List.{List, []}
use mathlib.Core.Path.{◌≡◌, sym, ap, ◌∙◌, subst}
use Prim.Native.Nat.{ℕ, ◌-◌}
use native.Mathlib.Omega.{arith}
use lib.ListN.{length, replicate}
use Rattle.donors.specs.declared.table.Row.{Row}
use Rattle.donors.specs.Apart.{All}
use Rattle.donors.specs.Choice.{Choice, Variant, Plain, card_rules}
use Rattle.donors.specs.Items.{Sorted, Solid}
use Rattle.donors.specs.Table.{most, choices_from}
use Rattle.matching.specs.Answer.{answer_of, improved}
use Rattle.matching.specs.BestOf.{keep?}
use Rattle.matching.specs.Card.{card_scoring, card_finite, card_best, chosen_count, BestPair}
use Rattle.matching.specs.Made.{answer_from, best_answer, weights_to, Made}
use Rattle.matching.proofs.AnswerLaws.{array_choices}
use Rattle.matching.proofs.BestOfLaws.{search_any}
use Rattle.matching.proofs.CardBest.{score_words, card_best_lem}
use Rattle.matching.proofs.EntryLaws.{entries, entries_length}
use Rattle.matching.proofs.ImprovedLaws.{nothing_improved}
use Rattle.matching.proofs.LegalLaws.{legal_keeps}
use Rattle.matching.proofs.MadeLaws.{made_none}
use Rattle.matching.proofs.WeightLaws.{weights_rows}

pub best_answer_lem : (R : List ℕ) (xs : List Variant) → All Plain xs → Solid card_rules xs → Sorted card_rules xs
    → BestPair R xs (choices_from (best_answer R xs).choices 0 (length xs))
    × ((best_answer R xs).score ≡ chosen_count xs (choices_from (best_answer R xs).choices 0 (length xs)))
best_answer_lem R xs plain solid sorted =
    let b = (card_best_lem R xs plain solid sorted).0 in
    let e : card_best R xs ≡ choices_from (best_answer R xs).choices 0 (length xs) = sym (array_choices (card_best R xs) (length xs) b.legal.long) in
    subst (λ (φ : List Choice). BestPair R xs φ × ((best_answer R xs).score ≡ chosen_count xs φ)) e (b, score_words xs plain (card_best R xs))

-- the entries of a table, and nothing is chosen yet
module _ (reference first second : List ℕ) (t : List Row) (n : ℕ) where
  abbrev all : List Variant
  all = entries reference first second t 0 n

  start : choices_from (replicate most 48) 0 (n - n) ≡ []
  unfolding choices_from
  start = let e : n - n ≡ 0 = omega arith in rw e

  pub made_start : (top : ℕ) → top ≡ weights_to t n → Made all (choices_from (replicate most 48) 0 (n - n)) (replicate most 48) top
  made_start top e = rw (start, e, weights_rows reference first second t n) (made_none all)

  pub search_start : improved None (answer_from reference all n (choices_from (replicate most 48) 0 (n - n))) ≡ Some (best_answer reference all)
  search_start =
      rw start (nothing_improved (answer_from reference all n [])
      ∙ ap (λ (k : ℕ). answer_from reference all k []) (sym (entries_length reference first second t 0 n))
      ∙ ap (answer_of all) (search_any card_rules card_scoring reference all card_finite (keep? card_rules card_finite all) (legal_keeps card_rules card_finite reference all)))
