-- What the line of a refusal asks: its four numbers can be printed.
--     first_printable                      those of the first refusal
--     list_printable, lists_printable      those of a reference file and a list, and of a reference file and two
-- Assumes nothing.
use mathlib.Core.Bool.{Bool}
use mathlib.Core.List.{List, ◌∷◌}
use Prim.Native.Nat.{ℕ, ◌≤◌}
use native.Mathlib.Omega.{arith}
use Rattle.bases.specs.Letter.{bases_of}
use Rattle.bases.proofs.FirstLaws.{AllTold, first_all}
use Rattle.card.specs.Refusal.{Check, refusal, no_refusal, first_refusal, list_check, list_checks, lists_checks}
use Rattle.vcf.specs.List.{judge_text}
use Rattle.vcf.proofs.GivenLaws.{given_words, judge_given, judge_place_fits}
use Rattle.vcf.proofs.JudgeLaws.{judge_line_fits}
use Rattle.lines.specs.Lines.{largest_number}
use Rattle.told.specs.Told.{file_check, Printable}

first_printable : (cs : List Check) → AllTold Printable cs → Printable (first_refusal cs)
first_printable cs u =
    first_all no_refusal Printable (record { number = omega arith; list = omega arith; line = omega arith; place = omega arith }) cs u

by_number : (n : ℕ) → n ≤ largest_number → Printable (refusal n 0 0 0)
by_number n h = record { number = omega arith; list = omega arith; line = omega arith; place = omega arith }

by_list : (j : ℕ) (reference name text : List ℕ) → j ≤ 2 → Printable (list_check j reference name text).told
by_list j reference name text h = record {
  number = omega (arith, (given_words (judge_text (bases_of reference) name text).number (judge_text (bases_of reference) name text).place (judge_given (bases_of reference) name text)).0);
  list = omega arith;
  line = omega (arith, judge_line_fits (bases_of reference) name text);
  place = omega (arith, judge_place_fits (bases_of reference) name text);
}

module _ (file reference name first : List ℕ) (small : Bool) where
  pub list_printable : Printable (first_refusal (file_check file ∷ list_checks reference name first small))
  list_printable = first_printable _ (by_number 1 (omega arith), (by_number 1 (omega arith), (by_number 2 (omega arith), (by_list 1 reference name first (omega arith), tt))))

  pub lists_printable : (second : List ℕ) → Printable (first_refusal (file_check file ∷ lists_checks reference name first second small))
  lists_printable second =
      first_printable _ (
        by_number 1 (omega arith),
        (by_number 1 (omega arith), (by_number 2 (omega arith), (by_list 1 reference name first (omega arith), (by_list 2 reference name second (omega arith), tt)))),
      )
