-- Which numbers and places the calls give, in request a's words: "10 is given no more", and the place is "0 in all other rows" than 20 to
-- 23 "and where an allele is shown": that is `allele_answer_place` of card_abi/proofs/AnswerLaws.antt. (`given?` and its words are in
-- vcf/proofs/GivenLaws.antt.)
--     list_given, lists_given, mark_given, allele_given     the refusals of calls with one list and with two, of `mark` and of `allele`
--     answered_place                                        an answer that is no refusal has place 0
-- Assumes nothing.
use mathlib.Core.Bool.{Bool}
use mathlib.Core.List.{List}
use mathlib.Core.Path.{◌≡◌}
use Prim.Native.Nat.{ℕ}
use lib.Dec.{T}
use borrow.Author.Tests.{eq-eqb}
use Rattle.bases.specs.Letter.{bases_of}
use Rattle.bases.proofs.FirstLaws.{first_all}
use Rattle.clusters.specs.declared.plan.Cluster.{Cluster}
use Rattle.vcf.proofs.GivenLaws.{given?, judge_given}
use Rattle.card.specs.declared.refusal.Refusal.{Refusal}
use Rattle.card.specs.Allele.{allele_refusal}
use Rattle.card.specs.Answer.{answer_of}
use Rattle.card.specs.Mark.{mark_checks, mark_refusal}
use Rattle.card.specs.Refusal.{no_refusal, first_refusal, list_checks, lists_checks}
use Rattle.card.proofs.ShownLaws.{allele_checks}

abbrev pub Given : Refusal → Type 0
Given r = T (given? r.number r.place)

module _ (reference name first : List ℕ) where
  pub list_given : (small : Bool) → Given (first_refusal (list_checks reference name first small))
  list_given small = first_all no_refusal Given tt (list_checks reference name first small) (tt, (tt, (judge_given (bases_of reference) name first, tt)))

  pub allele_given : (i k : ℕ) → Given (allele_refusal reference name first i k)
  allele_given i k = first_all no_refusal Given tt (allele_checks reference name first i k) (tt, (judge_given (bases_of reference) name first, (tt, tt)))

  module _ (second : List ℕ) where
    pub lists_given : (small : Bool) → Given (first_refusal (lists_checks reference name first second small))
    lists_given small =
        first_all no_refusal Given tt (lists_checks reference name first second small)
        (tt, (tt, (judge_given (bases_of reference) name first, (judge_given (bases_of reference) name second, tt))))

    pub mark_given : (plan : List Cluster) (k room : ℕ) → Given (mark_refusal reference name first second plan k room)
    mark_given plan k room =
        first_all no_refusal Given tt (mark_checks reference name first second plan k room)
        (tt, (tt, (judge_given (bases_of reference) name first, (judge_given (bases_of reference) name second, (tt, (tt, tt))))))

pub answered_place : (r : Refusal) (value : ℕ) → r.number ≡ 0 → (answer_of r value).place ≡ 0
answered_place r value z = rw (eq-eqb r.number 0 z)
