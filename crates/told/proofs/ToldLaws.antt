-- What is told, by whether there is a refusal.
--     file_open, file_past, file_ends
--                                the first refusal, by whether the reference file ends in LF
--     told_refused, told_text_lem    its line; else the text
--     Numbers                    four numbers are those of a refusal
--     numbers_printable, numbers_refused, numbers_text, answer_numbers
--                                they can be printed; what is told, by them
-- Assumes nothing.
use mathlib.Core.Bool.{Bool, true, false, not}
use mathlib.Core.List.{List, ◌∷◌}
use mathlib.Core.Logic.{◌≢◌}
use mathlib.Core.Path.{◌≡◌, refl, sym, ap, ◌∙◌}
use Prim.Native.Nat.{ℕ}
use native.Mathlib.Omega.{arith}
use borrow.Author.Tests.{eq-eqb, ne_eqb}
use Rattle.card.specs.declared.answer.Answer.{Answer}
use Rattle.card.specs.declared.refusal.Refusal.{Refusal}
use Rattle.card.specs.Answer.{refused_answer}
use Rattle.card.specs.Refusal.{Check, refusal, first_refusal}
use Rattle.card.proofs.RefusalLaws.{first_holds, first_not}
use Rattle.files.specs.File.{ends_in_lf?}
use Rattle.lines.specs.Lines.{refused_text}
use Rattle.told.specs.Told.{file_check, told_text, Printable}

module _ (file : List ℕ) (cs : List Check) where
  pub file_open : ends_in_lf? file ≡ false → first_refusal (file_check file ∷ cs) ≡ refusal 1 0 0 0
  file_open e = first_holds (file_check file) cs (ap not e)

  pub file_past : ends_in_lf? file ≡ true → first_refusal (file_check file ∷ cs) ≡ first_refusal cs
  file_past e = first_not (file_check file) cs (ap not e)

  pub file_ends : (first_refusal (file_check file ∷ cs)).number ≡ 0 → ends_in_lf? file ≡ true
  file_ends z = go (ends_in_lf? file) refl
    where
      go : (t : Bool) → ends_in_lf? file ≡ t → t ≡ true
      go true e = refl
      go false e = absurd (omega (arith, z, ap (λ (x : Refusal). x.number) (file_open e)))

module _ (r : Refusal) (text : List ℕ) where
  pub told_refused : r.number ≢ 0 → told_text r text ≡ refused_text r.number r.list r.line r.place
  told_refused n = rw (ne_eqb r.number 0 n)

  pub told_text_lem : r.number ≡ 0 → told_text r text ≡ text
  told_text_lem z = rw (eq-eqb r.number 0 z)

pub record Numbers (number list line place : ℕ) (r : Refusal) : Type 0 where
  pub same_number : number ≡ r.number
  pub same_list : list ≡ r.list
  pub same_line : line ≡ r.line
  pub same_place : place ≡ r.place

module _ (number list line place : ℕ) (r : Refusal) (s : Numbers number list line place r) where
  pub numbers_printable : Printable r → Printable (refusal number list line place)
  numbers_printable p = record {
    number = omega (arith, s.same_number, p.number);
    list = omega (arith, s.same_list, p.list);
    line = omega (arith, s.same_line, p.line);
    place = omega (arith, s.same_place, p.place);
  }

  pub numbers_refused : (text : List ℕ) → number ≢ 0 → told_text r text ≡ refused_text number list line place
  numbers_refused text n = told_refused r text (rw s.same_number at n) ∙ rw (s.same_number, s.same_list, s.same_line, s.same_place)

  pub numbers_text : (text : List ℕ) → number ≡ 0 → told_text r text ≡ text
  numbers_text text z = told_text_lem r text (sym s.same_number ∙ z)

-- those of an answer that is a refusal
pub answer_numbers : (a : Answer) (r : Refusal) → a ≡ refused_answer r → Numbers a.number a.list a.line a.place r
answer_numbers a r e = record {
  same_number = ap (λ (x : Answer). x.number) e;
  same_list = ap (λ (x : Answer). x.list) e;
  same_line = ap (λ (x : Answer). x.line) e;
  same_place = ap (λ (x : Answer). x.place) e;
}
