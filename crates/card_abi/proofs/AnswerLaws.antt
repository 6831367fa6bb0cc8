-- The call `card_allele` answers exactly the part that `allele` shows.
--     answer_refused, answer_there     the answer, by the refusal
--     answer_stands                    and by the slice and the part
--     allele_answer_number             its number is that of the companion `allele_refusal`
--     allele_answer_refusal            where that is not 0, its first four numbers are the companion's, and the fifth is 0
--     allele_answer_place              where it is 0, an allele is shown, and the place is 0
--     allele_answer_bytes              its list, line and value are the slice, the start and the length of the bytes that `allele` shows
--     allele_answer_begins             where its number is 0, what `allele` shows begins in that slice at that start
-- Assumes nothing.
use mathlib.Core.Bool.{Bool, true, false}
use mathlib.Core.List.{List}
use mathlib.Core.Logic.{◌≢◌}
use mathlib.Core.Path.{◌≡◌, refl, sym, ap, ap₂, ◌∙◌}
use Prim.Native.Nat.{ℕ}
use native.Mathlib.Decide.{ℕ_discrete}
use borrow.Author.Tests.{eq-eqb, ne_eqb}
use lib.Dec.{eqb}
use lib.ListN.{take, drop}
use Rattle.bases.specs.Pick.{pick}
use Rattle.vcf.specs.declared.entry.Part.{Part}
use Rattle.vcf.specs.Entry.{part}
use Rattle.card.specs.declared.refusal.Refusal.{Refusal}
use Rattle.card.specs.Allele.{Shown, allele_refusal, shown, bytes_shown, ptr_of, ptr_shown}
use Rattle.card.proofs.AlleleLaws.{shown_refusal, shown_empty_iff}
use Rattle.card.specs.declared.answer.Answer.{Answer}
use Rattle.card.specs.Answer.{answer, refused_answer}
use Rattle.card_abi.specs.Answer.{allele_answer}

module _ (s : Shown) where
  pub answer_refused : s.refusal.number ≢ 0 → allele_answer s ≡ refused_answer s.refusal
  unfolding allele_answer
  answer_refused n = rw (ne_eqb s.refusal.number 0 n)

  pub answer_there : s.refusal.number ≡ 0 → allele_answer s ≡ answer 0 (pick s.text 1 0) s.part.at 0 s.part.len
  unfolding allele_answer
  answer_there e = rw (eq-eqb s.refusal.number 0 e)

  pub answer_stands : (u : Bool) (p : Part) → s.refusal.number ≡ 0 → s.text ≡ u → s.part ≡ p → allele_answer s ≡ answer 0 (pick u 1 0) p.at 0 p.len
  answer_stands u p e f g = answer_there e ∙ ap₂ (λ (t : Bool) (q : Part). answer 0 (pick t 1 0) q.at 0 q.len) f g

  answer_number : (allele_answer s).number ≡ s.refusal.number
  answer_number = go (ℕ_discrete s.refusal.number 0)
    where
      go : Dec (s.refusal.number ≡ 0) → (allele_answer s).number ≡ s.refusal.number
      go (yes e) = rw (answer_there e) (sym e)
      go (no n) = rw (answer_refused n)

module _ (reference name text : List ℕ) (i k : ℕ) where
  abbrev answered : Answer
  answered = allele_answer (shown reference name text i k)

  pub allele_answer_number : answered.number ≡ (allele_refusal reference name text i k).number
  allele_answer_number = answer_number (shown reference name text i k) ∙ ap (λ (r : Refusal). r.number) (shown_refusal reference name text i k)

  pub allele_answer_place : answered.number ≡ 0 → answered.place ≡ 0
  allele_answer_place z =
      ap (λ (a : Answer). a.place) (answer_there (shown reference name text i k) (sym (answer_number (shown reference name text i k)) ∙ z))

  pub allele_answer_refusal : (allele_refusal reference name text i k).number ≢ 0 → answered ≡ refused_answer (allele_refusal reference name text i k)
  allele_answer_refusal n =
      let e = shown_refusal reference name text i k in
      rw (← e) (answer_refused (shown reference name text i k) (rw e n))

  pub allele_answer_bytes : bytes_shown reference text (shown reference name text i k) ≡ take answered.value (drop answered.line (pick (eqb answered.list 1) text reference))
  allele_answer_bytes = go (ℕ_discrete (allele_refusal reference name text i k).number 0)
    where
      pick_part : (b : Bool) (at len : ℕ) → pick b (take len (drop at text)) (take len (drop at reference)) ≡ take len (drop at (pick (eqb (pick b 1 0) 1) text reference))
      pick_part true at len = refl
      pick_part false at len = refl

      go : Dec ((allele_refusal reference name text i k).number ≡ 0) → bytes_shown reference text (shown reference name text i k)
          ≡ take answered.value (drop answered.line (pick (eqb answered.list 1) text reference))
      go (yes e) =
          let s = shown reference name text i k in
          rw (answer_there s (ap (λ (r : Refusal). r.number) (shown_refusal reference name text i k) ∙ e)) (pick_part s.text s.part.at s.part.len)
      go (no n) = rw (allele_answer_refusal n) ((shown_empty_iff reference name text i k).1 n)

  pub allele_answer_begins : answered.number ≡ 0 → (r t : ℕ × ℕ)
      → ptr_shown r t (shown reference name text i k) ≡ ptr_of (pick (eqb answered.list 1) t r) (part answered.line answered.value)
  allele_answer_begins e r t = rw (answer_there s (sym (answer_number s) ∙ e)) (pick_ptr s.text s.part.at s.part.len)
    where
      s : Shown
      s = shown reference name text i k

      pick_ptr : (b : Bool) (at len : ℕ) → pick b (ptr_of t (part at len)) (ptr_of r (part at len)) ≡ ptr_of (pick (eqb (pick b 1 0) 1) t r) (part at len)
      pick_ptr true at len = refl
      pick_ptr false at len = refl
