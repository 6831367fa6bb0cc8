-- A list's text, judged, in document 01's words: "The first found is answered", "A refusal is given only when its row holds", and a text
-- of which no row holds is accepted.
--     Refused, Accepted              the three kinds of refusal; acceptance
--     refused_iff, accepted_iff      what judging answers is so, and what is so is what it answers
--     accepted_zero                  an answer with number 0 is acceptance
--     refused_one                    no refusal is of two kinds
--     lines_few, text_fits           a text has at most as many lines as bytes; where row 3 does not hold it is short
--     judge_line, judge_line_fits    the line that is told
-- Assumes nothing.
use mathlib.Core.Bool.{Bool, true, false, not}
use mathlib.Core.List.{List, [], ◌∷◌}
use mathlib.Core.Logic.{◌↔◌, ◌≢◌}
use mathlib.Core.Path.{◌≡◌, refl, sym, ap, subst}
use Prim.Native.Nat.{ℕ, suc, ◌+◌, ◌-◌, ◌≤◌}
use native.Mathlib.Omega.{arith}
use borrow.Author.Tests.{ltb-false}
use lib.Dec.{T, eqb, ltb}
use lib.ListN.{length, get_or}
use Rattle.bases.proofs.TestLaws.{of_true, of_false, is_true, neither}
use Rattle.bases.specs.Pick.{pick}
use Rattle.vcf.specs.declared.list.Fault.{Fault}
use Rattle.vcf.specs.declared.list.Stage.{Stage}
use Rattle.fields.specs.Bytes.{LF}
use Rattle.vcf.specs.List.{onto, lines_of, longest_text, text_wrong?, above, next_stage, line_rows, fault, judge_lines, judge_text, below?}
use Rattle.records.specs.Row.{first_row}
use Rattle.vcf.proofs.StageLaws.{stage_at}
use Rattle.vcf.proofs.ToldLaws.{ClearTo, OnLine, AtEnd, Told, on_line, at_end, nowhere, on_line_not_zero, told, told_only}

-- A text is refused with row k at line n, with place p. (The records OnLine and AtEnd name the parts; a text's first line is line 1 and is met above the records.)
pub data Refused (reference name t : List ℕ) (k n p : ℕ) : Type 0 where
  -- Row 3 holds of the text. It is told at line 0, place 0.
  by_text : T (text_wrong? t) → k ≡ 3 → n ≡ 0 → p ≡ 0 → Refused reference name t k n p
  -- Row 3 does not hold. Line n is a line of the text, row k is the first of the rows tried there that holds, and no row holds on a line above.
  by_line : text_wrong? t ≡ false → OnLine reference name above 1 (lines_of t) k n p → Refused reference name t k n p
  -- Row 3 does not hold, nor any row on any line, and there is no column line. Row 5 is told at the line number after the last.
  by_end : text_wrong? t ≡ false → AtEnd reference name above 1 (lines_of t) k n p → Refused reference name t k n p

-- A text is accepted.
pub record Accepted (reference name t : List ℕ) : Type 0 where
  -- row 3 does not hold
  pub fits : text_wrong? t ≡ false
  -- the lines lead below the column line
  pub below : below? (stage_at above (lines_of t) (length (lines_of t))) ≡ true
  -- no row holds on any line
  pub clear : ClearTo reference name above 1 (lines_of t) (1 + length (lines_of t))

module _ (reference name t : List ℕ) where
  told_as : (k n p : ℕ) → judge_lines reference name above 1 (lines_of t) ≡ fault k n p → Told reference name above 1 (lines_of t) k n p
  told_as k n p e = subst (λ (f : Fault). Told reference name above 1 (lines_of t) f.number f.line f.place) e (told reference name above 1 (lines_of t))

  pub refused_iff : (k n p : ℕ) → ((judge_text reference name t ≡ fault k n p) × (k ≢ 0)) ↔ Refused reference name t k n p
  unfolding judge_text
  refused_iff k n p = (λ s. to (text_wrong? t) refl s.1 s.0, of)
    where
      kind : text_wrong? t ≡ false → k ≢ 0 → Told reference name above 1 (lines_of t) k n p → Refused reference name t k n p
      kind h z (on_line r) = by_line h r
      kind h z (at_end r) = by_end h r
      kind h z (nowhere r) = absurd (z r.number)

      to : (b : Bool) → text_wrong? t ≡ b → k ≢ 0 → pick b (fault 3 0 0) (judge_lines reference name above 1 (lines_of t)) ≡ fault k n p → Refused reference name t k n p
      to true h z e = by_text (of_true h) (sym (ap (λ (f : Fault). f.number) e)) (sym (ap (λ (f : Fault). f.line) e)) (sym (ap (λ (f : Fault). f.place) e))
      to false h z e = kind h z (told_as k n p e)

      of : Refused reference name t k n p → (judge_text reference name t ≡ fault k n p) × (k ≢ 0)
      of (by_text h a b g) = (rw (is_true (text_wrong? t) h, a, b, g), λ z. omega arith)
      of (by_line h r) =
          (rw h (told_only reference name above 1 (lines_of t) k n p (on_line r)), on_line_not_zero reference name above 1 (lines_of t) k n p r)
      of (by_end h r) = (rw h (told_only reference name above 1 (lines_of t) k n p (at_end r)), λ z. omega arith)

  pub accepted_zero : (judge_text reference name t).number ≡ 0 → Accepted reference name t
  unfolding judge_text
  accepted_zero e = to (text_wrong? t) refl e
    where
      kind : (k n p : ℕ) → text_wrong? t ≡ false → k ≡ 0 → Told reference name above 1 (lines_of t) k n p → Accepted reference name t
      kind k n p h z (on_line r) = absurd (on_line_not_zero reference name above 1 (lines_of t) k n p r z)
      kind k n p h z (at_end r) = absurd (omega arith)
      kind k n p h z (nowhere r) = record { fits = h; below = r.below; clear = r.clear }

      to : (b : Bool) → text_wrong? t ≡ b → (pick b (fault 3 0 0) (judge_lines reference name above 1 (lines_of t))).number ≡ 0 → Accepted reference name t
      to true h e = absurd (omega arith)
      to false h e = kind _ _ _ h e (told reference name above 1 (lines_of t))

  pub accepted_iff : (judge_text reference name t ≡ fault 0 0 0) ↔ Accepted reference name t
  unfolding judge_text
  accepted_iff = (λ e. accepted_zero (ap (λ (f : Fault). f.number) e), of)
    where
      of : Accepted reference name t → judge_text reference name t ≡ fault 0 0 0
      of a =
          rw a.fits (told_only reference name above 1 (lines_of t) 0 0 0
          (nowhere (record { number = refl; line = refl; place = refl; below = a.below; clear = a.clear })))

-- Which of the three kinds a refusal is.
abbrev pub kind_of : {reference name t : List ℕ} {k n p : ℕ} → Refused reference name t k n p → ℕ
kind_of (by_text h a b g) = 1
kind_of (by_line h r) = 2
kind_of (by_end h r) = 3

pub refused_one : {reference name t : List ℕ} {k n p : ℕ} (a b : Refused reference name t k n p) → kind_of a ≡ kind_of b
refused_one (by_text h a b g) (by_text i c d e) = refl
refused_one (by_text h a b g) (by_line i s) = absurd (of_false i h)
refused_one (by_text h a b g) (by_end i s) = absurd (of_false i h)
refused_one (by_line h r) (by_text i c d e) = absurd (of_false h i)
refused_one (by_line h r) (by_line i s) = refl
refused_one (by_line h r) (by_end i s) = absurd (omega arith)
refused_one (by_end h r) (by_text i c d e) = absurd (of_false h i)
refused_one (by_end h r) (by_line i s) = absurd (omega arith)
refused_one (by_end h r) (by_end i s) = refl

pub lines_few : (t : List ℕ) → length (lines_of t) ≤ length t
unfolding lines_of
lines_few [] = omega arith
lines_few (b ∷ bs) = go (eqb b LF) (lines_of bs) (lines_few bs)
  where
    go : (x : Bool) (ls : List (List ℕ)) → length ls ≤ length bs → length (pick x ([] ∷ ls) (onto b ls)) ≤ suc (length bs)
    go true ls h = omega arith
    go false [] h = omega arith
    go false (l ∷ ls) h = omega arith

lines_line : (reference name : List ℕ) (s : Stage) (n : ℕ) (ls : List (List ℕ)) → (judge_lines reference name s n ls).line ≤ n + length ls
unfolding judge_lines
lines_line reference name s n [] = go (below? s)
  where
    go : (b : Bool) → (pick b (fault 0 0 0) (fault 5 n 0)).line ≤ n + 0
    go true = omega arith
    go false = omega arith
lines_line reference name s n (l ∷ ls) = go (eqb (first_row (line_rows reference name s n l)).number 0) (lines_line reference name (next_stage s l) (n + 1) ls)
  where
    rest : Fault
    rest = judge_lines reference name (next_stage s l) (n + 1) ls

    here : Fault
    here = let k = first_row (line_rows reference name s n l) in fault k.number n k.at

    go : (b : Bool) → rest.line ≤ n + 1 + length ls → (pick b rest here).line ≤ n + suc (length ls)
    go true h = omega arith
    go false h = omega arith

pub text_fits : (t : List ℕ) → text_wrong? t ≡ false → length t ≤ longest_text
text_fits t e = ltb-false longest_text (length t) (neither (ltb longest_text (length t)) (not (eqb (get_or t (length t - 1) 0) LF)) e).0

pub judge_line : (reference name t : List ℕ) → (judge_text reference name t).line ≤ length t + 1
unfolding judge_text
judge_line reference name t = go (text_wrong? t)
  where
    go : (b : Bool) → (pick b (fault 3 0 0) (judge_lines reference name above 1 (lines_of t))).line ≤ length t + 1
    go true = omega arith
    go false = omega (arith, lines_line reference name above 1 (lines_of t), lines_few t)

pub judge_line_fits : (reference name t : List ℕ) → (judge_text reference name t).line ≤ longest_text + 1
unfolding judge_text
judge_line_fits reference name t = go (text_wrong? t) refl
  where
    go : (b : Bool) → text_wrong? t ≡ b → (pick b (fault 3 0 0) (judge_lines reference name above 1 (lines_of t))).line ≤ longest_text + 1
    go true e = omega arith
    go false e = omega (arith, lines_line reference name above 1 (lines_of t), lines_few t, text_fits t e)
