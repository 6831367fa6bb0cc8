-- Which numbers and places are given for a list's text.
--     judge_all             what is so of number and place of each row is so of those that are given
--     given?, given_words   request a: a number is at most 23, "10 is given no more", and the place is 0 in all rows below 20
--     judge_given           so it is of what judging gives
--     judge_place_fits      a place is at most 1,024
-- Assumes nothing.
use mathlib.Core.Bool.{Bool, true, false, not, ◌&&◌, ◌||◌}
use mathlib.Core.List.{List, [], ◌∷◌}
use mathlib.Core.Logic.{◌≢◌, ◌⊎◌, inl, inr, ⊎_elim}
use mathlib.Core.Path.{◌≡◌}
use Prim.Native.Nat.{ℕ, ◌+◌, ◌≤◌}
use native.Mathlib.Omega.{arith}
use borrow.Author.Rules.{rules}
use borrow.Author.Tests.{eq-eqb}
use lib.Dec.{T, T_not, eqb, leb, leb→le, eqb→eq}
use Rattle.bases.specs.Pick.{pick}
use Rattle.bases.proofs.FirstLaws.{first_all, all_told?, all_told}
use Rattle.bases.proofs.TestLaws.{of_true, both, either}
use Rattle.fields.specs.Header.{header_wrong?}
use Rattle.records.specs.declared.row.LineFault.{LineFault}
use Rattle.records.specs.Record.{longest_line, too_long?}
use Rattle.records.specs.Row.{no_fault, row, first_row}
use Rattle.records.proofs.PlaceLaws.{record_place_fits}
use Rattle.vcf.specs.declared.list.Fault.{Fault}
use Rattle.vcf.specs.declared.list.Stage.{Stage}
use Rattle.vcf.specs.declared.list.Stage.TheVariants.{Above, Below}
use Rattle.vcf.specs.List.{lines_of, text_wrong?, above, next_stage, line_rows, fault, judge_lines, judge_text, below?}

-- of no row, of row 5 behind the last line, of row 3, or of the first row on a line
module _ (reference name : List ℕ) (P : ℕ → ℕ → Type 0) (none : P 0 0) (by-five : P 5 0) (by_three : P 3 0)
    (by_Row : (s : Stage) (n : ℕ) (l : List ℕ) → let k = first_row (line_rows reference name s n l) in P k.number k.at) where
  lines_all : (s : Stage) (n : ℕ) (ls : List (List ℕ)) → let f = judge_lines reference name s n ls in P f.number f.place
  unfolding judge_lines
  lines_all s n [] = go (below? s)
    where
      go : (b : Bool) → let f = pick b (fault 0 0 0) (fault 5 n 0) in P f.number f.place
      go true = none
      go false = by-five
  lines_all s n (l ∷ ls) = go (eqb (first_row (line_rows reference name s n l)).number 0) (lines_all (next_stage s l) (n + 1) ls)
    where
      rest : Fault
      rest = judge_lines reference name (next_stage s l) (n + 1) ls

      here : Fault
      here = let k = first_row (line_rows reference name s n l) in fault k.number n k.at

      go : (b : Bool) → P rest.number rest.place → let f = pick b rest here in P f.number f.place
      go true h = h
      go false h = by_Row s n l

  pub judge_all : (t : List ℕ) → let f = judge_text reference name t in P f.number f.place
  unfolding judge_text
  judge_all t = go (text_wrong? t)
    where
      go : (b : Bool) → let f = pick b (fault 3 0 0) (judge_lines reference name above 1 (lines_of t)) in P f.number f.place
      go true = by_three
      go false = lines_all above 1 (lines_of t)

-- A number and a place that are given.
abbrev pub given? : ℕ → ℕ → Bool
given? k p = leb k 23 && (not (eqb k 10) && (leb 20 k || eqb p 0))

pub given_words : (k p : ℕ) → T (given? k p) → (k ≤ 23) × (k ≢ 10) × ((20 ≤ k) ⊎ (p ≡ 0))
given_words k p t =
    let s = (both (leb k 23) (not (eqb k 10) && (leb 20 k || eqb p 0))).0 t in
    let r = (both (not (eqb k 10)) (leb 20 k || eqb p 0)).0 s.1 in (
      leb→le k 23 s.0,
      λ e. T_not (eqb k 10) r.0 (of_true (eq-eqb k 10 e)),
      ⊎_elim (λ h. inl (leb→le 20 k h)) (λ h. inr (eqb→eq p 0 h)) ((either (leb 20 k) (eqb p 0)).0 r.1),
    )

module _ (reference name : List ℕ) (s : Stage) (n : ℕ) (l : List ℕ) where
  line_given : let k = first_row (line_rows reference name s n l) in T (given? k.number k.at)
  line_given = first_all no_fault (λ (f : LineFault). T (is f)) tt (line_rows reference name s n l) (all_told is (line_rows reference name s n l) (go s))
    where
      is : LineFault → Bool
      is f = given? f.number f.at

      go : (s : Stage) → T (all_told? is (line_rows reference name s n l))
      go Above = tt
      go (Below records last) = tt

  line_place : (first_row (line_rows reference name s n l)).at ≤ longest_line
  line_place = go s
    where
      go : (s : Stage) → (first_row (line_rows reference name s n l)).at ≤ longest_line
      go Above = first_all no_fault (λ (f : LineFault). f.at ≤ longest_line) (omega arith) (row 4 (too_long? l) ∷ row 5 (header_wrong? n l) ∷ []) (search rules)
      go (Below records last) = record_place_fits l reference name records last

module _ (reference name t : List ℕ) where
  pub judge_given : T (given? (judge_text reference name t).number (judge_text reference name t).place)
  judge_given = judge_all reference name (λ k p. T (given? k p)) tt tt tt (line_given reference name) t

  pub judge_place_fits : (judge_text reference name t).place ≤ longest_line
  judge_place_fits = judge_all reference name (λ k p. p ≤ longest_line) (omega arith) (omega arith) (omega arith) (line_place reference name) t
