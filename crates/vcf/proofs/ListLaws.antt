-- Laws of lines and of judging them.
--     lines_cons, lines_at, lines_past      the lines of a text: the first and the rest, from a place on, and at the end
--     rows_above, rows_below                the rows on a line, by the stage
--     next_header, next_column, next_record, next_records
--                                           the stage behind a line, and its number of records
--     judge_stop, judge_more                the first fault of lines: on the first of them, or behind it
--     judge_end_above, judge_end_below      the first fault of no line
--     text_wrong, text_right                the first fault of a text, by row 3
--     judged_err, judged_ok, judged_numbered
--                                           what `judge` returns: a fault that is numbered, or that there is none
--     line_rows_numbered                    no row that is tried on a line is numbered 0
-- Assumes nothing.
use mathlib.Core.Bool.{Bool, true, false}
use mathlib.Core.List.{List, [], ◌∷◌}
use mathlib.Core.Logic.{◌≢◌}
use mathlib.Core.Path.{◌≡◌, refl}
use Rattle.std.specs.Prelude.{Ok, Err}
use Rattle.vcf.specs.declared.list.Fault.{Fault}
use Rattle.records.proofs.ResultLaws.{result_err, result_ok, result_numbered}
use Prim.Native.Nat.{ℕ, suc, ◌+◌, ◌≤◌, ◌<◌}
use native.Mathlib.Nat.{not-suc-le-zero}
use native.Mathlib.Omega.{arith}
use borrow.Author.Tests.{eq-eqb, ne_eqb}
use lib.Dec.{eqb}
use lib.ListN.{length, take, drop, length-drop, drop_of_length-le}
use lib.Seq.{drop-drop}
use Rattle.bases.specs.Pick.{pick}
use Rattle.bases.proofs.TestLaws.{of_true, of_false}
use Rattle.vcf.specs.declared.list.Stage.{Stage}
use Rattle.vcf.specs.declared.list.Stage.TheVariants.{Above, Below}
use Rattle.fields.specs.Bytes.{LF, until}
use Rattle.fields.specs.Header.{header_line?, header_wrong?}
use Rattle.vcf.specs.List.{onto, lines_of, text_wrong?, above, below_at, next_stage, line_rows, fault, judge_lines, judge_text, judged, below?, records_behind, last_pos}
use Rattle.fields.specs.Pos.{no_pos}
use Rattle.records.specs.Record.{too_long?, pos_on, record_rows}
use Rattle.records.specs.Row.{row, first_row}
use Rattle.records.proofs.RowLaws.{Numbered, numbered, record_rows_numbered}

pub lines_cons : (t : List ℕ) → 0 < length t → lines_of t ≡ take (until LF t) t ∷ lines_of (drop (until LF t + 1) t)
unfolding lines_of until
lines_cons [] h = absurd (not-suc-le-zero h)
lines_cons (b ∷ bs) h = go (eqb b LF) bs (lines_cons bs)
  where
    Step : List ℕ → Type 0
    Step s = 0 < length s → lines_of s ≡ take (until LF s) s ∷ lines_of (drop (until LF s + 1) s)

    go : (t : Bool) (s : List ℕ) → Step s → pick t ([] ∷ lines_of s) (onto b (lines_of s)) ≡ take (pick t 0 (suc (until LF s))) (b ∷ s) ∷ lines_of (drop (pick t 0 (suc (until LF s)) + 1) (b ∷ s))
    go true s f = refl
    go false [] f = refl
    go false (x ∷ s) f =
        let e : suc (until LF (x ∷ s)) + 1 ≡ suc (until LF (x ∷ s) + 1) = omega arith in
        rw (e, f (omega arith))

pub lines_at : (t : List ℕ) (a : ℕ) → a < length t → lines_of (drop a t) ≡ take (until LF (drop a t)) (drop a t) ∷ lines_of (drop (a + until LF (drop a t) + 1) t)
lines_at t a h =
    let e : a + until LF (drop a t) + 1 ≡ a + (until LF (drop a t) + 1) = omega arith in
    rw (e, ← drop-drop (until LF (drop a t) + 1) a t) (lines_cons (drop a t) (rw length-drop (omega arith)))

pub lines_past : (t : List ℕ) (a : ℕ) → length t ≤ a → lines_of (drop a t) ≡ []
unfolding lines_of
lines_past t a h = rw (drop_of_length-le t {i = a} h)

pub next_record : (s : Stage) (l : List ℕ) → below? s ≡ true → next_stage s l ≡ below_at (records_behind s + 1) (pos_on l)
next_record Above l e = absurd (of_false refl (of_true e))
next_record (Below records last) l e = refl

pub next_header : (s : Stage) (l : List ℕ) → below? s ≡ false → header_line? l ≡ true → next_stage s l ≡ above
next_header Above l e h = rw h
next_header (Below records last) l e h = absurd (of_false e (of_true refl))

pub next_column : (s : Stage) (l : List ℕ) → below? s ≡ false → header_line? l ≡ false → next_stage s l ≡ below_at 0 no_pos
next_column Above l e h = rw h
next_column (Below records last) l e h = absurd (of_false e (of_true refl))

pub next_records : (s : Stage) (l : List ℕ) → records_behind (next_stage s l) ≤ records_behind s + 1
next_records Above l = go (header_line? l)
  where
    go : (h : Bool) → records_behind (pick h above (below_at 0 no_pos)) ≤ 0 + 1
    go true = omega arith
    go false = omega arith
next_records (Below records last) l = omega arith

module _ (reference name : List ℕ) where
  pub rows_below : (s : Stage) (n : ℕ) (l : List ℕ) → below? s ≡ true → line_rows reference name s n l ≡ record_rows reference name (records_behind s) (last_pos s) l
  rows_below Above n l e = absurd (of_false refl (of_true e))
  rows_below (Below records last) n l e = refl

  pub rows_above : (s : Stage) (n : ℕ) (l : List ℕ) → below? s ≡ false → line_rows reference name s n l ≡ row 4 (too_long? l) ∷ row 5 (header_wrong? n l) ∷ []
  rows_above Above n l e = refl
  rows_above (Below records last) n l e = absurd (of_false e (of_true refl))

  pub judge_stop : (s : Stage) (n : ℕ) (l : List ℕ) (ls : List (List ℕ)) → ((first_row (line_rows reference name s n l)).number ≡ 0 → ⊥) → judge_lines reference name s n (l ∷ ls)
      ≡ fault (first_row (line_rows reference name s n l)).number n (first_row (line_rows reference name s n l)).at
  unfolding judge_lines
  judge_stop s n l ls h = rw (ne_eqb _ _ h)

  pub judge_more : (s : Stage) (n : ℕ) (l : List ℕ) (ls : List (List ℕ)) → (first_row (line_rows reference name s n l)).number ≡ 0 → judge_lines reference name s n (l ∷ ls)
      ≡ judge_lines reference name (next_stage s l) (n + 1) ls
  unfolding judge_lines
  judge_more s n l ls h = rw (eq-eqb _ _ h)

  pub judge_end_below : (s : Stage) (n : ℕ) → below? s ≡ true → judge_lines reference name s n [] ≡ fault 0 0 0
  unfolding judge_lines
  judge_end_below s n e = rw e

  pub judge_end_above : (s : Stage) (n : ℕ) → below? s ≡ false → judge_lines reference name s n [] ≡ fault 5 n 0
  unfolding judge_lines
  judge_end_above s n e = rw e

  pub text_wrong : (t : List ℕ) → text_wrong? t ≡ true → judge_text reference name t ≡ fault 3 0 0
  unfolding judge_text
  text_wrong t e = rw e

  pub text_right : (t : List ℕ) → text_wrong? t ≡ false → judge_text reference name t ≡ judge_lines reference name above 1 (lines_of t)
  unfolding judge_text
  text_right t e = rw e

pub line_rows_numbered : (reference name : List ℕ) (s : Stage) (n : ℕ) (l : List ℕ) → Numbered (line_rows reference name s n l)
line_rows_numbered reference name Above n l = numbered (row 4 (too_long? l) ∷ row 5 (header_wrong? n l) ∷ []) tt
line_rows_numbered reference name (Below records last) n l = record_rows_numbered reference name records last l

pub judged_err : (e f : Fault) → Err e ≡ judged f → (e ≡ f) × (e.number ≢ 0)
judged_err = result_err (λ (f : Fault). f.number)

pub judged_ok : (x : Unit {0}) (f : Fault) → Ok x ≡ judged f → f.number ≡ 0
judged_ok = result_ok (λ (f : Fault). f.number)

pub judged_numbered : (e f : Fault) → e ≡ f → e.number ≢ 0 → Err e ≡ judged f
judged_numbered = result_numbered (λ (f : Fault). f.number)
