-- Laws of what lot_report prints.
--     wrong_long, wrong_open, right_text       row 3, by the text's length and by whether it ends in LF
--     heading_ends, behind, behind_lines       line 1 ends in the text, and what stands behind it are the lines of the runs
--     report_wrong, report_unheaded, report_bad, report_runs
--                                              what is printed, by the first row that holds
--     runs_refused, runs_table                 for lines each of which is a run, by what the lot answers
--     bad_printable                            the number of a line can be printed
--     wrote_text                               what was written, said of an equal text, ends in the room
-- Assumes nothing.
use mathlib.Core.Bool.{Bool, true, false, or-true}
use mathlib.Core.List.{List, [], ◌∷◌, ◌++◌}
use mathlib.Core.Path.{◌≡◌, ap}
use Prim.Native.Nat.{ℕ, zero, suc, ◌+◌, ◌-◌, ◌≤◌, ◌<◌}
use native.Mathlib.Omega.{arith}
use borrow.Author.Tests.{eq-eqb, eqb-true, ne_eqb, lt-ltb, le-ltb}
use lib.Dec.{eqb, ltb}
use lib.ListN.{length, get_or, take, drop, length-drop, length-append}
use lib.Seq.{take_all, length-take-le}
use Rattle.bases.specs.declared.put.Writer.{Writer}
use Rattle.bases.specs.Wrote.{Wrote}
use Rattle.bases.specs.Pick.{pick}
use Rattle.files.proofs.FileLaws.{ends_some}
use Rattle.bases.proofs.TestLaws.{of_true, is_true, both}
use Rattle.files.specs.File.{ends_in_lf?}
use Rattle.lines.specs.Lines.{largest_number, refused_text}
use Rattle.lot.specs.declared.answer.Lot.{Lot}
use Rattle.lot.specs.Lot.{lot_of}
use Rattle.fields.specs.Bytes.{LF, until}
use Rattle.vcf.proofs.JudgeLaws.{lines_few}
use Rattle.vcf.specs.Entry.{next_line}
use Rattle.vcf.specs.List.{lines_of, longest_text, text_wrong?}
use Rattle.lot_report.specs.Report.{runs_report, report_text}
use Rattle.lot_report.specs.Run.{headed?, run_lines, bad_line, runs_on}
use Rattle.lot_report.specs.Table.{table_text}
use Rattle.lot_report.proofs.RunLaws.{bad_few}

-- The last byte is LF.
abbrev last? : List ℕ → Bool
last? t = eqb (get_or t (length t - 1) 0) LF

pub wrong_long : (t : List ℕ) → longest_text < length t → text_wrong? t ≡ true
wrong_long t h = rw (lt-ltb longest_text (length t) h)

pub wrong_open : (t : List ℕ) → ends_in_lf? t ≡ false → text_wrong? t ≡ true
wrong_open [] e = or-true (ltb longest_text 0)
wrong_open (b ∷ bs) e =
    let some : ltb 0 (length (b ∷ bs)) ≡ true = lt-ltb 0 (length (b ∷ bs)) (omega arith) in
    let other : last? (b ∷ bs) ≡ false = rw some at e in
    rw other (or-true (ltb longest_text (length (b ∷ bs))))

pub right_text : (t : List ℕ) → length t ≤ longest_text → ends_in_lf? t ≡ true → text_wrong? t ≡ false
right_text t h e =
    let l : last? t ≡ true = is_true (last? t) ((both (ltb 0 (length t)) (last? t)).0 (of_true e)).1 in
    rw (le-ltb longest_text (length t) h, l)

-- an LF stands at i or before
lf_before : (t : List ℕ) (i : ℕ) → i < length t → get_or t i 0 ≡ LF → until LF t ≤ i
unfolding until
lf_before [] i h e = absurd (omega arith)
lf_before (b ∷ bs) zero h e = rw (eq-eqb b LF e) (omega arith)
lf_before (b ∷ bs) (suc i) h e = go (eqb b LF) (lf_before bs i (omega arith) e)
  where
    go : (x : Bool) → until LF bs ≤ i → pick x 0 (suc (until LF bs)) ≤ suc i
    go true k = omega arith
    go false k = omega arith

pub heading_ends : (t : List ℕ) → ends_in_lf? t ≡ true → next_line t 0 ≤ length t
heading_ends t e =
    let l : last? t ≡ true = is_true (last? t) ((both (ltb 0 (length t)) (last? t)).0 (of_true e)).1 in
    let some : 1 ≤ length t = ends_some t e in
    omega (arith, lf_before t (length t - 1) (omega arith) (eqb-true (get_or t (length t - 1) 0) LF l))

-- the text behind line 1, as it is cut from the text
pub behind : (t : List ℕ) (n : ℕ) → take (length t - n) (drop n t) ≡ drop n t
behind t n = take_all (length t - n) (drop n t) (omega (arith, length-drop n t))

pub behind_lines : (t : List ℕ) (n : ℕ) → n ≡ next_line t 0 → lines_of (take (length t - n) (drop n t)) ≡ run_lines t
behind_lines t n e = rw (behind t n, e)

module _ (ls : List (List ℕ)) (l : Lot) (e : l ≡ lot_of (runs_on ls)) where
  pub runs_refused : (l.number ≡ 0 → ⊥) → runs_report ls ≡ refused_text l.number l.list l.line l.place
  unfolding runs_report
  runs_refused h = rw (← e, ne_eqb l.number 0 h)

  pub runs_table : l.number ≡ 0 → runs_report ls ≡ table_text ls
  unfolding runs_report
  runs_table z = rw (← e, eq-eqb l.number 0 z)

module _ (t : List ℕ) where
  pub report_wrong : text_wrong? t ≡ true → report_text t ≡ refused_text 3 0 0 0
  unfolding report_text
  report_wrong e = rw e

  pub report_unheaded : text_wrong? t ≡ false → headed? t ≡ false → report_text t ≡ refused_text 5 0 1 0
  unfolding report_text
  report_unheaded e h = rw (e, h)

  pub report_bad : text_wrong? t ≡ false → headed? t ≡ true → (bad_line 2 (run_lines t) ≡ 0 → ⊥) → report_text t ≡ refused_text 6 0 (bad_line 2 (run_lines t)) 0
  unfolding report_text
  report_bad e h k = rw (e, h, ne_eqb (bad_line 2 (run_lines t)) 0 k)

  pub report_runs : text_wrong? t ≡ false → headed? t ≡ true → bad_line 2 (run_lines t) ≡ 0 → report_text t ≡ runs_report (run_lines t)
  unfolding report_text
  report_runs e h k = rw (e, h, eq-eqb (bad_line 2 (run_lines t)) 0 k)

  pub bad_printable : length t ≤ longest_text → (a : ℕ) → bad_line 2 (lines_of (drop a t)) ≤ largest_number
  bad_printable h a = omega (arith, bad_few 2 (lines_of (drop a t)), lines_few (drop a t), length-drop a t)

-- what was written, said of an equal text, ends in the room
pub wrote_text : {o n : Writer} {s t : List ℕ} → o.at ≤ length o.room.now → Wrote o s n → t ≡ s → Wrote o t n × (n.at ≤ length n.room.now)
wrote_text {o} {n} {s} fits w e =
    let front = take o.at o.room.now in
    let more = drop (o.at + length s) o.room.now in
    (rw e w, omega (arith, w.at, ap (λ (r : List ℕ). length r) w.room, length-append (front ++ s) more, length-append front s, length-take-le o.at o.room.now fits))
