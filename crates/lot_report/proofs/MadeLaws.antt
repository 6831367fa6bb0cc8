-- What ./lot prints: runs.tsv as it is made is read as the runs that it was made of.
--     line_of                                            the line of a run, as it is made
--     line_name, line_run, line_is_run, line_no_lf      its name and its counts; it is a run, and holds no LF
--     other_lines                                       the lines below the heading
--     made_report                                       what is printed for the text that is made
-- Assumes nothing.
use mathlib.Core.Bool.{true, false}
use mathlib.Core.List.{List, [], ◌∷◌, map, append_assoc}
use mathlib.Core.Path.{◌≡◌, refl, ap, ◌∙◌}
use Prim.Native.Nat.{ℕ, ◌+◌, ◌-◌, ◌≤◌, ◌<◌}
use native.Mathlib.Omega.{arith}
use borrow.Author.Tests.{eq-eqb, lt-ltb}
use lib.ListN.{length, get_or, length-append}
use Rattle.bases.proofs.TestLaws.{of_true}
use Rattle.bases.specs.Same.{agree?}
use Rattle.files.specs.File.{ends_in_lf?}
use Rattle.lines.specs.Lines.{number}
use Rattle.lot.proofs.RunLaws.{small_truth, small_called}
use Rattle.lot.specs.declared.run.Run.{Run}
use Rattle.lot.specs.Run.{large?}
use Rattle.written.proofs.TextLaws.{lines_text, text_last}
use Rattle.written.proofs.WithoutLaws.{Without, without_digits}
use Rattle.written.specs.Lines.{All}
use Rattle.written.specs.Written.{text_of}
use Rattle.vcf.proofs.ListLaws.{lines_at}
use Rattle.fields.specs.Bytes.{LF, TAB, until}
use Rattle.vcf.specs.Entry.{line_at}
use Rattle.fields.specs.Field.{field}
use Rattle.vcf.specs.List.{lines_of, longest_text}
use Rattle.fields.specs.Pos.{largest_pos}
use Rattle.lot_report.specs.Count.{count_of}
use Rattle.lot_report.specs.Made.{Named, made_lines, made_text, Sound, AllSound, runs_named, named_text, named_report}
use Rattle.lot_report.specs.Report.{runs_report, report_text}
use Rattle.lot_report.specs.Run.{runs_heading, headed?, run?, name_of, run_on, run_lines, bad_line, runs_on}
use Rattle.lot_report.specs.Table.{runs_text}
use Rattle.lot_report.proofs.CountLaws.{count_digits}
use Rattle.lot_report.proofs.JoinedLaws.{joined, count_written, field_joined, counts_joined, free_joined, then_end, counts_after, IsCount, count_of_number}
use Rattle.lot_report.proofs.ReportLaws.{right_text, report_runs}
use Rattle.lot_report.proofs.RunLaws.{run_named, bad_none, bad_more}

-- The six counts of a run, in the order in which they are printed.
abbrev counts : Run → List ℕ
counts r = r.matched1 ∷ r.unmatched1 ∷ r.undecided1 ∷ r.matched2 ∷ r.unmatched2 ∷ r.undecided2 ∷ []

-- The line of a run, without its LF.
unfoldable pub line_of : Named → List ℕ
line_of n = joined n.name (map number (counts n.run))

-- Something of each count of a run that is not too large.
each : (P : List ℕ → Type 0) → ((k : ℕ) → k ≤ largest_pos → P (number k)) → (r : Run) → large? r ≡ false → All P (map number (counts r))
each P f r e =
    let t = small_truth r e in
    let c = small_called r e in (
      f r.matched1 (omega arith),
      (f r.unmatched1 (omega arith), (f r.undecided1 (omega arith), (f r.matched2 (omega arith), (f r.unmatched2 (omega arith), (f r.undecided2 (omega arith), tt))))),
    )

module _ (n : Named) (s : Sound n) where
  free : All (Without TAB) (map number (counts n.run))
  free = each (Without TAB) (λ k h. (count_of_number k h).free) n.run s.small

  pub line_name : name_of (line_of n) ≡ n.name
  unfolding line_of
  line_name = field_joined 0 n.name (map number (counts n.run)) s.no_tab free (omega arith)

  -- The count in a column.
  column : (k m : ℕ) → k ≤ 6 → get_or (n.name ∷ map number (counts n.run)) k [] ≡ number m → m ≤ largest_pos → count_of (field k (line_of n)) ≡ m
  unfolding line_of
  column k m h e few =
      ap (λ (f : List ℕ). count_of f) (field_joined k n.name (map number (counts n.run)) s.no_tab free h ∙ e) ∙ (count_written m few).1

  pub line_run : run_on (line_of n) ≡ n.run
  line_run =
      let r = n.run in
      let t = small_truth r s.small in
      let c = small_called r s.small in
      rw (
        column 1 r.matched1 (omega arith) refl (omega arith),
        column 2 r.unmatched1 (omega arith) refl (omega arith),
        column 3 r.undecided1 (omega arith) refl (omega arith),
        column 4 r.matched2 (omega arith) refl (omega arith),
        column 5 r.unmatched2 (omega arith) refl (omega arith),
        column 6 r.undecided2 (omega arith) refl (omega arith),
      )

  pub line_is_run : run? (line_of n) ≡ true
  unfolding line_of joined
  line_is_run =
      let r = n.run in
      let t = small_truth r s.small in
      let c = small_called r s.small in
      let later = map number (r.unmatched1 ∷ r.undecided1 ∷ r.matched2 ∷ r.unmatched2 ∷ r.undecided2 ∷ []) in
      let rest = joined (number r.matched1) later in
      let all = each IsCount count_of_number r s.small in
      run_named (line_of n) (omega (arith, then_end n.name rest s.no_tab, s.named))
      ∙ counts_after 6 n.name rest s.no_tab
      ∙ counts_joined (number r.matched1) later all.0 all.1

  pub line_no_lf : Without LF (line_of n)
  unfolding line_of
  line_no_lf =
      free_joined LF refl n.name (map number (counts n.run)) s.no_lf
      (each (Without LF) (λ k h. without_digits LF (number k) refl (of_true (count_digits (number k) (count_written k h).0))) n.run s.small)

-- The lines that are made, below the heading.
made_lines_lem : (ns : List Named) → made_lines ns ≡ text_of (map line_of ns)
unfolding made_lines text_of line_of joined
made_lines_lem [] = refl
made_lines_lem (n ∷ ns) = rw (made_lines_lem ns) (simp append_assoc)

no_lf : (ns : List Named) → AllSound ns → All (Without LF) (map line_of ns)
no_lf [] s = tt
no_lf (n ∷ ns) s = (line_no_lf n s.0, no_lf ns s.1)

heading_no_lf : Without LF runs_heading
unfolding until
heading_no_lf = refl

no_bad : (k : ℕ) (ns : List Named) → AllSound ns → bad_line k (map line_of ns) ≡ 0
no_bad k [] s = bad_none k
no_bad k (n ∷ ns) s = bad_more k (line_of n) (map line_of ns) (line_is_run n s.0) ∙ no_bad (k + 1) ns s.1

runs_made : (ns : List Named) → AllSound ns → runs_on (map line_of ns) ≡ runs_named ns
runs_made [] s = refl
runs_made (n ∷ ns) s = rw (line_run n s.0, runs_made ns s.1)

text_made : (ns : List Named) → AllSound ns → runs_text (map line_of ns) ≡ named_text ns
unfolding runs_text named_text
text_made [] s = refl
text_made (n ∷ ns) s = rw (line_name n s.0, line_run n s.0, text_made ns s.1)

module _ (ns : List Named) (s : AllSound ns) where
  text : made_text ns ≡ text_of (runs_heading ∷ map line_of ns)
  unfolding text_of
  text = rw (made_lines_lem ns)

  lines : lines_of (made_text ns) ≡ runs_heading ∷ map line_of ns
  lines = ap lines_of text ∙ lines_text (runs_heading ∷ map line_of ns) (heading_no_lf, no_lf ns s)

  some : 0 < length (made_text ns)
  some = omega (arith, length-append runs_heading (LF ∷ made_lines ns))

  first_line : line_at (made_text ns) 0 ≡ runs_heading
  first_line = cc (lines_at (made_text ns) 0 some, lines)

  pub other_lines : run_lines (made_text ns) ≡ map line_of ns
  other_lines = cc (lines_at (made_text ns) 0 some, lines)

  headed : headed? (made_text ns) ≡ true
  unfolding agree?
  headed = rw first_line

  ended : ends_in_lf? (made_text ns) ≡ true
  ended =
      let e : get_or (made_text ns) (length (made_text ns) - 1) 0 ≡ LF = rw (← text) at (text_last runs_heading (map line_of ns)) in
      rw (lt-ltb 0 (length (made_text ns)) some, eq-eqb (get_or (made_text ns) (length (made_text ns) - 1) 0) LF e)

  pub made_report : length (made_text ns) ≤ longest_text → report_text (made_text ns) ≡ named_report ns
  unfolding runs_report named_report
  made_report h =
      report_runs (made_text ns) (right_text (made_text ns) h ended) headed (rw other_lines (no_bad 2 ns s))
      ∙ ap runs_report other_lines
      ∙ rw (runs_made ns s, text_made ns s)
