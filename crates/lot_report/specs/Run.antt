-- The lines of runs.tsv: line 1 is the heading, and each line behind it is a run: a name, which is not empty, and six counts,
-- TAB-separated.
-- Assumes nothing: these are definitions.
use Rattle.std.specs.Prelude.{Bool, true, ◌&&◌, List, [], ◌∷◌, map, ℕ, zero, suc, ◌+◌, eqb, ltb, length, drop, replicate}
use Rattle.std.proofs.Common.{Option, None, Some}
use Rattle.bases.specs.Pick.{pick}
use Rattle.bases.specs.Same.{same?}
use Rattle.lot.specs.declared.run.Run.{Run}
use Rattle.lot.specs.Run.{most_runs, no_run}
use Rattle.vcf.specs.Entry.{line_at, next_line}
use Rattle.fields.specs.Field.{field, field_end, field_from}
use Rattle.vcf.specs.List.{lines_of}
use Rattle.lot_report.specs.Count.{count?, count_of}

-- run truth_matched truth_unmatched truth_undecided called_matched called_unmatched called_undecided, TAB-separated
abbrev pub runs_heading : List ℕ
runs_heading =
    114 ∷ 117 ∷ 110 ∷ 9 ∷ 116 ∷ 114 ∷ 117 ∷ 116 ∷ 104 ∷ 95 ∷ 109 ∷ 97 ∷ 116 ∷ 99 ∷ 104 ∷ 101 ∷ 100 ∷ 9 ∷ 116 ∷
    114 ∷ 117 ∷ 116 ∷ 104 ∷ 95 ∷ 117 ∷ 110 ∷ 109 ∷ 97 ∷ 116 ∷ 99 ∷ 104 ∷ 101 ∷ 100 ∷ 9 ∷ 116 ∷ 114 ∷ 117 ∷ 116 ∷
    104 ∷ 95 ∷ 117 ∷ 110 ∷ 100 ∷ 101 ∷ 99 ∷ 105 ∷ 100 ∷ 101 ∷ 100 ∷ 9 ∷ 99 ∷ 97 ∷ 108 ∷ 108 ∷ 101 ∷ 100 ∷ 95 ∷
    109 ∷ 97 ∷ 116 ∷ 99 ∷ 104 ∷ 101 ∷ 100 ∷ 9 ∷ 99 ∷ 97 ∷ 108 ∷ 108 ∷ 101 ∷ 100 ∷ 95 ∷ 117 ∷ 110 ∷ 109 ∷ 97 ∷
    116 ∷ 99 ∷ 104 ∷ 101 ∷ 100 ∷ 9 ∷ 99 ∷ 97 ∷ 108 ∷ 108 ∷ 101 ∷ 100 ∷ 95 ∷ 117 ∷ 110 ∷ 100 ∷ 101 ∷ 99 ∷ 105 ∷
    100 ∷ 101 ∷ 100 ∷ []

-- Line 1 is the heading.
abbrev pub headed? : List ℕ → Bool
headed? t = same? runs_heading (line_at t 0)

-- How many counts a run has.
abbrev pub counts_of_run : ℕ
counts_of_run = 6

-- From a on the line is n counts.
unfoldable pub counts? : ℕ → List ℕ → ℕ → Bool
counts? zero l a = eqb a (length l + 1)
counts? (suc n) l a = count? (field_from l a) && counts? n l (field_end l a + 1)

-- The line is a name and six counts.
abbrev pub run? : List ℕ → Bool
run? l = ltb 0 (field_end l 0) && counts? counts_of_run l (field_end l 0 + 1)

-- Its name, and its counts: those of the truth, then those of what was called.
abbrev pub name_of : List ℕ → List ℕ
name_of l = field 0 l

abbrev pub run_on : List ℕ → Run
run_on l = record {
  matched1 = count_of (field 1 l);
  unmatched1 = count_of (field 2 l);
  undecided1 = count_of (field 3 l);
  matched2 = count_of (field 4 l);
  unmatched2 = count_of (field 5 l);
  undecided2 = count_of (field 6 l);
}

-- The lines behind line 1.
abbrev pub run_lines : List ℕ → List (List ℕ)
run_lines t = lines_of (drop (next_line t 0) t)

-- The number of the first line that is no run, where the first of the lines is the n-th of the text; 0 where each is one.
unfoldable pub bad_line : ℕ → List (List ℕ) → ℕ
bad_line n [] = 0
bad_line n (l ∷ ls) = let more = bad_line (n + 1) ls in pick (run? l) more n

-- That of the lines behind line 1, or none.
abbrev pub bad_run : List (List ℕ) → Option ℕ
bad_run ls = let n = bad_line 2 ls in pick (eqb n 0) None (Some n)

-- Each line is a run.
unfoldable pub all_runs? : List (List ℕ) → Bool
all_runs? [] = true
all_runs? (l ∷ ls) = run? l && all_runs? ls

-- The runs on lines.
abbrev pub runs_on : List (List ℕ) → List Run
runs_on ls = map run_on ls

-- Room for the runs of a lot, without entries.
abbrev pub no_runs : List Run
no_runs = replicate most_runs no_run
