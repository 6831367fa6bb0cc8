-- The table that lot_report prints: a heading, a line a run in the order read, and a last line `lot` for the totals. Each line gives the
-- name; of the truth the entries, those matched and those undecided; the same of what was called; recall as `n/d`, as parts per million and
-- as a percentage with four digits behind the point; precision likewise. Where the lower number is zero, `none` stands in all three
-- columns. Fields are TAB-separated.
-- Assumes nothing: these are definitions.
use Rattle.std.specs.Prelude.{List, [], ◌∷◌, ◌++◌, ℕ, ◌+◌, ◌*◌, ◌/◌, ◌%◌, eqb, length}
use Rattle.bases.specs.Pick.{pick}
use Rattle.lines.specs.Lines.{field, fields, field_most, fields_most}
use Rattle.lot.specs.declared.answer.Lot.{Lot}
use Rattle.lot.specs.declared.share.Share.{Share}
use Rattle.lot.specs.Lot.{lot_of}
use Rattle.lot.specs.Run.{most_runs}
use Rattle.fields.specs.Bytes.{LF, TAB}
use Rattle.vcf.specs.List.{longest_text}
use Rattle.lot_report.specs.Run.{name_of, run_on, runs_on}

-- run truth truth_matched truth_undecided called called_matched called_undecided recall recall_ppm recall_percent precision precision_ppm
-- precision_percent, TAB-separated, and the LF
abbrev pub heading : List ℕ
heading =
    114 ∷ 117 ∷ 110 ∷ 9 ∷ 116 ∷ 114 ∷ 117 ∷ 116 ∷ 104 ∷ 9 ∷ 116 ∷ 114 ∷ 117 ∷ 116 ∷ 104 ∷ 95 ∷ 109 ∷ 97 ∷ 116 ∷
    99 ∷ 104 ∷ 101 ∷ 100 ∷ 9 ∷ 116 ∷ 114 ∷ 117 ∷ 116 ∷ 104 ∷ 95 ∷ 117 ∷ 110 ∷ 100 ∷ 101 ∷ 99 ∷ 105 ∷ 100 ∷ 101 ∷
    100 ∷ 9 ∷ 99 ∷ 97 ∷ 108 ∷ 108 ∷ 101 ∷ 100 ∷ 9 ∷ 99 ∷ 97 ∷ 108 ∷ 108 ∷ 101 ∷ 100 ∷ 95 ∷ 109 ∷ 97 ∷ 116 ∷ 99 ∷
    104 ∷ 101 ∷ 100 ∷ 9 ∷ 99 ∷ 97 ∷ 108 ∷ 108 ∷ 101 ∷ 100 ∷ 95 ∷ 117 ∷ 110 ∷ 100 ∷ 101 ∷ 99 ∷ 105 ∷ 100 ∷ 101 ∷
    100 ∷ 9 ∷ 114 ∷ 101 ∷ 99 ∷ 97 ∷ 108 ∷ 108 ∷ 9 ∷ 114 ∷ 101 ∷ 99 ∷ 97 ∷ 108 ∷ 108 ∷ 95 ∷ 112 ∷ 112 ∷ 109 ∷ 9 ∷
    114 ∷ 101 ∷ 99 ∷ 97 ∷ 108 ∷ 108 ∷ 95 ∷ 112 ∷ 101 ∷ 114 ∷ 99 ∷ 101 ∷ 110 ∷ 116 ∷ 9 ∷ 112 ∷ 114 ∷ 101 ∷ 99 ∷
    105 ∷ 115 ∷ 105 ∷ 111 ∷ 110 ∷ 9 ∷ 112 ∷ 114 ∷ 101 ∷ 99 ∷ 105 ∷ 115 ∷ 105 ∷ 111 ∷ 110 ∷ 95 ∷ 112 ∷ 112 ∷
    109 ∷ 9 ∷ 112 ∷ 114 ∷ 101 ∷ 99 ∷ 105 ∷ 115 ∷ 105 ∷ 111 ∷ 110 ∷ 95 ∷ 112 ∷ 101 ∷ 114 ∷ 99 ∷ 101 ∷ 110 ∷ 116 ∷
    10 ∷ []

-- lot
abbrev pub lot_name : List ℕ
lot_name = 108 ∷ 111 ∷ 116 ∷ []

-- none none none, TAB-separated
abbrev pub no_share : List ℕ
no_share = 110 ∷ 111 ∷ 110 ∷ 101 ∷ 9 ∷ 110 ∷ 111 ∷ 110 ∷ 101 ∷ 9 ∷ 110 ∷ 111 ∷ 110 ∷ 101 ∷ []

abbrev pub SLASH : ℕ
SLASH = 47

abbrev pub POINT : ℕ
POINT = 46

-- The last four digits of a number, leading zeros too.
abbrev pub four_digits : ℕ → List ℕ
four_digits n =
    ((48 + n / 1000 % 10) ∷ []) ++ ((48 + n / 100 % 10) ∷ []) ++ ((48 + n / 10 % 10) ∷ []) ++ ((48 + n % 10) ∷ [])

-- Parts per million as a percentage: a ten-thousandth of them, the point, and the four digits that are left.
abbrev pub percent : ℕ → List ℕ
percent ppm = field (ppm / 10000) POINT ++ four_digits ppm

-- A share, and the byte behind it.
unfoldable pub share_text : Share → ℕ → List ℕ
share_text s end =
    pick (eqb s.bottom 0)
    (no_share ++ (end ∷ []))
    (field s.top SLASH ++ field s.bottom TAB ++ field s.ppm TAB ++ percent s.ppm ++ (end ∷ []))

-- The line of a name and a lot.
unfoldable pub line_text : List ℕ → Lot → List ℕ
line_text name l =
    name ++ (TAB ∷ [])
    ++ fields l.truth l.total.matched1 l.total.undecided1 TAB
    ++ fields l.called l.total.matched2 l.total.undecided2 TAB
    ++ share_text l.recall TAB
    ++ share_text l.precision LF

-- The line of a run: that of a lot of this run alone.
abbrev pub run_text : List ℕ → List ℕ
run_text l = line_text (name_of l) (lot_of (run_on l ∷ []))

unfoldable pub runs_text : List (List ℕ) → List ℕ
runs_text [] = []
runs_text (l ∷ ls) = run_text l ++ runs_text ls

-- The table of the runs on these lines.
abbrev pub table_text : List (List ℕ) → List ℕ
table_text ls = heading ++ runs_text ls ++ line_text lot_name (lot_of (runs_on ls))

-- The most bytes that a percentage, a share, a line without its name, and a table have. The names stand in the text that is read.
abbrev pub percent_most : ℕ
percent_most = field_most + 4

abbrev pub share_most : ℕ
share_most = 3 * field_most + percent_most + 1

abbrev pub line_most : ℕ
line_most = 1 + 2 * fields_most + 2 * share_most

abbrev pub table_most : ℕ
table_most = length heading + (longest_text + line_most * most_runs) + (length lot_name + line_most)
