-- What compare prints. Document 01: the heading; one line an entry in merged order, with its list, its POS as read, its cluster from 0 and
-- its mark; the total line, with the entries marked `+` or `-`, those marked `0`, those marked `?`, and the score. Fields are
-- TAB-separated.
-- Assumes nothing: these are definitions.
use Rattle.std.specs.Prelude.{Bool, List, [], ◌∷◌, ◌++◌, ℕ, ◌+◌, ◌*◌, length}
use Rattle.bases.specs.declared.place.Pos.{Pos}
use Rattle.marks.specs.declared.count.Count.{Count}
use Rattle.clusters.specs.declared.item.Item.{Item}
use Rattle.clusters.specs.declared.plan.Cluster.{Cluster}
use Rattle.marks.specs.Counts.{most_entries, counts_of, totals}
use Rattle.listed.specs.Listed.{list_number, numbers_from}
use Rattle.fields.specs.Bytes.{LF, TAB}
use Rattle.lines.specs.Lines.{field, field_most, fields, fields_most}

-- list POS cluster mark, TAB-separated, and the LF
abbrev pub heading : List ℕ
heading =
    108 ∷ 105 ∷ 115 ∷ 116 ∷ 9 ∷ 80 ∷ 79 ∷ 83 ∷ 9 ∷ 99 ∷ 108 ∷ 117 ∷ 115 ∷ 116 ∷ 101 ∷ 114 ∷ 9 ∷
    109 ∷ 97 ∷ 114 ∷ 107 ∷ 10 ∷ []

-- total, with the TAB behind it
abbrev pub total_word : List ℕ
total_word = 116 ∷ 111 ∷ 116 ∷ 97 ∷ 108 ∷ 9 ∷ []

-- The line of an entry.
abbrev pub entry_line : Bool → Pos → ℕ → ℕ → List ℕ
entry_line side pos cluster mark = fields (list_number side) pos.0 cluster TAB ++ (mark ∷ []) ++ (LF ∷ [])

-- The lines of entries: their clusters' numbers, the entries and their marks stand in merged order.
unfoldable pub entry_lines : List ℕ → List Item → List ℕ → List ℕ
entry_lines [] is ms = []
entry_lines (k ∷ ks) [] ms = []
entry_lines (k ∷ ks) (i ∷ is) [] = []
entry_lines (k ∷ ks) (i ∷ is) (m ∷ ms) = entry_line i.side i.entry.pos k m ++ entry_lines ks is ms

-- The total line: the totals and the score.
abbrev pub total_line : Count → ℕ → List ℕ
total_line c score = total_word ++ fields c.matched c.unmatched c.undecided TAB ++ field score LF

-- The text for a plan, the entries and their marks, and the score. Each total is the sum over both lists of what the marks count.
abbrev pub printed_text : List Cluster → List Item → List ℕ → ℕ → List ℕ
printed_text plan is ms score = heading ++ entry_lines (numbers_from 0 plan) is ms ++ total_line (totals (counts_of is ms)) score

-- The most bytes that an entry's line, the total line and a text have.
abbrev pub line_most : ℕ
line_most = fields_most + 2

abbrev pub total_most : ℕ
total_most = length total_word + fields_most + field_most

abbrev pub text_most : ℕ
text_most = length heading + line_most * most_entries + total_most
