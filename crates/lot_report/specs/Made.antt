-- runs.tsv as ./lot makes it: the heading, and for each run its name, a TAB and the line that program counts prints for it; and what is
-- printed for that.
-- Assumes nothing: these are definitions.
use Rattle.std.specs.Prelude.{false, List, [], ◌∷◌, ◌++◌, map, ◌≡◌, ℕ, ◌≤◌, eqb, length}
use Rattle.bases.specs.Pick.{pick}
use Rattle.lines.specs.Lines.{counts_fields, refused_text}
use Rattle.lot.specs.declared.run.Run.{Run}
use Rattle.lot.specs.Lot.{lot_of}
use Rattle.lot.specs.Run.{large?}
use Rattle.fields.specs.Bytes.{LF, TAB, until}
use Rattle.lot_report.specs.Run.{runs_heading}
use Rattle.lot_report.specs.Table.{heading, lot_name, line_text}

-- A run and its name.
pub record Named : Type 0 where
  pub name : List ℕ
  pub run : Run

-- The line of a run's six counts, by the definition that what counts prints is stated with.
abbrev pub counts_text : Run → List ℕ
counts_text r = counts_fields r.matched1 r.unmatched1 r.undecided1 r.matched2 r.unmatched2 r.undecided2

unfoldable pub made_lines : List Named → List ℕ
made_lines [] = []
made_lines (n ∷ ns) = n.name ++ (TAB ∷ counts_text n.run) ++ made_lines ns

abbrev pub made_text : List Named → List ℕ
made_text ns = runs_heading ++ (LF ∷ made_lines ns)

-- The name is not empty and has no TAB and no LF; the counts do not exceed what a list has.
pub record Sound (n : Named) : Type 0 where
  pub named : 1 ≤ length n.name
  pub no_tab : until TAB n.name ≡ length n.name
  pub no_lf : until LF n.name ≡ length n.name
  pub small : large? n.run ≡ false

abbrev pub AllSound : List Named → Type 0
AllSound [] = Unit
AllSound (n ∷ ns) = Sound n × AllSound ns

-- The runs, and the line of each under its name.
abbrev pub runs_named : List Named → List Run
runs_named ns = map (λ (n : Named). n.run) ns

unfoldable pub named_text : List Named → List ℕ
named_text [] = []
named_text (n ∷ ns) = line_text n.name (lot_of (n.run ∷ [])) ++ named_text ns

-- What is printed for named runs: the table, or why their lot is refused.
unfoldable pub named_report : List Named → List ℕ
named_report ns =
    let l = lot_of (runs_named ns) in
    let table = heading ++ named_text ns ++ line_text lot_name l in
    let refused = refused_text l.number l.list l.line l.place in
    pick (eqb l.number 0) table refused
