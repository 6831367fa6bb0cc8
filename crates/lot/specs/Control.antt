-- Control runs by what the call `count` is lent for them: what the theorem says the totals of a lot are.
-- Assumes nothing: these are definitions.
use Rattle.std.specs.Prelude.{List, [], ◌∷◌, ◌++◌, map, ◌≡◌, ℕ, length, take}
use Rattle.card.specs.declared.count.Counted.{Counted}
use Rattle.card.specs.Answer.{answer}
use Rattle.card.specs.Count.{counted_of, counted}
use Rattle.marks.specs.declared.count.Counts.{Counts}
use Rattle.clusters.specs.declared.item.Item.{Item}
use Rattle.clusters.specs.Merged.{merged_items}
use Rattle.lot.specs.declared.run.Run.{Run}
use Rattle.lot.specs.Run.{run_of}

-- What `count` is lent for a control run. The first list is the truth, the second what the run called.
pub record Control : Type 0 where
  pub reference : List ℕ
  pub name : List ℕ
  pub first : List ℕ
  pub second : List ℕ
  pub marks : List ℕ

-- What it answers.
abbrev pub counted_for : Control → Counted
counted_for c = counted c.reference c.name c.first c.second c.marks

-- It refuses none of them.
abbrev pub AllCounted : List Control → Type 0
AllCounted [] = Unit
AllCounted (c ∷ cs) = ((counted_for c).number ≡ 0) × AllCounted cs

-- The runs that are made of what it answers.
abbrev pub runs_of : List Control → List Run
runs_of cs = map (λ (c : Control). run_of (counted_for c)) cs

-- A control run's entries in merged order, and a mark for each: what stands behind these marks is no entry's.
abbrev pub entries_in : Control → List Item
entries_in c = merged_items c.first c.second

abbrev pub marks_in : Control → List ℕ
marks_in c = take (length (entries_in c)) c.marks

-- The entries of all, joined, and their marks.
unfoldable pub joined_entries : List Control → List Item
joined_entries [] = []
joined_entries (c ∷ cs) = entries_in c ++ joined_entries cs

unfoldable pub joined_marks : List Control → List ℕ
joined_marks [] = []
joined_marks (c ∷ cs) = marks_in c ++ joined_marks cs

-- Six counts as a run's: those of an answer.
abbrev pub run_with : Counts → Run
run_with c = run_of (counted_of (answer 0 0 0 0 0) c)
