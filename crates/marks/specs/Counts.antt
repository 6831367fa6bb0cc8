-- What marks count: the entries marked `+` or `-`, those marked `0`, and those marked `?`; in each list, and over both. A byte that is none
-- of these marks is counted nowhere.
-- Assumes nothing: these are definitions.
use Rattle.std.specs.Prelude.{Bool, true, false, ◌||◌, List, [], ◌∷◌, ℕ, ◌+◌, ◌≤◌, eqb}
use Rattle.std.specs.Bool.{beq}
use Rattle.bases.specs.Pick.{pick}
use Rattle.donors.specs.Choice.{plus, minus, out}
use Rattle.donors.specs.Rules.{list1, list2, put_if}
use Rattle.matching.specs.Answer.{byte_of}
use Rattle.records.specs.Record.{most_records}
use Rattle.marks.specs.declared.count.Count.{Count}
use Rattle.marks.specs.declared.count.Counts.{Counts}
use Rattle.clusters.specs.declared.item.Item.{Item}
use Rattle.marks.specs.Marks.{QUESTION}

-- The mark of an entry that is matched, of one that is not, and of one that is undecided.
abbrev pub matched? : ℕ → Bool
matched? m = eqb m (byte_of plus) || eqb m (byte_of minus)

abbrev pub unmatched? : ℕ → Bool
unmatched? m = eqb m (byte_of out)

abbrev pub undecided? : ℕ → Bool
undecided? m = eqb m QUESTION

-- The byte is a mark.
abbrev pub mark? : ℕ → Bool
mark? m = matched? m || (unmatched? m || undecided? m)

-- One where the test holds.
abbrev pub one : Bool → ℕ
one t = pick t 1 0

-- How many marks pass the test.
unfoldable pub how_many : (ℕ → Bool) → List ℕ → ℕ
how_many p [] = 0
how_many p (m ∷ ms) = one (p m) + how_many p ms

-- The counts of marks.
abbrev pub count_all : List ℕ → Count
count_all ms = record { matched = how_many matched? ms; unmatched = how_many unmatched? ms; undecided = how_many undecided? ms }

-- How many marks they are together.
abbrev pub sum_of : Count → ℕ
sum_of c = c.matched + c.unmatched + c.undecided

-- The counts with one mark more.
abbrev pub add_mark : Count → ℕ → Count
add_mark c m = record {
  matched = c.matched + one (matched? m);
  unmatched = c.unmatched + one (unmatched? m);
  undecided = c.undecided + one (undecided? m);
}

-- The marks of a list's entries (`side`: list 1). The entries of both lists and their marks stand in merged order.
unfoldable pub own_marks : Bool → List Item → List ℕ → List ℕ
own_marks side [] ms = []
own_marks side (i ∷ is) [] = []
own_marks side (i ∷ is) (m ∷ ms) = put_if (beq side i.side) m (own_marks side is ms)

-- The six counts: those of list 1 and those of list 2.
abbrev pub counts_of : List Item → List ℕ → Counts
counts_of is ms = record { first = count_all (own_marks list1 is ms); second = count_all (own_marks list2 is ms) }

-- The six counts with the mark of one entry more, of this list.
abbrev pub add_entry : Counts → Bool → ℕ → Counts
add_entry c true m = record { first = add_mark c.first m; second = c.second }
add_entry c false m = record { first = c.first; second = add_mark c.second m }

-- The totals: the sums over both lists.
abbrev pub totals : Counts → Count
totals c = record {
  matched = c.first.matched + c.second.matched;
  unmatched = c.first.unmatched + c.second.unmatched;
  undecided = c.first.undecided + c.second.undecided;
}

-- The most entries that two accepted lists have.
abbrev pub most_entries : ℕ
most_entries = most_records + most_records

-- No count is above that.
pub record Few (c : Count) : Type 0 where
  pub matched : c.matched ≤ most_entries
  pub unmatched : c.unmatched ≤ most_entries
  pub undecided : c.undecided ≤ most_entries
