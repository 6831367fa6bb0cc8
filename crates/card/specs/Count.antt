-- The call `count`: the six counts that it answers.
-- Assumes nothing: these are definitions.
use Rattle.std.specs.Prelude.{List, ℕ, eqb, ltb, length}
use Rattle.bases.specs.Pick.{pick}
use Rattle.marks.specs.declared.count.Count.{Count}
use Rattle.marks.specs.declared.count.Counts.{Counts}
use Rattle.marks.specs.Counts.{counts_of}
use Rattle.clusters.specs.Merged.{merged_items}
use Rattle.card.specs.declared.answer.Answer.{Answer}
use Rattle.card.specs.declared.count.Counted.{Counted}
use Rattle.card.specs.declared.refusal.Refusal.{Refusal}
use Rattle.card.specs.Answer.{refused_answer}
use Rattle.card.specs.Refusal.{first_refusal, least_room, lists_checks}

-- An answer's first four numbers, and six counts.
abbrev pub counted_of : Answer → Counts → Counted
counted_of a c = record {
  number = a.number;
  list = a.list;
  line = a.line;
  place = a.place;
  matched1 = c.first.matched;
  unmatched1 = c.first.unmatched;
  undecided1 = c.first.undecided;
  matched2 = c.second.matched;
  unmatched2 = c.second.unmatched;
  undecided2 = c.second.undecided;
}

-- Six zeros.
abbrev pub no_count : Count
no_count = record { matched = 0; unmatched = 0; undecided = 0 }

abbrev pub no_counts : Counts
no_counts = record { first = no_count; second = no_count }

module _ (reference name first second marks : List ℕ) where
  -- Why nothing is counted; four zeros where the marks are. Row 2: there are fewer than 1,024.
  abbrev pub count_refusal : Refusal
  count_refusal = first_refusal (lists_checks reference name first second (ltb (length marks) least_room))

  -- What the marks of each list's entries count, or the refusal and six zeros.
  abbrev pub counted : Counted
  counted = counted_of (refused_answer count_refusal)
      (pick (eqb count_refusal.number 0) (counts_of (merged_items first second) marks) no_counts)
