-- The loop of `listed::listed::fill_entries`: what is still to be written gives all records of entries.
use Rattle.bases.specs.Letter.{bases_of}
use Rattle.clusters.proofs.Filling.{Filling}
use Rattle.listed.specs.Listed.{listed_of}
use Rattle.listed.specs.Listing.{entries_left}
use Rattle.listed.proofs.listed.fill_entries.Given as goal

abbrev pub invariant-loop-listed : goal.invariant-loop-listed
invariant-loop-listed l =
    (goal.iterator-loop-listed).can_next l.listed-iterator
    × (goal.iterator-loop-listed).is_finite l.listed-iterator
    × Filling (listed_of (bases_of l.lists.reference.now) l.lists.first.now l.lists.second.now) l.fn.entries (entries_left l.listed-iterator) l.k l.entries
