-- Each contract determines its result.
-- None of these functions is lent anything that it can write; those over lent records are in LentDetermines.
-- Assumes nothing.
use mathlib.Core.List.{List}
use mathlib.Core.Path.{sym, ◌∙◌}
use Rattle.clusters.proofs.Determines.{first_determines}
use Rattle.listed.specs.declared.listed.Listed.{Listed}
use Rattle.listed.specs.Listing.{entries_left}
use Rattle.bases.proofs.Determines.{OneResult, OneSeen, OneLeft}
use Rattle.listed.proofs.listed.all_entries.Kinds as all-entries-kinds
use Rattle.listed.proofs.listed.all_entries.Reads as all-entries
use Rattle.listed.proofs.listed.EntriesIterator.next.Kinds as next-kinds
use Rattle.listed.proofs.listed.EntriesIterator.next.Reads as next
use Rattle.listed.proofs.listed.first_listing.Kinds as first-listing-kinds
use Rattle.listed.proofs.listed.first_listing.Reads as first-listing
use Rattle.listed.proofs.listed.next_listing.Kinds as next-listing-kinds
use Rattle.listed.proofs.listed.next_listing.Reads as next-listing
use Rattle.listed.proofs.listed.list_number.Kinds as list-number-kinds
use Rattle.listed.proofs.listed.list_number.Reads as list-number

pub list_number_determines : OneResult 0 list-number-kinds.ps list-number-kinds.r list-number.Post
list_number_determines κs a z z' e e' p q = p ∙ sym q

pub first_listing_determines : OneResult 3 first-listing-kinds.ps first-listing-kinds.r first-listing.Post
first_listing_determines κs a z z' e e' p q = p ∙ sym q

pub next_listing_determines : OneResult 3 next-listing-kinds.ps next-listing-kinds.r next-listing.Post
next_listing_determines κs a z z' e e' p q = p ∙ sym q

-- Any two walks that the contract of `all_entries` allows have the same entries left,
pub all_entries_determines : OneSeen 1 all-entries-kinds.ps all-entries-kinds.r all-entries.Post (List Listed) (λ κs z. entries_left z)
all_entries_determines κs a z z' e e' p q = p.1 ∙ sym q.1

-- and any two answers that the contract of `next` allows for a walk are equal, and leave the same entries.
pub next_determines : OneResult 2 next-kinds.ps next-kinds.r next.Post
    × OneLeft 2 next-kinds.ps next-kinds.r next.Post (List Listed) (λ κs e. entries_left e.0.now)
next_determines = (
  λ κs a z z' e e' p q. (first_determines entries_left a.0.now z z' e.0.now e'.0.now p.0 q.0).0,
  λ κs a z z' e e' p q. (first_determines entries_left a.0.now z z' e.0.now e'.0.now p.0 q.0).1,
)
