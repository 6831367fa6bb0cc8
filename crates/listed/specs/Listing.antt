-- The walk from entry to entry over two texts: each step has the next entry's record, and where the walk is behind it; and the records of
-- the entries that are left. Before the first entry there is no cluster, and the gap rule cuts there: so each entry's cluster is the last
-- that has begun.
-- Assumes nothing: these are definitions.
use Rattle.std.specs.Prelude.{Bool, true, false, List, [], ◌∷◌, ◌≡◌, ℕ, ◌+◌, ◌-◌, ◌≤◌, length}
use Rattle.bases.specs.Letter.{bases_of}
use Rattle.bases.specs.Pick.{pick}
use Rattle.donors.specs.Choice.{card_rules}
use Rattle.donors.specs.Rules.{Rules}
use Rattle.clusters.specs.declared.gap.Current.{Current}
use Rattle.clusters.specs.declared.gap.Size.{Size}
use Rattle.listed.specs.declared.listed.Entries.{Entries}
use Rattle.listed.specs.declared.listed.Listed.{Listed}
use Rattle.listed.specs.declared.listed.Listing.{Listing}
use Rattle.listed.specs.declared.listed.Nexts.{Nexts}
use Rattle.listed.specs.declared.listed.Stand.{Stand}
use Rattle.marks.specs.Counts.{one}
use Rattle.clusters.specs.Gap.{size_of, more, nothing, begin, cut?, Kept}
use Rattle.clusters.specs.Heads.{Ready, start_heads, items_from, done?, next_item, moved, variants_from}
use Rattle.clusters.specs.Item.{item_size}
use Rattle.listed.specs.Listed.{listed_as, nexts_after, listed_from, first_nexts}

-- What is kept of the cluster of an entry, where the rule cuts before it and where it does not.
abbrev pub grown : Current → Size → Bool → Current
grown c z cut = pick cut (begin z) (more c z)

-- How many entries are passed.
abbrev pub passed_by : Nexts → ℕ
passed_by n = n.first.entry + n.second.entry

-- What stands for an entry's record where no entry is left.
abbrev pub not_listed : Listed
not_listed = record { list = 0; entry = 0; line = 0; cluster = 0 }

module _ {X C H : Type 0} (𝓡 : Rules X C H) (R : List ℕ) where
  -- The clusters' numbers of items, one an item, where b clusters have begun, and c is kept of the last.
  unfoldable pub numbers_on : Current → ℕ → List X → List ℕ
  numbers_on c b [] = []
  numbers_on c b (x ∷ xs) =
      let cut = cut? R c (size_of 𝓡 x).start in
      (b + one cut - 1) ∷ numbers_on (grown c (size_of 𝓡 x) cut) (b + one cut) xs

-- At the first entries.
abbrev pub start_stand : List ℕ → List ℕ → Stand
start_stand first second = record { heads = start_heads first second; nexts = first_nexts first second; current = nothing; begun = 0 }

module _ (reference first second : List ℕ) where
  -- What a step leans on: the entries from the cursors on can be read, no number is above what the texts' lengths allow, and before the
  -- first cluster nothing is kept of one.
  pub record Going (s : Stand) : Type 0 where
    pub ready : Ready reference first second s.heads
    pub few : passed_by s.nexts + length (items_from first second s.heads) ≤ length first + length second
    pub line1 : s.nexts.first.line ≤ length first + 1 + passed_by s.nexts
    pub line2 : s.nexts.second.line ≤ length second + 1 + passed_by s.nexts
    pub begun : s.begun ≤ passed_by s.nexts
    pub none : s.begun ≡ 0 → s.current ≡ nothing
    pub kept : Kept reference (passed_by s.nexts) s.current

  -- Does a cluster begin with the next entry?
  abbrev pub cut_at? : Stand → Bool
  cut_at? s = cut? reference s.current (item_size (next_item first second s.heads)).start

  -- How many clusters have begun with it, the last of which is its own.
  abbrev pub begun_at : Stand → ℕ
  begun_at s = s.begun + one (cut_at? s)

  -- Behind the next entry.
  abbrev pub stand_after : Stand → Stand
  stand_after s =
      let i = next_item first second s.heads in
      record {
        heads = moved first second s.heads i.side;
        nexts = nexts_after s.nexts i.side;
        current = grown s.current (item_size i) (cut_at? s);
        begun = begun_at s;
      }

  -- The record of the next entry.
  abbrev pub listed_at : Stand → Listed
  listed_at s = listed_as s.nexts (next_item first second s.heads).side (begun_at s - 1)

  -- The step there. Where no entry is left, it stays.
  abbrev pub listing_from : Stand → Listing
  listing_from s =
      pick (done? first second s.heads) (record { more = false; listed = not_listed; behind = s })
      (record { more = true; listed = listed_at s; behind = stand_after s })

  -- The first step.
  abbrev pub first_listing : Listing
  first_listing = listing_from (start_stand first second)

  -- The step behind one.
  abbrev pub next_listing : Listing → Listing
  next_listing w = listing_from w.behind

  -- The records of the entries from there on.
  abbrev pub listed_on : Stand → List Listed
  listed_on s =
      listed_from s.nexts
      (numbers_on card_rules reference s.current s.begun (variants_from reference first second s.heads))
      (items_from first second s.heads)

-- What a walk leans on, and the records of the entries that it has left.
abbrev pub Goes : Entries → Type 0
Goes w = Going (bases_of w.lists.reference.now) w.lists.first.now w.lists.second.now w.stand

abbrev pub entries_left : Entries → List Listed
entries_left w = listed_on (bases_of w.lists.reference.now) w.lists.first.now w.lists.second.now w.stand
