-- The entries in merged order as records, one an entry: its list, its number in the list, its line in that list's text (from 1) and its
-- cluster.
-- Assumes nothing: these are definitions.
use Rattle.std.specs.Prelude.{Bool, true, false, List, [], ◌∷◌, ◌++◌, ℕ, ◌+◌, replicate}
use Rattle.vcf.specs.Entry.{lines_above}
use Rattle.clusters.specs.declared.item.Item.{Item}
use Rattle.listed.specs.declared.listed.Listed.{Listed}
use Rattle.listed.specs.declared.listed.Next.{Next}
use Rattle.listed.specs.declared.listed.Nexts.{Nexts}
use Rattle.clusters.specs.declared.plan.Cluster.{Cluster}
use Rattle.clusters.specs.Merged.{merged_items}
use Rattle.clusters.specs.Plan.{plan_of}

-- The number of a list (`side`: list 1).
abbrev pub list_number : Bool → ℕ
list_number true = 1
list_number false = 2

-- The clusters' numbers, from k on, one an entry.
unfoldable pub numbers_from : ℕ → List Cluster → List ℕ
numbers_from k [] = []
numbers_from k (c ∷ cs) = replicate c.count k ++ numbers_from (k + 1) cs

-- The first entry of a list has the number 0, and stands on the line behind those above the records.
abbrev pub first_next : List ℕ → Next
first_next t = record { entry = 0; line = lines_above t + 1 }

-- Behind an entry: the next number and the next line.
abbrev pub one_on : Next → Next
one_on n = record { entry = n.entry + 1; line = n.line + 1 }

-- The next entry of a list; and of both behind it.
abbrev pub next_of : Nexts → Bool → Next
next_of n true = n.first
next_of n false = n.second

abbrev pub nexts_after : Nexts → Bool → Nexts
nexts_after n true = record { first = one_on n.first; second = n.second }
nexts_after n false = record { first = n.first; second = one_on n.second }

-- The record of a list's next entry, which is in cluster k.
abbrev pub listed_as : Nexts → Bool → ℕ → Listed
listed_as n side k = record { list = list_number side; entry = (next_of n side).entry; line = (next_of n side).line; cluster = k }

-- The records of entries in merged order. The clusters' numbers stand beside them, one an entry, and n has the next entry of each list.
unfoldable pub listed_from : Nexts → List ℕ → List Item → List Listed
listed_from n [] is = []
listed_from n (k ∷ ks) [] = []
listed_from n (k ∷ ks) (i ∷ is) = listed_as n i.side k ∷ listed_from (nexts_after n i.side) ks is

-- The first entry of each list,
abbrev pub first_nexts : List ℕ → List ℕ → Nexts
first_nexts first second = record { first = first_next first; second = first_next second }

-- and the records of all entries of two lists.
abbrev pub listed_of : List ℕ → List ℕ → List ℕ → List Listed
listed_of reference first second =
    listed_from (first_nexts first second) (numbers_from 0 (plan_of reference first second)) (merged_items first second)
