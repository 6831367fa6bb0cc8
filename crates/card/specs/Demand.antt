-- Demand 3: calls of `mark` and of `mark_all` on one buffer of marks, in any order, with repeats and refused calls between.
-- Assumes nothing: these are definitions.
use Rattle.std.specs.Prelude.{List, [], ◌∷◌, map, ◌≢◌, ◌⊎◌, ◌≡◌, ℕ, ◌+◌, ◌≤◌, ◌<◌, length, get_or, take, drop}
use Rattle.bases.specs.Letter.{bases_of}
use Rattle.bases.specs.Put.{put}
use Rattle.clusters.specs.declared.plan.Cluster.{Cluster}
use Rattle.marks.specs.Marks.{QUESTION, clusters_of, first_entry, cluster_at}
use Rattle.clusters.specs.Merged.{merged_variants}
use Rattle.donors.specs.Choice.{Choice, Variant}
use Rattle.donors.specs.Table.{most}
use Rattle.matching.specs.Answer.{byte_of}
use Rattle.matching.specs.BestOf.{Some}
use Rattle.matching.specs.Card.{BestPair}
use Rattle.card.specs.declared.refusal.Refusal.{Refusal}
use Rattle.card.specs.All.{all_refusal, all_bytes}
use Rattle.card.specs.Mark.{mark_refusal, mark_after}

-- What a call is given: its input, and the part of the marks that it is lent, from a byte on and so many.
pub record Input : Type 0 where
  pub reference : List ℕ
  pub name : List ℕ
  pub first : List ℕ
  pub second : List ℕ
  pub plan : List Cluster
  pub from : ℕ
  pub room : ℕ

-- A call: `mark` of a cluster, or `mark_all`.
pub data Call : Type 0 where
  mark : Input → ℕ → Call
  mark_all : Input → Call

abbrev pub input_of : Call → Input
input_of (mark i k) = i
input_of (mark_all i) = i

-- Why the call is refused; four zeros where it is answered.
abbrev pub refusal_of : Call → Refusal
refusal_of (mark i k) = mark_refusal i.reference i.name i.first i.second i.plan k i.room
refusal_of (mark_all i) = all_refusal i.reference i.name i.first i.second (length i.plan) i.room

-- The part that the call is lent, afterwards.
abbrev pub part_after : Call → List ℕ → List ℕ
part_after (mark i k) part = mark_after i.reference i.name i.first i.second i.plan k part
part_after (mark_all i) part = all_bytes i.reference i.name i.first i.second i.plan part

-- The call asks for cluster k: `mark_all` asks for each.
abbrev pub Asks : ℕ → Call → Type 0
Asks k (mark i j) = j ≡ k
Asks k (mark_all i) = Unit {0}

-- The marks after a call, and after several.
abbrev pub after : List ℕ → Call → List ℕ
after marks c = put marks (input_of c).from (part_after c (take (input_of c).room (drop (input_of c).from marks)))

unfoldable pub after_all : List ℕ → List Call → List ℕ
after_all marks [] = marks
after_all marks (c ∷ cs) = after_all (after marks c) cs

module _ (reference name first second : List ℕ) where
  -- The call is on these lists, and is lent the marks from their first byte on.
  pub record OnThese (i : Input) : Type 0 where
    pub reference_same : i.reference ≡ reference
    pub name_same : i.name ≡ name
    pub first_same : i.first ≡ first
    pub second_same : i.second ≡ second
    pub from_first : i.from ≡ 0

  -- Any call whose part lies within n marks: on these lists, or refused, with whatever input.
  abbrev pub Allowed : ℕ → Call → Type 0
  Allowed n c = ((input_of c).from + (input_of c).room ≤ n) × (((refusal_of c).number ≢ 0) ⊎ OnThese (input_of c))

  -- The call is on these lists, asks for cluster k, and is answered.
  abbrev pub Answers : ℕ → Call → Type 0
  Answers k c = OnThese (input_of c) × Asks k c × ((refusal_of c).number ≡ 0)

  -- Each cluster has been asked for, and answered.
  abbrev pub EachAnswered : List Call → Type 0
  EachAnswered calls = (k : ℕ) → k < length (clusters_of (bases_of reference) first second) → Some (Answers k) calls

module _ (reference first second : List ℕ) where
  abbrev clusters : List (List Variant)
  clusters = clusters_of reference first second

  -- Entry e, counted in merged order, lies in cluster k.
  pub record LiesIn (k e : ℕ) : Type 0 where
    pub there : k < length clusters
    pub begun : first_entry clusters k ≤ e
    pub inside : e < first_entry clusters k + length (cluster_at clusters k)

  -- The mark of entry e, which lies in one cluster and in no other; `pair` are the choices of the best pair over the two whole lists.
  pub record EntryMarked (pair : List Choice) (marks : List ℕ) (e : ℕ) : Type 0 where
    pub cluster : ℕ
    pub lies : LiesIn cluster e
    pub nowhere_else : (k : ℕ) → LiesIn k e → k ≡ cluster
    -- "An entry in a cluster of at most 12 has the mark that the best pair over the two whole lists gives it.
    pub best : length (cluster_at clusters cluster) ≤ most → get_or marks e 0 ≡ get_or (map byte_of pair) e 0
    -- Entries of larger clusters are marked undecided,
    pub undecided : most < length (cluster_at clusters cluster) → get_or marks e 0 ≡ QUESTION
    -- and only those."
    pub only_those : get_or marks e 0 ≡ QUESTION → most < length (cluster_at clusters cluster)

  -- What is so of the marks once each cluster has been answered: of every entry of both lists, and of the other bytes, which are as before.
  pub record EntriesMarked (before marks : List ℕ) : Type 0 where
    pub pair : List Choice
    pub is_best : BestPair reference (merged_variants reference first second) pair
    pub entries : (e : ℕ) → e < length (merged_variants reference first second) → EntryMarked pair marks e
    pub others : (e : ℕ) → length (merged_variants reference first second) ≤ e → get_or marks e 0 ≡ get_or before e 0
    pub long : length marks ≡ length before
