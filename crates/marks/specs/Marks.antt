-- Marks. Document 01: one byte an entry in merged order: `+`, `-`, `0`, or `?` for every entry of a cluster of 13 or more.
-- Assumes nothing: these are definitions.
use Rattle.std.specs.Prelude.{Bool, List, [], ◌∷◌, map, ℕ, ◌+◌, leb, ltb, length, get_or, take, replicate}
use Rattle.bases.specs.Pick.{pick}
use Rattle.bases.specs.Put.{put}
use Rattle.donors.specs.Choice.{Variant}
use Rattle.donors.specs.Table.{most}
use Rattle.matching.specs.Answer.{byte_of}
use Rattle.matching.specs.Best.{score}
use Rattle.matching.specs.Card.{card_scoring, card_best}
use Rattle.matching.specs.Cut.{join}
use Rattle.clusters.specs.declared.heads.Heads.{Heads}
use Rattle.marks.specs.declared.mark.Marked.{Marked}
use Rattle.marks.specs.declared.mark.Marked.TheVariants.{NoCluster, Undecided, Scored}
use Rattle.clusters.specs.Heads.{variants_from}
use Rattle.clusters.specs.Merged.{merged_variants}
use Rattle.clusters.specs.Plan.{card_plan}

-- The byte `?`.
abbrev pub QUESTION : ℕ
QUESTION = 63

-- A cluster is decided where it has no more entries than are searched over.
abbrev pub decided? : List Variant → Bool
decided? c = leb (length c) most

-- The marks of a cluster's entries: the choices of its best pair, or `?` for each.
abbrev pub marks_of : List ℕ → List Variant → List ℕ
marks_of reference c = pick (decided? c) (map byte_of (card_best reference c)) (replicate (length c) QUESTION)

-- The score of a cluster: that of its best pair; none where it is undecided.
abbrev pub score_of : List ℕ → List Variant → ℕ
score_of reference c = pick (decided? c) (score card_scoring c (card_best reference c)) 0

-- What is told of a cluster that was marked.
abbrev pub marked_of : List ℕ → List Variant → Marked
marked_of reference c = pick (decided? c) (Scored (score_of reference c)) Undecided

-- The score that is told; 0 where none is.
abbrev pub told_score : Marked → ℕ
told_score NoCluster = 0
told_score Undecided = 0
told_score (Scored s) = s

-- The clusters of two lists.
abbrev pub clusters_of : List ℕ → List ℕ → List ℕ → List (List Variant)
clusters_of reference first second = card_plan reference (merged_variants reference first second)

-- Those from the cursors on.
abbrev pub clusters_from : List ℕ → List ℕ → List ℕ → Heads → List (List Variant)
clusters_from reference first second h = card_plan reference (variants_from reference first second h)

-- The first entry of cluster k; the cluster itself.
abbrev pub first_entry : List (List Variant) → ℕ → ℕ
first_entry cs k = length (join (take k cs))

abbrev pub cluster_at : List (List Variant) → ℕ → List Variant
cluster_at cs k = get_or cs k []

-- There is a cluster k.
abbrev pub is_cluster? : List (List Variant) → ℕ → Bool
is_cluster? cs k = ltb k (length cs)

-- What is told where cluster k is asked for,
abbrev pub asked_for : List ℕ → List (List Variant) → ℕ → Marked
asked_for reference cs k = pick (is_cluster? cs k) (marked_of reference (cluster_at cs k)) NoCluster

-- and the marks then: only those of its entries are written, and none where there is no such cluster.
abbrev pub marks_after : List ℕ → List (List Variant) → ℕ → List ℕ → List ℕ
marks_after reference cs k marks = pick (is_cluster? cs k) (put marks (first_entry cs k) (marks_of reference (cluster_at cs k))) marks

-- The marks of all entries, cluster by cluster.
abbrev pub all_marks : List ℕ → List (List Variant) → List ℕ
all_marks reference cs = join (map (marks_of reference) cs)

-- The score summed over the decided clusters.
unfoldable pub total_score : List ℕ → List (List Variant) → ℕ
total_score reference [] = 0
total_score reference (c ∷ cs) = score_of reference c + total_score reference cs
