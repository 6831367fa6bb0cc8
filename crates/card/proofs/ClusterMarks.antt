-- The marks of the clusters, and those of the best pair over the two whole lists.
--     marks_long, marks_none        a cluster has one mark an entry
--     all_long, whole_long, clusters_long, marks_all
--                         the clusters together have as many entries as the two lists, and as many marks
--     entries_most, plan_few        accepted lists together have at most 1,024 entries, hence at most as many clusters
--     mark_best           entry i of a cluster of at most 12 has the mark that the best pair over the two whole lists gives it
--     mark_question, mark_only      each entry of a larger cluster has `?`, and no other entry has
-- Assumes nothing.
use mathlib.Core.Bool.{Bool, true, false}
use mathlib.Core.List.{List, [], ◌∷◌, ◌++◌, map, map-append}
use mathlib.Core.Path.{◌≡◌, refl, sym, ap, ◌∙◌}
use Prim.Native.Nat.{ℕ, zero, suc, ◌+◌, ◌≤◌, ◌<◌}
use native.Mathlib.Omega.{arith}
use borrow.Author.Tests.{leb-false, le-leb, lt-leb}
use lib.ListN.{length, get_or, replicate, length-append, length-replicate, get_or-replicate}
use Rattle.bases.specs.Pick.{pick}
use Rattle.marks.specs.Marks.{QUESTION, decided?, marks_of, clusters_of, first_entry, cluster_at, all_marks}
use Rattle.clusters.specs.Merged.{merged_items, merged_variants}
use Rattle.clusters.specs.Item.{variant}
use Rattle.clusters.specs.declared.plan.Cluster.{Cluster}
use Rattle.clusters.specs.Plan.{plan_of}
use Rattle.clusters.proofs.CardClusters.{map_length, merged_count, clusters_join, clusters_best, plan_total, plan_counts}
use Rattle.clusters.proofs.FirstLaws.{total}
use Rattle.donors.specs.Apart.{All}
use Rattle.clusters.proofs.JoinLaws.{joined_at}
use Rattle.donors.specs.Choice.{Choice, plus, minus, out, Variant, card_rules}
use Rattle.donors.specs.Table.{most}
use Rattle.matching.specs.Answer.{byte_of}
use Rattle.matching.specs.Card.{card_scoring, card_finite, card_best}
use Rattle.matching.specs.Cut.{join}
use Rattle.matching.proofs.BestOfLaws.{best_there}
use Rattle.vcf.specs.Entry.{entries_of}
use Rattle.vcf.specs.List.{judge_text}
use Rattle.vcf.proofs.AcceptedLaws.{accepted_few}
use Rattle.card.specs.Refusal.{least_room}

best_long : (R : List ℕ) (c : List Variant) → length (card_best R c) ≡ length c
best_long R c = (best_there card_rules card_scoring R c card_finite).legal.long

bytes_long : (R : List ℕ) (c : List Variant) → length (map byte_of (card_best R c)) ≡ length c
bytes_long R c = map_length byte_of (card_best R c) ∙ best_long R c

empty_of : {A : Type 0} (l : List A) → length l ≡ 0 → l ≡ []
empty_of [] e = refl
empty_of (x ∷ l) e = absurd (omega arith)

total_least : (rs : List Cluster) → All (λ (r : Cluster). 1 ≤ r.count) rs → length rs ≤ total rs
unfolding total
total_least [] a = omega arith
total_least (r ∷ rs) a = omega (arith, a.0, total_least rs a.1)

-- No choice is written as `?`.
byte_not : (φ : List Choice) (i : ℕ) → i < length φ → get_or (map byte_of φ) i 0 ≡ QUESTION → ⊥
byte_not [] i h e = absurd (omega arith)
byte_not (plus ∷ φ) zero h e = absurd (omega arith)
byte_not (minus ∷ φ) zero h e = absurd (omega arith)
byte_not (out ∷ φ) zero h e = absurd (omega arith)
byte_not (c ∷ φ) (suc i) h e = byte_not φ i (omega arith) e

map_join : {A B : Type 0} (f : A → B) (cs : List (List A)) → map f (join cs) ≡ join (map (map f) cs)
unfolding join
map_join f [] = refl
map_join f (c ∷ cs) = map-append f c (join cs) ∙ ap (λ l. map f c ++ l) (map_join f cs)

map_map : {A B C : Type 0} (f : A → B) (g : B → C) (cs : List A) → map g (map f cs) ≡ map (λ x. g (f x)) cs
map_map f g [] = refl
map_map f g (c ∷ cs) = ap (λ l. g (f c) ∷ l) (map_map f g cs)

module _ (reference : List ℕ) where
  pub marks_long : (c : List Variant) → length (marks_of reference c) ≡ length c
  marks_long c = go (decided? c)
    where
      go : (t : Bool) → length (pick t (map byte_of (card_best reference c)) (replicate (length c) QUESTION)) ≡ length c
      go true = bytes_long reference c
      go false = length-replicate (length c) QUESTION

  pub marks_none : marks_of reference [] ≡ []
  marks_none = empty_of (marks_of reference []) (marks_long [])

  pub all_long : (cs : List (List Variant)) → length (all_marks reference cs) ≡ length (join cs)
  unfolding join
  all_long [] = refl
  all_long (c ∷ cs) = omega (arith, length-append (marks_of reference c) (all_marks reference cs), length-append c (join cs), marks_long c, all_long cs)

  module _ (name first second : List ℕ) (accepted1 : (judge_text reference name first).number ≡ 0) (accepted2 : (judge_text reference name second).number ≡ 0) where
    abbrev cs : List (List Variant)
    cs = clusters_of reference first second

    pub whole_long : length (join (clusters_of reference first second)) ≡ length (merged_variants reference first second)
    whole_long = ap length (clusters_join reference name first second accepted1 accepted2)

    pub clusters_long : length (join (clusters_of reference first second)) ≡ length (merged_items first second)
    clusters_long = whole_long ∙ map_length (variant reference first second) (merged_items first second)

    pub marks_all : length (all_marks reference (clusters_of reference first second)) ≡ length (merged_items first second)
    marks_all = all_long (clusters_of reference first second) ∙ clusters_long

    pub entries_most : length (merged_variants reference first second) ≤ least_room
    entries_most =
        omega (
          arith,
          map_length (variant reference first second) (merged_items first second),
          merged_count (entries_of first) (entries_of second),
          accepted_few reference name first accepted1,
          accepted_few reference name second accepted2,
        )

    -- The plan has at most as many clusters as there are entries.
    pub plan_few : length (plan_of reference first second) ≤ least_room
    plan_few =
        omega (
          arith,
          total_least (plan_of reference first second) (plan_counts reference first second),
          plan_total reference name first second accepted1 accepted2,
          accepted_few reference name first accepted1,
          accepted_few reference name second accepted2,
        )

    whole : map byte_of (card_best reference (merged_variants reference first second))
        ≡ join (map (λ (c : List Variant). map byte_of (card_best reference c)) (clusters_of reference first second))
    whole =
        ap (map byte_of) (clusters_best reference name first second accepted1 accepted2)
        ∙ map_join byte_of (map (card_best reference) cs)
        ∙ ap join (map_map (card_best reference) (map byte_of) cs)

    module _ (k i : ℕ) (h : i < length (cluster_at (clusters_of reference first second) k)) where
      abbrev c : List Variant
      c = cluster_at (clusters_of reference first second) k

      pub mark_best : length (cluster_at (clusters_of reference first second) k) ≤ most
          → get_or (marks_of reference (cluster_at (clusters_of reference first second) k)) i 0
          ≡ get_or (map byte_of (card_best reference (merged_variants reference first second))) (first_entry (clusters_of reference first second) k + i) 0
      mark_best small =
          rw (le-leb (length c) most small)
          (sym (ap (λ (l : List ℕ). get_or l (first_entry cs k + i) 0) whole
          ∙ joined_at (λ (c : List Variant). map byte_of (card_best reference c)) (bytes_long reference) (empty_of _ (bytes_long reference [])) cs k i 0 h))

      pub mark_question : most < length (cluster_at (clusters_of reference first second) k) → get_or (marks_of reference (cluster_at (clusters_of reference first second) k)) i 0 ≡ QUESTION
      mark_question large = rw (lt-leb (length c) most large) (get_or-replicate (length c) i QUESTION 0 h)

      pub mark_only : get_or (marks_of reference (cluster_at (clusters_of reference first second) k)) i 0 ≡ QUESTION → most < length (cluster_at (clusters_of reference first second) k)
      mark_only = go (decided? c) refl
        where
          go : (t : Bool) → decided? c ≡ t → get_or (pick t (map byte_of (card_best reference c)) (replicate (length c) QUESTION)) i 0 ≡ QUESTION → most < length c
          go true e q = absurd (byte_not (card_best reference c) i (omega (arith, best_long reference c)) q)
          go false e q = leb-false (length c) most e
