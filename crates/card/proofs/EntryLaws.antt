-- Each entry lies in one cluster, and has the mark that it has there.
--     lies_somewhere, lies_once     each entry lies in one cluster, and in no other
--     entry_marked                  an entry whose mark is the one among all clusters' marks is marked as demand 3 says
--     marked_same                   what demand 3 says of the marks determines each byte of them
-- Assumes nothing.
use mathlib.Core.List.{List, map}
use mathlib.Core.Path.{◌≡◌, sym, ap, ◌∙◌}
use Prim.Native.Nat.{ℕ, ◌+◌, ◌-◌, ◌<◌}
use native.Mathlib.Decide.{dec_lt}
use native.Mathlib.Omega.{arith}
use lib.ListN.{length, get_or}
use lib.Seq.{ext_get_or}
use Rattle.marks.specs.Marks.{marks_of, clusters_of, first_entry, cluster_at, all_marks}
use Rattle.clusters.specs.Merged.{merged_variants}
use Rattle.clusters.proofs.CardClusters.{clusters_pair}
use Rattle.clusters.proofs.JoinLaws.{first_apart, join_of, joined_at}
use Rattle.donors.specs.Choice.{Choice, Variant}
use Rattle.donors.specs.Table.{most}
use Rattle.matching.specs.Answer.{byte_of}
use Rattle.matching.specs.Card.{card_best}
use Rattle.vcf.specs.List.{judge_text}
use Rattle.card.specs.Demand.{LiesIn, EntryMarked, EntriesMarked}
use Rattle.card.proofs.ClusterMarks.{marks_long, marks_none, whole_long, mark_best, mark_question, mark_only}

module _ (reference first second : List ℕ) where
  abbrev clusters : List (List Variant)
  clusters = clusters_of reference first second

  pub lies_once : (j k e : ℕ) → LiesIn reference first second j e → LiesIn reference first second k e → j ≡ k
  lies_once j k e i l = go (dec_lt j k) (dec_lt k j)
    where
      go : Dec (j < k) → Dec (k < j) → j ≡ k
      go (yes h) d = absurd (omega (arith, first_apart clusters j k h, i.inside, l.begun))
      go (no h) (yes m) = absurd (omega (arith, first_apart clusters k j m, l.inside, i.begun))
      go (no h) (no m) = omega arith

  -- The mark of an entry among those of all clusters is that of its cluster.
  own_mark : (k e : ℕ) → LiesIn reference first second k e
      → get_or (all_marks reference (clusters_of reference first second)) e 0
      ≡ get_or (marks_of reference (cluster_at (clusters_of reference first second) k)) (e - first_entry (clusters_of reference first second) k) 0
  own_mark k e l =
      let i = e - first_entry clusters k in
      let same : e ≡ first_entry clusters k + i = omega (arith, l.begun) in
      ap (λ (n : ℕ). get_or (all_marks reference clusters) n 0) same
      ∙ joined_at (marks_of reference) (marks_long reference) (marks_none reference) clusters k i 0 (omega (arith, l.begun, l.inside))

module _ (reference name first second : List ℕ) (accepted1 : (judge_text reference name first).number ≡ 0) (accepted2 : (judge_text reference name second).number ≡ 0) where
  abbrev cs : List (List Variant)
  cs = clusters_of reference first second

  abbrev count : ℕ
  count = length (merged_variants reference first second)

  pub lies_somewhere : (e : ℕ) → e < length (merged_variants reference first second) → (k : ℕ) × LiesIn reference first second k e
  lies_somewhere e h =
      let o = join_of cs e (omega (arith, whole_long reference name first second accepted1 accepted2)) in
      (o.list, record { there = o.there; begun = omega (arith, o.at); inside = omega (arith, o.at, o.inside) })

  pub entry_marked : (marks : List ℕ) (k e : ℕ) → LiesIn reference first second k e
      → get_or marks e 0 ≡ get_or (all_marks reference (clusters_of reference first second)) e 0
      → EntryMarked reference first second (card_best reference (merged_variants reference first second)) marks e
  entry_marked marks k e l right =
      let i = e - first_entry cs k in
      let inside : i < length (cluster_at cs k) = omega (arith, l.begun, l.inside) in
      let same : first_entry cs k + i ≡ e = omega (arith, l.begun) in
      let own = right ∙ own_mark reference first second k e l in
      record {
        cluster = k;
        lies = l;
        nowhere_else = λ j m. lies_once reference first second j k e m l;
        best = λ small.
            own
            ∙ mark_best reference name first second accepted1 accepted2 k i inside (omega arith)
            ∙ ap (λ (n : ℕ). get_or (map byte_of (card_best reference (merged_variants reference first second))) n 0) same;
        undecided = λ large. own ∙ mark_question reference name first second accepted1 accepted2 k i inside (omega arith);
        only_those = λ q. omega (arith, mark_only reference name first second accepted1 accepted2 k i inside (sym own ∙ q));
      }

  pub marked_same : (before marks others : List ℕ) → EntriesMarked reference first second before marks → EntriesMarked reference first second before others → marks ≡ others
  marked_same before marks others m n =
      ext_get_or 0 marks others (m.long ∙ sym n.long) (λ e h. at e (dec_lt e count))
    where
      pairs : m.pair ≡ n.pair
      pairs =
          let one = (clusters_pair reference name first second accepted1 accepted2).1 in
          one m.pair m.is_best ∙ sym (one n.pair n.is_best)

      by_size : (e : ℕ) (x : EntryMarked reference first second m.pair marks e) (y : EntryMarked reference first second n.pair others e)
          → Dec (most < length (cluster_at cs x.cluster)) → get_or marks e 0 ≡ get_or others e 0
      by_size e x y d = go d
        where
          same : x.cluster ≡ y.cluster
          same = y.nowhere_else x.cluster x.lies

          size : length (cluster_at cs x.cluster) ≡ length (cluster_at cs y.cluster)
          size = ap (λ (k : ℕ). length (cluster_at cs k)) same

          go : Dec (most < length (cluster_at cs x.cluster)) → get_or marks e 0 ≡ get_or others e 0
          go (yes large) = x.undecided large ∙ sym (y.undecided (omega (arith, size)))
          go (no small) =
              x.best (omega arith) ∙ ap (λ (φ : List Choice). get_or (map byte_of φ) e 0) pairs ∙ sym (y.best (omega (arith, size)))

      at : (e : ℕ) → Dec (e < count) → get_or marks e 0 ≡ get_or others e 0
      at e (yes h) =
          let x = m.entries e h in
          let y = n.entries e h in
          by_size e x y (dec_lt most (length (cluster_at cs x.cluster)))
      at e (no h) = m.others e (omega arith) ∙ sym (n.others e (omega arith))
