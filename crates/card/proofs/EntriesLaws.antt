-- The call `entries`: its refusals in document 01's words, and what its records say of the marks.
--     entries_refused_iff, entries_answered_iff    a refusal is given exactly if its row holds and none before it in the order does; an
--                                                  answer exactly if none holds
--     entries_marks       answered, it gives the number of marks that `mark_all` writes: mark e belongs to record e
--     entries_lie         entry e lies in the cluster that record e names,
--     entries_marked      which is the one that demand 3 speaks of where it says what mark e is
-- Assumes nothing.
use mathlib.Core.List.{List, [], ◌∷◌}
use mathlib.Core.Logic.{◌↔◌, ◌≢◌}
use mathlib.Core.Path.{◌≡◌, refl, sym, ap, ◌∙◌}
use Prim.Native.Nat.{ℕ, zero, suc, ◌+◌, ◌<◌}
use native.Mathlib.Omega.{arith}
use lib.Dec.{ltb}
use lib.ListN.{length, take, get_or, length-append}
use Rattle.bases.specs.Letter.{bases_of}
use Rattle.clusters.specs.declared.plan.Cluster.{Cluster}
use Rattle.listed.specs.Listed.{listed_of}
use Rattle.listed.specs.Listing.{not_listed}
use Rattle.marks.specs.Marks.{clusters_of, all_marks}
use Rattle.clusters.specs.Merged.{item_of}
use Rattle.clusters.specs.Plan.{records_from}
use Rattle.clusters.proofs.FirstLaws.{records_length}
use Rattle.listed.proofs.ListedLaws.{listed_length, listed_cluster}
use Rattle.donors.specs.Choice.{Choice, Variant}
use Rattle.donors.specs.Rules.{list1}
use Rattle.matching.specs.Cut.{join}
use Rattle.vcf.specs.Entry.{entry_of}
use Rattle.card.specs.declared.refusal.Refusal.{Refusal}
use Rattle.card.specs.Answer.{answer}
use Rattle.card.specs.Demand.{LiesIn, EntryMarked}
use Rattle.card.specs.Entries.{listed_refusal, listed}
use Rattle.card.specs.Refusal.{no_refusal, least_room, lists_checks}
use Rattle.card.proofs.ClusterMarks.{marks_all}
use Rattle.card.proofs.ListsLaws.{lists_read}
use Rattle.card.proofs.PlanLaws.{plan_refused_iff, plan_answered_iff, answer_given}
use Rattle.bases.proofs.FirstLaws.{NoneHolds, First}

module _ (reference name first second : List ℕ) (room : ℕ) where
  pub entries_refused_iff : (r : Refusal) → ((listed_refusal reference name first second room ≡ r) × (r.number ≢ 0)) ↔ First r (lists_checks reference name first second (ltb room least_room))
  entries_refused_iff = plan_refused_iff reference name first second room

  pub entries_answered_iff : (listed_refusal reference name first second room ≡ no_refusal) ↔ NoneHolds (lists_checks reference name first second (ltb room least_room))
  entries_answered_iff = plan_answered_iff reference name first second room

  pub entries_marks : (listed_refusal reference name first second room).number ≡ 0
      → listed reference name first second room ≡ answer 0 0 0 0 (length (all_marks (bases_of reference) (clusters_of (bases_of reference) first second)))
  entries_marks z =
      let r = lists_read reference name first (ltb room least_room) second z in
      (answer_given {A = ℕ} (listed_refusal reference name first second room) (length (listed_of (bases_of reference) first second)) [] [] z).0
      ∙ ap (answer 0 0 0 0) (listed_length (bases_of reference) first second ∙ sym (marks_all (bases_of reference) name first second r.0.accepted r.1))

-- Record k of clusters has the first entry of cluster k, and its number of entries.
record_at_lem : {X : Type 0} (cs : List (List X)) (i k : ℕ) (d : Cluster) → k < length cs
    → ((get_or (records_from i cs) k d).first ≡ i + length (join (take k cs))) × ((get_or (records_from i cs) k d).count ≡ length (get_or cs k []))
unfolding records_from join
record_at_lem [] i k d h = absurd (omega arith)
record_at_lem (c ∷ cs) i zero d h = (omega arith, refl)
record_at_lem (c ∷ cs) i (suc k) d h =
    let r = record_at_lem cs (i + length c) k d (omega arith) in
    (omega (arith, r.0, length-append c (join (take k cs))), r.1)

module _ (reference first second : List ℕ) where
  abbrev clusters : List (List Variant)
  clusters = clusters_of reference first second

  -- where no record is
  abbrev none : Cluster
  none = record { first = 0; count = 0 }

  pub entries_lie : (e : ℕ) → e < length (listed_of reference first second) → LiesIn reference first second (get_or (listed_of reference first second) e not_listed).cluster e
  entries_lie e h =
      let k = (get_or (listed_of reference first second) e not_listed).cluster in
      let o = listed_cluster reference first second e (omega (arith, listed_length reference first second)) not_listed (item_of list1 (entry_of [] 0)) in
      let there : k < length clusters = omega (arith, o.there, records_length 0 clusters) in
      let r = record_at_lem clusters 0 k none there in
      record { there = there; begun = omega (arith, o.after none, r.0); inside = omega (arith, o.before none, r.0, r.1) }

  pub entries_marked : (pair : List Choice) (marks : List ℕ) (e : ℕ) → e < length (listed_of reference first second) → (m : EntryMarked reference first second pair marks e)
      → (get_or (listed_of reference first second) e not_listed).cluster ≡ m.cluster
  entries_marked pair marks e h m = m.nowhere_else (get_or (listed_of reference first second) e not_listed).cluster (entries_lie e h)
