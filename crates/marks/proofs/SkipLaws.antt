-- Laws of the walk past k clusters, from cursors before which there are i entries.
--     skip_none, skip_done, skip_more     where it ends, and behind one cluster more
--     skip_ready, skip_left               what a walk leans on stays so; what was passed and what is left are the entries
--     skip_past, skip_found               where it comes to the last record there are no more than k clusters; else it comes to cluster k
--     asked_none, asked_found             so that is told, and that cluster marked, where cluster k is asked for
-- Assumes nothing.
use mathlib.Core.Bool.{Bool, true, false}
use mathlib.Core.List.{List, ◌∷◌}
use mathlib.Core.Path.{◌≡◌, refl, sym, ap, ap₂, ◌∙◌}
use Prim.Native.Nat.{ℕ, zero, suc, ◌+◌, ◌≤◌, ◌<◌}
use native.Mathlib.Nat.{zero-add}
use native.Mathlib.Omega.{arith}
use borrow.Author.Tests.{lt-ltb, le-ltb}
use lib.ListN.{length, take, length-append}
use Rattle.bases.specs.Put.{put}
use Rattle.bases.proofs.TestLaws.{of_false}
use Rattle.donors.specs.Choice.{Variant}
use Rattle.matching.specs.Cut.{join}
use Rattle.clusters.specs.declared.cluster.Found.{Found}
use Rattle.marks.specs.declared.skip.Skipped.{Skipped}
use Rattle.clusters.specs.declared.heads.Heads.{Heads}
use Rattle.marks.specs.declared.mark.Marked.{Marked}
use Rattle.marks.specs.declared.mark.Marked.TheVariants.{NoCluster}
use Rattle.clusters.specs.Heads.{Ready, items_from, done?, variants_from, first_count, found_at}
use Rattle.marks.specs.Marks.{marks_of, marked_of, clusters_from, first_entry, cluster_at, asked_for, marks_after}
use Rattle.marks.specs.Skip.{skipped, skip_clusters}
use Rattle.marks.proofs.EveryLaws.{cluster, next_cluster}
use Rattle.marks.proofs.MarkLaws.{next_long}
use Rattle.clusters.proofs.NextLaws.{count_le, found_left, ready_found, next_done}

-- Of clusters before which there are i entries, c is cluster k, and j entries are before it.
abbrev pub IsCluster : List (List Variant) → ℕ → ℕ → ℕ → List Variant → Type 0
IsCluster cs i k j c = (k < length cs) × (j ≡ i + first_entry cs k) × (c ≡ cluster_at cs k)

module _ {cs : List (List Variant)} {c : List Variant} {ds : List (List Variant)} (split : cs ≡ c ∷ ds) (i : ℕ) where
  cluster_first : IsCluster cs i 0 i c
  unfolding join
  cluster_first = rw split (omega arith, omega arith, refl)

  cluster_behind : (n : ℕ) → n ≡ length c → (k : ℕ) {j : ℕ} {x : List Variant} → IsCluster ds (i + n) k j x → IsCluster cs i (suc k) j x
  unfolding join
  cluster_behind n e k f = rw split (omega (arith, f.0), omega (arith, f.1, length-append c (join (take k ds))), f.2)

module _ (reference first second : List ℕ) where
  pub skip_none : (h : Heads) (i : ℕ) → skip_clusters reference first second 0 h i ≡ skipped h i
  unfolding skip_clusters
  skip_none h i = refl

  pub skip_done : (k : ℕ) (h : Heads) (i : ℕ) → done? first second h ≡ true → skip_clusters reference first second k h i ≡ skipped h i
  unfolding skip_clusters
  skip_done zero h i d = refl
  skip_done (suc k) h i d = rw d

  pub skip_more : (k : ℕ) (h : Heads) (i : ℕ) → done? first second h ≡ false
      → skip_clusters reference first second (suc k) h i ≡ skip_clusters reference first second k (found_at reference first second h).heads (i + first_count reference first second h)
  unfolding skip_clusters
  skip_more k h i d = rw d

  -- What the walk leads to has a property that the cursors and the entries before them have, where each step keeps it.
  skip_keeps : (P : Heads → ℕ → Type 0)
      → ((h : Heads) (i : ℕ) → done? first second h ≡ false → P h i → P (found_at reference first second h).heads (i + first_count reference first second h))
      → (k : ℕ) (h : Heads) (i : ℕ) → P h i → P (skip_clusters reference first second k h i).heads (skip_clusters reference first second k h i).entries
  skip_keeps P f zero h i p = rw (skip_none h i) p
  skip_keeps P f (suc k) h i p = go (done? first second h) refl (skip_keeps P f k (found_at reference first second h).heads (i + first_count reference first second h))
    where
      go : (t : Bool) → done? first second h ≡ t
          → (P (found_at reference first second h).heads (i + first_count reference first second h)
          → P (skip_clusters reference first second k (found_at reference first second h).heads (i + first_count reference first second h)).heads
          (skip_clusters reference first second k (found_at reference first second h).heads (i + first_count reference first second h)).entries)
          → P (skip_clusters reference first second (suc k) h i).heads (skip_clusters reference first second (suc k) h i).entries
      go true d r = rw (skip_done (suc k) h i d) p
      go false d r = rw (skip_more k h i d) (r (f h i d p))

  pub skip_ready : (k : ℕ) (h : Heads) (i : ℕ) → Ready reference first second h → Ready reference first second (skip_clusters reference first second k h i).heads
  skip_ready = skip_keeps (λ g j. Ready reference first second g) (λ g j d r. ready_found reference first second g d r)

  pub skip_left : (m k : ℕ) (h : Heads) (i : ℕ) → i + length (items_from first second h) ≤ m
      → (skip_clusters reference first second k h i).entries + length (items_from first second (skip_clusters reference first second k h i).heads) ≤ m
  skip_left m = skip_keeps (λ g j. j + length (items_from first second g) ≤ m) (λ g j d p. omega (arith, found_left reference first second g d, count_le reference first second g d))

  pub skip_past : (k : ℕ) (h : Heads) (i : ℕ) → done? first second (skip_clusters reference first second k h i).heads ≡ true → length (clusters_from reference first second h) ≤ k
  skip_past zero h i d = omega (arith, ap length (next_done reference first second h (rw (skip_none h i) at d)))
  skip_past (suc k) h i d = go (done? first second h) refl (skip_past k (found_at reference first second h).heads (i + first_count reference first second h))
    where
      go : (t : Bool) → done? first second h ≡ t
          → (done? first second (skip_clusters reference first second k (found_at reference first second h).heads (i + first_count reference first second h)).heads ≡ true
          → length (clusters_from reference first second (found_at reference first second h).heads) ≤ k)
          → length (clusters_from reference first second h) ≤ suc k
      go true e r = omega (arith, ap length (next_done reference first second h e))
      go false e r = omega (arith, ap length (next_cluster reference first second h e), r (rw (skip_more k h i e) at d))

  pub skip_found : (k : ℕ) (h : Heads) (i : ℕ) → done? first second (skip_clusters reference first second k h i).heads ≡ false
      → IsCluster (clusters_from reference first second h) i k (skip_clusters reference first second k h i).entries (cluster reference first second (skip_clusters reference first second k h i).heads)
  skip_found zero h i d = rw (skip_none h i) (cluster_first (next_cluster reference first second h (rw (skip_none h i) at d)) i)
  skip_found (suc k) h i d = go (done? first second h) refl (skip_found k (found_at reference first second h).heads (i + first_count reference first second h))
    where
      go : (t : Bool) → done? first second h ≡ t
          → (done? first second (skip_clusters reference first second k (found_at reference first second h).heads (i + first_count reference first second h)).heads ≡ false
          → IsCluster (clusters_from reference first second (found_at reference first second h).heads) (i + first_count reference first second h) k
          (skip_clusters reference first second k (found_at reference first second h).heads (i + first_count reference first second h)).entries
          (cluster reference first second (skip_clusters reference first second k (found_at reference first second h).heads (i + first_count reference first second h)).heads))
          → IsCluster (clusters_from reference first second h) i (suc k) (skip_clusters reference first second (suc k) h i).entries
          (cluster reference first second (skip_clusters reference first second (suc k) h i).heads)
      go true e r = absurd (let z : true ≡ false = sym e ∙ rw (skip_done (suc k) h i e) at d in of_false z tt)
      go false e r =
          rw (skip_more k h i e)
          (cluster_behind (next_cluster reference first second h e) i (first_count reference first second h)
          (sym (next_long reference first second h (first_count reference first second h) (count_le reference first second h e)))
          k (r (rw (skip_more k h i e) at d)))

  -- What is told of cluster k and the marks then, in the form that the code has: e is what the marks m became.
  module _ (k : ℕ) (h : Heads) (m : List ℕ) (g : Skipped) (at : g ≡ skip_clusters reference first second k h 0) where
    pub asked_none : done? first second g.heads ≡ true
        → (NoCluster ≡ asked_for reference (clusters_from reference first second h) k) × (m ≡ marks_after reference (clusters_from reference first second h) k m)
    asked_none d =
        let cs = clusters_from reference first second h in
        let past = skip_past k h 0 (rw at at d) in
        rw (le-ltb k (length cs) past) (refl, refl)

    pub asked_found : done? first second g.heads ≡ false → (f : Found) → f ≡ found_at reference first second g.heads → (e : List ℕ) (r : Marked)
        → r ≡ marked_of reference (take f.count (variants_from reference first second g.heads))
        → e ≡ put m g.entries (marks_of reference (take f.count (variants_from reference first second g.heads)))
        → (r ≡ asked_for reference (clusters_from reference first second h) k) × (e ≡ marks_after reference (clusters_from reference first second h) k m)
    asked_found d f ef e r er ee =
        let cs = clusters_from reference first second h in
        let n : f.count ≡ first_count reference first second g.heads = ap (λ (z : Found). z.count) ef in
        let found : IsCluster cs 0 k g.entries (cluster reference first second g.heads) = rw at (skip_found k h 0 (rw at at d)) in
        let c : take f.count (variants_from reference first second g.heads) ≡ cluster_at cs k = rw n found.2 in
        let j : g.entries ≡ first_entry cs k = found.1 ∙ zero-add (first_entry cs k) in
        rw (lt-ltb k (length cs) found.0) (er ∙ ap (marked_of reference) c, ee ∙ ap₂ (λ (a : ℕ) (x : List Variant). put m a (marks_of reference x)) j c)
