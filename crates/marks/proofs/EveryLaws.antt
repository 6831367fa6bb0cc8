-- Laws of the walk that marks cluster after cluster, in the form that the code's loop has: m is the marks, h the cursors, before which
-- there are i entries, and total the score so far.
--     next_cluster      the clusters from the cursors on are the next entries, and those behind them
--     score_done, marks_done, score_next, marks_next
--                       so are the score and the marks
--     Marking           what is still to be marked gives the whole, and there is room for it
--     marking_start, marking_more, marking_last
--                       so it is at the start and behind one more cluster; where none is left, the score and the marks are those of all clusters
-- Assumes nothing.
use mathlib.Core.Bool.{true, false}
use mathlib.Core.List.{List, [], ◌∷◌, ◌++◌}
use mathlib.Core.Path.{◌≡◌, refl, sym, ap, ◌∙◌}
use Prim.Native.Nat.{ℕ, ◌+◌, ◌≤◌, ◌<◌}
use native.Mathlib.Omega.{arith}
use lib.ListN.{length, take}
use Rattle.bases.specs.Put.{put}
use Rattle.bases.proofs.PutLaws.{put_length, put_none, put_put}
use Rattle.donors.specs.Choice.{Variant, card_rules}
use Rattle.matching.specs.Cut.{join}
use Rattle.clusters.specs.declared.cluster.Found.{Found}
use Rattle.clusters.specs.declared.heads.Heads.{Heads}
use Rattle.marks.specs.declared.mark.Marked.{Marked}
use Rattle.clusters.specs.Heads.{items_from, done?, variants_from, first_count, found_at}
use Rattle.marks.specs.Markable.{Markable}
use Rattle.marks.specs.Marks.{marks_of, score_of, marked_of, told_score, clusters_from, all_marks, total_score}
use Rattle.clusters.proofs.FirstLaws.{first_take}
use Rattle.marks.proofs.MarkLaws.{marks_length, score_few, score_told, next_long, next_plain}
use Rattle.clusters.proofs.NextLaws.{count_some, count_le, found_left, ready_found, next_done, next_plan}

module _ (reference first second : List ℕ) (h : Heads) where
  -- The next cluster, and the clusters behind it.
  abbrev pub cluster : List Variant
  cluster = take (first_count reference first second h) (variants_from reference first second h)

  abbrev pub behind : List (List Variant)
  behind = clusters_from reference first second (found_at reference first second h).heads

  pub next_cluster : done? first second h ≡ false → clusters_from reference first second h ≡ cluster ∷ behind
  next_cluster d =
      next_plan reference first second h d
      ∙ ap (λ (c : List Variant). c ∷ behind) (first_take card_rules reference (variants_from reference first second h))

  score_done : done? first second h ≡ true → total_score reference (clusters_from reference first second h) ≡ 0
  unfolding total_score
  score_done d = rw (next_done reference first second h d)

  marks_done : done? first second h ≡ true → all_marks reference (clusters_from reference first second h) ≡ []
  unfolding join
  marks_done d = rw (next_done reference first second h d)

  score_next : done? first second h ≡ false → total_score reference (clusters_from reference first second h) ≡ score_of reference cluster + total_score reference behind
  unfolding total_score
  score_next d = ap (total_score reference) (next_cluster d)

  marks_next : done? first second h ≡ false → all_marks reference (clusters_from reference first second h) ≡ marks_of reference cluster ++ all_marks reference behind
  unfolding join
  marks_next d = ap (all_marks reference) (next_cluster d)

pub record Marking (reference first second m0 : List ℕ) (h0 : Heads) (m : List ℕ) (h : Heads) (i total : ℕ) : Type 0 where
  pub markable : Markable reference first second h
  pub fits : i + length (items_from first second h) ≤ length m
  pub low : total ≤ i
  pub space : length m ≡ length m0
  pub score : total + total_score reference (clusters_from reference first second h) ≡ total_score reference (clusters_from reference first second h0)
  pub marks : put m i (all_marks reference (clusters_from reference first second h)) ≡ put m0 0 (all_marks reference (clusters_from reference first second h0))

module _ (reference first second : List ℕ) where
  pub marking_start : (m : List ℕ) (h : Heads) → Markable reference first second h → length (items_from first second h) ≤ length m
      → Marking reference first second m h m h 0 0
  marking_start m h k l = record { markable = k; fits = omega arith; low = omega arith; space = refl; score = omega arith; marks = refl }

  module _ (m0 : List ℕ) (h0 : Heads) (m : List ℕ) (h : Heads) (i total : ℕ) (w : Marking reference first second m0 h0 m h i total) where
    pub marking_last : done? first second h ≡ true
        → (total ≡ total_score reference (clusters_from reference first second h0)) × (m ≡ put m0 0 (all_marks reference (clusters_from reference first second h0)))
    marking_last d = (omega (arith, w.score, score_done reference first second h d), sym (put_none m i) ∙ rw (marks_done reference first second h d) at w.marks)

    pub marking_more : done? first second h ≡ false → {f : Found} {k : Marked} {m' : List ℕ} → f ≡ found_at reference first second h
        → k ≡ marked_of reference (take f.count (variants_from reference first second h)) → m' ≡ put m i (marks_of reference (take f.count (variants_from reference first second h)))
        → Marking reference first second m0 h0 m' f.heads (i + f.count) (total + told_score k)
        × (length (items_from first second f.heads) < length (items_from first second h))
    marking_more d {f} {k} {m'} ef ek em =
        let n = first_count reference first second h in
        let c = cluster reference first second h in
        let le = count_le reference first second h d in
        let some = count_some reference first second h d in
        let left = found_left reference first second h d in
        let long = marks_length reference c ∙ next_long reference first second h n le in
        let fn : f.count ≡ n = ap (λ (z : Found). z.count) ef in
        let fh : f.heads ≡ (found_at reference first second h).heads = ap (λ (z : Found). z.heads) ef in
        let ks : told_score k ≡ score_of reference c = ap told_score ek ∙ score_told reference (take f.count (variants_from reference first second h)) ∙ rw fn in
        let ms : m' ≡ put m i (marks_of reference c) = em ∙ rw fn in
        let inside : i ≤ length m = omega (arith, w.fits) in
        let q : i + n ≡ i + length (marks_of reference c) = omega arith in
        let z = w.markable in
        let same = put_length m i inside (marks_of reference c) (omega (arith, w.fits)) in
        rw (fn, fh, ks, ms) (
          record {
            markable = record { ready = ready_found reference first second h d z.ready; short = z.short };
            fits = omega (arith, w.fits);
            low = omega (arith, w.low, score_few reference c (next_plain reference first second h n le), next_long reference first second h n le);
            space = same ∙ w.space;
            score = omega (arith, w.score, score_next reference first second h d);
            marks = rw (q, put_put m i inside (marks_of reference c) (all_marks reference (behind reference first second h))) (rw (marks_next reference first second h d) at w.marks);
          },
          omega arith,
        )
