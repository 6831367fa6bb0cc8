-- A score is a small number, where each entry counts 1.
--     cluster_score, asked_score     that of a decided cluster, and what is told of an asked one, is at most 12
--     total_score_lem                the sum over clusters is at most the number of their entries
-- Assumes nothing.
use mathlib.Core.Bool.{Bool, true, false}
use mathlib.Core.List.{List, [], ◌∷◌}
use mathlib.Core.Path.{◌≡◌, refl}
use Prim.Native.Nat.{ℕ, zero, suc, ◌≤◌}
use native.Mathlib.Omega.{arith}
use borrow.Author.Tests.{leb-true}
use lib.ListN.{length, length-append}
use Rattle.bases.specs.Pick.{pick}
use Rattle.marks.specs.declared.mark.Marked.TheVariants.{NoCluster}
use Rattle.marks.specs.Marks.{decided?, score_of, marked_of, told_score, cluster_at, is_cluster?, asked_for, total_score}
use Rattle.donors.specs.Apart.{All}
use Rattle.donors.specs.Choice.{Variant, Plain}
use Rattle.donors.specs.Table.{most}
use Rattle.matching.specs.Best.{score}
use Rattle.matching.specs.Card.{card_scoring, card_best}
use Rattle.matching.specs.Cut.{join}
use Rattle.marks.proofs.MarkLaws.{chosen_few, score_few, score_told}

module _ (reference : List ℕ) where
  pub cluster_score : (c : List Variant) → All Plain c → score_of reference c ≤ most
  cluster_score c p = go (decided? c) refl
    where
      go : (t : Bool) → decided? c ≡ t → pick t (score card_scoring c (card_best reference c)) 0 ≤ most
      go true e = omega (arith, chosen_few c (card_best reference c) p, leb-true (length c) most e)
      go false e = omega arith

  pub asked_score : (cs : List (List Variant)) → All (All Plain) cs → (k : ℕ) → told_score (asked_for reference cs k) ≤ most
  asked_score cs p k = go (is_cluster? cs k)
    where
      at : (cs : List (List Variant)) → All (All Plain) cs → (k : ℕ) → All Plain (cluster_at cs k)
      at [] q k = tt
      at (c ∷ cs) q zero = q.0
      at (c ∷ cs) q (suc k) = at cs q.1 k

      go : (t : Bool) → told_score (pick t (marked_of reference (cluster_at cs k)) NoCluster) ≤ most
      go true = omega (arith, score_told reference (cluster_at cs k), cluster_score (cluster_at cs k) (at cs p k))
      go false = omega arith

  pub total_score_lem : (cs : List (List Variant)) → All (All Plain) cs → total_score reference cs ≤ length (join cs)
  unfolding total_score join
  total_score_lem [] p = omega arith
  total_score_lem (c ∷ cs) p = omega (arith, score_few reference c p.0, total_score_lem cs p.1, length-append c (join cs))
