-- Laws of the plan.
--     onto_onto                    items in front of items in front of clusters
--     rest_cuts, plan_join, plan_cuts     the clusters joined are the items, and each is cut from what is behind it where matching may cut
--     plan_all                     what holds of each item holds of each in each cluster
--     plan_best                    so the best of all items is the best of each cluster, joined
-- Assumes nothing.
use mathlib.Core.Bool.{Bool, true, false, cond}
use mathlib.Core.List.{List, [], ◌∷◌, ◌++◌, map, append_assoc, append-nil}
use mathlib.Core.Path.{◌≡◌, refl, sym, ap, ◌∙◌}
use Prim.Native.Nat.{ℕ}
use lib.ListN.{length}
use Rattle.bases.proofs.TestLaws.{of_true}
use Rattle.donors.specs.Apart.{All}
use Rattle.donors.specs.Items.{Ends, Sorted}
use Rattle.donors.specs.Rules.{Rules}
use Rattle.matching.specs.Best.{Scoring}
use Rattle.matching.specs.BestOf.{Finite, best_of}
use Rattle.matching.specs.Cut.{join, Cuts}
use Rattle.matching.proofs.ClusterLaws.{best_clusters}
use Rattle.clusters.specs.declared.gap.Current.{Current}
use Rattle.clusters.specs.Gap.{size_of, more, begin, cut?}
use Rattle.clusters.specs.Plan.{onto, rest, plan}
use Rattle.clusters.proofs.GapLaws.{current_of, current_begin, current_more, cut_right}

pub onto_onto {ℓ} : {A : Type ℓ} (c d : List A) (es : List (List A)) → onto c (onto d es) ≡ onto (c ++ d) es
onto_onto c d [] = refl
onto_onto c d (e ∷ es) = ap (λ (f : List _). f ∷ es) (sym (append_assoc c d e))

onto_all : {A : Type 0} (P : A → Type 0) (x : A) (cs : List (List A)) → P x → All (All P) cs → All (All P) (onto (x ∷ []) cs)
onto_all P x [] p u = ((p, tt), tt)
onto_all P x (c ∷ cs) p u = ((p, u.0), u.1)

module _ {X C H : Type 0} (𝓡 : Rules X C H) (R : List ℕ) where
  -- Where the rule cuts, and where it does not.
  pub rest_cut : (c : Current) (x : X) (xs : List X) → cut? R c (size_of 𝓡 x).start ≡ true
      → rest 𝓡 R c (x ∷ xs) ≡ [] ∷ onto (x ∷ []) (rest 𝓡 R (begin (size_of 𝓡 x)) xs)
  unfolding rest
  rest_cut c x xs e = rw e

  pub rest_more : (c : Current) (x : X) (xs : List X) → cut? R c (size_of 𝓡 x).start ≡ false
      → rest 𝓡 R c (x ∷ xs) ≡ onto (x ∷ []) (rest 𝓡 R (more c (size_of 𝓡 x)) xs)
  unfolding rest
  rest_more c x xs e = rw e

  pub rest_none : (c : Current) → rest 𝓡 R c [] ≡ [] ∷ []
  unfolding rest
  rest_none c = refl

  rest_all : (P : X → Type 0) (c : Current) (xs : List X) → All P xs → All (All P) (rest 𝓡 R c xs)
  unfolding rest
  rest_all P c [] u = (tt, tt)
  rest_all P c (x ∷ xs) u =
      let apart = rest 𝓡 R (begin (size_of 𝓡 x)) xs in
      let along = rest 𝓡 R (more c (size_of 𝓡 x)) xs in
      go (onto (x ∷ []) apart) (onto (x ∷ []) along) (cut? R c (size_of 𝓡 x).start)
      (onto_all P x apart u.0 (rest_all P (begin (size_of 𝓡 x)) xs u.1)) (onto_all P x along u.0 (rest_all P (more c (size_of 𝓡 x)) xs u.1))
    where
      go : (cs ds : List (List X)) (t : Bool) → All (All P) cs → All (All P) ds → All (All P) (cond t ([] ∷ cs) ds)
      go cs ds true v w = (tt, v)
      go cs ds false v w = w

  pub plan_all : (P : X → Type 0) (xs : List X) → All P xs → All (All P) (plan 𝓡 R xs)
  unfolding plan
  plan_all P [] u = tt
  plan_all P (x ∷ xs) u = onto_all P x (rest 𝓡 R (begin (size_of 𝓡 x)) xs) u.0 (rest_all P (begin (size_of 𝓡 x)) xs u.1)

  -- The clusters, of which the first is cur as far as it goes.
  rest_cuts : (cur xs : List X) → Sorted 𝓡 xs → Ends 𝓡 (length R) xs
      → (join (onto cur (rest 𝓡 R (current_of 𝓡 cur) xs)) ≡ cur ++ xs) × Cuts 𝓡 R (onto cur (rest 𝓡 R (current_of 𝓡 cur) xs))
  unfolding join rest
  rest_cuts cur [] s n = (append-nil (cur ++ []), (tt, tt))
  rest_cuts cur (x ∷ xs) s n =
      go (cut? R (current_of 𝓡 cur) (size_of 𝓡 x).start) refl (rest_cuts (x ∷ []) xs s.1 n.1) (rest_cuts (cur ++ (x ∷ [])) xs s.1 n.1)
    where
      Right : List X → List X → List (List X) → Type 0
      Right d ys cs = (join (onto d cs) ≡ d ++ ys) × Cuts 𝓡 R (onto d cs)

      go : (t : Bool) → cut? R (current_of 𝓡 cur) (size_of 𝓡 x).start ≡ t
          → Right (x ∷ []) xs (rest 𝓡 R (current_of 𝓡 (x ∷ [])) xs) → Right (cur ++ (x ∷ [])) xs (rest 𝓡 R (current_of 𝓡 (cur ++ (x ∷ []))) xs)
          → Right cur (x ∷ xs) (rest 𝓡 R (current_of 𝓡 cur) (x ∷ xs))
      go true e i j =
          rw (rest_cut (current_of 𝓡 cur) x xs e, current_begin 𝓡 x, append-nil cur)
          (ap (λ (l : List X). cur ++ l) i.0, (rw i.0 (cut_right 𝓡 R cur x xs s n.0 (of_true e)), i.1))
      go false e i j =
          rw (rest_more (current_of 𝓡 cur) x xs e, current_more 𝓡 cur x, onto_onto cur (x ∷ []))
          (j.0 ∙ append_assoc cur (x ∷ []) xs, j.1)

  plan_right : (xs : List X) → Sorted 𝓡 xs → Ends 𝓡 (length R) xs → (join (plan 𝓡 R xs) ≡ xs) × Cuts 𝓡 R (plan 𝓡 R xs)
  unfolding plan join
  plan_right [] s n = (refl, tt)
  plan_right (x ∷ xs) s n = rw (current_begin 𝓡 x) (rest_cuts (x ∷ []) xs s.1 n.1)

  module _ (xs : List X) (sorted : Sorted 𝓡 xs) (inside : Ends 𝓡 (length R) xs) where
    pub plan_join : join (plan 𝓡 R xs) ≡ xs
    plan_join = (plan_right xs sorted inside).0

    pub plan_cuts : Cuts 𝓡 R (plan 𝓡 R xs)
    plan_cuts = (plan_right xs sorted inside).1

    pub plan_best : (𝓢 : Scoring X C) (𝓕 : Finite 𝓡) → best_of 𝓡 𝓕 𝓢 R xs ≡ join (map (best_of 𝓡 𝓕 𝓢 R) (plan 𝓡 R xs))
    plan_best 𝓢 𝓕 = ap (best_of 𝓡 𝓕 𝓢 R) (sym plan_join) ∙ best_clusters 𝓡 𝓢 R 𝓕 (plan 𝓡 R xs) plan_cuts
