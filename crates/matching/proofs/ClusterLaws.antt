-- Over any list of clusters that are cut where they may be: the best of the whole is the best of its clusters, joined.
--     Fits, each_fits, chop_fits     one string a cluster, as long as the cluster
--     chop_join, join_chop           to chop and to join undo each other
--     cuts_best                      strings joined are best exactly if each is best in its cluster
--     cuts_chop                      a string is best exactly if, chopped, it is best in each cluster
--     cuts_one                       the strings that are best in their clusters, joined, are the one best string
--     best_clusters                  best_of of the whole is best_of of each cluster, joined
-- Assumes nothing.
use mathlib.Core.List.{List, [], ◌∷◌, ◌++◌, map, append-nil}
use mathlib.Core.Logic.{inr, ◌↔◌}
use mathlib.Core.Path.{◌≡◌, refl, ap, ap₂, ◌∙◌, subst}
use Prim.Native.Nat.{ℕ}
use native.Mathlib.Omega.{arith}
use lib.ListN.{length, take, drop, length-append, length-drop, take-append-drop}
use lib.Seq.{length-take-le, take_at, drop_at}
use Rattle.donors.specs.Rules.{Rules, edits}
use Rattle.matching.specs.Best.{Scoring, IsBest, score}
use Rattle.matching.specs.BestOf.{Finite, best_of}
use Rattle.matching.specs.Cut.{join, After, Cuts, EachBest, chop}
use Rattle.matching.specs.Legal.{Legal}
use Rattle.matching.proofs.BestOfLaws.{best_one, best_there}
use Rattle.matching.proofs.CutLaws.{legal_split, legal_best}

-- A string for each cluster, as long as it.
abbrev pub Fits : {X C : Type 0} → List (List X) → List (List C) → Type 0
Fits [] [] = Unit {0}
Fits [] (φ ∷ φs) = ⊥
Fits (c ∷ cs) [] = ⊥
Fits (c ∷ cs) (φ ∷ φs) = (length φ ≡ length c) × Fits cs φs

pub chop_fits : {X C : Type 0} (cs : List (List X)) (φ : List C) → length φ ≡ length (join cs) → Fits cs (chop cs φ)
unfolding chop join
chop_fits [] φ l = tt
chop_fits (c ∷ cs) φ l =
    let m = length-append c (join cs) in
    (length-take-le (length c) φ (omega arith), chop_fits cs (drop (length c) φ) (omega (arith, length-drop (length c) φ)))

pub chop_join : {X C : Type 0} (cs : List (List X)) (φ : List C) → length φ ≡ length (join cs) → join (chop cs φ) ≡ φ
unfolding chop join
chop_join [] [] l = refl
chop_join [] (c ∷ φ) l = absurd (omega arith)
chop_join (c ∷ cs) φ l =
    let m = length-append c (join cs) in
    ap (λ (r : List _). take (length c) φ ++ r) (chop_join cs (drop (length c) φ) (omega (arith, length-drop (length c) φ))) ∙ take-append-drop (length c) φ

pub join_chop : {X C : Type 0} (cs : List (List X)) (φs : List (List C)) → Fits cs φs → chop cs (join φs) ≡ φs
unfolding chop join
join_chop [] [] f = refl
join_chop [] (φ ∷ φs) f = absurd f
join_chop (c ∷ cs) [] f = absurd f
join_chop (c ∷ cs) (φ ∷ φs) f =
    ap₂ ◌∷◌ (take_at φ (join φs) (length c) f.0) (ap (chop cs) (drop_at φ (join φs) (length c) f.0) ∙ join_chop cs φs f.1)

module _ {X C H : Type 0} (𝓡 : Rules X C H) (𝓢 : Scoring X C) (R : List ℕ) where
  legal_none : Legal 𝓡 R [] []
  unfolding edits
  legal_none = record { long = refl; allowed = tt; apart = λ j h. tt; same = λ h. refl }

  after_legal : (xs ys : List X) → After 𝓡 R xs ys → (φ ψ : List C) → length φ ≡ length xs → Legal 𝓡 R (xs ++ ys) (φ ++ ψ) ↔ (Legal 𝓡 R xs φ × Legal 𝓡 R ys ψ)
  after_legal xs [] a φ [] l = rw (append-nil xs, append-nil φ) (λ g. (g, legal_none), λ g. g.0)
  after_legal xs [] a φ (d ∷ ψ) l =
      (λ g. absurd (omega (arith, g.long, length-append xs [], length-append φ (d ∷ ψ))), λ g. absurd (omega (arith, g.1.long)))
  after_legal xs (y ∷ ys) a φ ψ l = legal_split 𝓡 R xs (y ∷ ys) a φ ψ l

  best_none : IsBest 𝓡 𝓢 R [] []
  unfolding score
  best_none = record { legal = legal_none; top = λ ψ g. inr (refl, tt) }

  pub each_fits : (cs : List (List X)) (φs : List (List C)) → EachBest 𝓡 R 𝓢 cs φs → Fits cs φs
  each_fits [] [] e = tt
  each_fits [] (φ ∷ φs) e = absurd e
  each_fits (c ∷ cs) [] e = absurd e
  each_fits (c ∷ cs) (φ ∷ φs) e = (e.0.legal.long, each_fits cs φs e.1)

  pub cuts_best : (cs : List (List X)) (φs : List (List C)) → Cuts 𝓡 R cs → Fits cs φs → IsBest 𝓡 𝓢 R (join cs) (join φs) ↔ EachBest 𝓡 R 𝓢 cs φs
  unfolding join
  cuts_best [] [] k f = (λ b. tt, λ b. best_none)
  cuts_best [] (φ ∷ φs) k f = absurd f
  cuts_best (c ∷ cs) [] k f = absurd f
  cuts_best (c ∷ cs) (φ ∷ φs) k f =
      let a = legal_best 𝓡 𝓢 R c (join cs) (after_legal c (join cs) k.0) φ (join φs) f.0 in
      let i = cuts_best cs φs k.1 f.1 in
      (λ b. ((a.0 b).0, i.0 (a.0 b).1), λ b. a.1 (b.0, i.1 b.1))

  pub cuts_chop : (cs : List (List X)) (φ : List C) → Cuts 𝓡 R cs → length φ ≡ length (join cs) → IsBest 𝓡 𝓢 R (join cs) φ ↔ EachBest 𝓡 R 𝓢 cs (chop cs φ)
  cuts_chop cs φ k l =
      subst (λ (θ : List C). IsBest 𝓡 𝓢 R (join cs) θ ↔ EachBest 𝓡 R 𝓢 cs (chop cs φ)) (chop_join cs φ l) (cuts_best cs (chop cs φ) k (chop_fits cs φ l))

  pub cuts_one : (cs : List (List X)) (φs : List (List C)) → Cuts 𝓡 R cs → EachBest 𝓡 R 𝓢 cs φs
      → IsBest 𝓡 𝓢 R (join cs) (join φs) × ((ψ : List C) → IsBest 𝓡 𝓢 R (join cs) ψ → ψ ≡ join φs)
  cuts_one cs φs k e =
      let b = (cuts_best cs φs k (each_fits cs φs e)).1 e in
      (b, λ ψ c. best_one 𝓡 𝓢 R (join cs) ψ (join φs) c b)

  module _ (𝓕 : Finite 𝓡) where
    each_there : (cs : List (List X)) → EachBest 𝓡 R 𝓢 cs (map (best_of 𝓡 𝓕 𝓢 R) cs)
    each_there [] = tt
    each_there (c ∷ cs) = (best_there 𝓡 𝓢 R c 𝓕, each_there cs)

    pub best_clusters : (cs : List (List X)) → Cuts 𝓡 R cs → best_of 𝓡 𝓕 𝓢 R (join cs) ≡ join (map (best_of 𝓡 𝓕 𝓢 R) cs)
    best_clusters cs k = (cuts_one cs (map (best_of 𝓡 𝓕 𝓢 R) cs) k (each_there cs)).1 (best_of 𝓡 𝓕 𝓢 R (join cs)) (best_there 𝓡 𝓢 R (join cs) 𝓕)
