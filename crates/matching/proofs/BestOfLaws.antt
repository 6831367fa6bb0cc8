-- There is a best string, and only one.
--     best_one       two best strings are one
--     search_any     a search that drops other choices, but none that a legal string begins with, answers best_of too
--     best_there     best_of is the best string
--     best_is        a string is the best exactly if it is best_of
-- Assumes nothing.
use mathlib.Core.Bool.{Bool}
use mathlib.Core.List.{List, [], ◌++◌}
use mathlib.Core.Logic.{◌↔◌}
use mathlib.Core.Option.{Option, some}
use mathlib.Core.Path.{◌≡◌, sym, ap, ◌∙◌, subst}
use Prim.Native.Nat.{ℕ}
use lib.Dec.{T}
use lib.ListN.{length, replicate}
use Rattle.donors.specs.Rules.{Rules}
use Rattle.matching.specs.Best.{Scoring, score, IsBest}
use Rattle.matching.specs.BestOf.{Finite, keep?, legal?, best_of}
use Rattle.matching.specs.Legal.{Legal}
use Rattle.matching.specs.Search.{search}
use Rattle.matching.proofs.BestLaws.{best_unique}
use Rattle.matching.proofs.LegalLaws.{legal_iff, legal_keeps, legal_out}
use Rattle.matching.proofs.SearchLaws.{answer_found, search_best}

module _ {X C H : Type 0} (𝓡 : Rules X C H) (𝓢 : Scoring X C) (R : List ℕ) (xs : List X) where
  pub best_one : (φ ψ : List C) → IsBest 𝓡 𝓢 R xs φ → IsBest 𝓡 𝓢 R xs ψ → φ ≡ ψ
  best_one φ ψ = best_unique 𝓢.rank 𝓢.distinct (Legal 𝓡 R xs) (score 𝓢 xs) φ ψ

  module _ (𝓕 : Finite 𝓡) where
    -- the search over all items, dropping what keep? does not hold of
    abbrev search_by : (List C → Bool) → Option (List C)
    search_by keeps? = search 𝓢.rank (score 𝓢 xs) 𝓕.choices keeps? (legal? 𝓡 𝓕 R xs) (length xs) []

    found : (keeps? : List C → Bool) → ((φ ψ : List C) → Legal 𝓡 R xs (φ ++ ψ) → T (keeps? φ)) → (φ : List C) × (search_by keeps? ≡ some φ) × IsBest 𝓡 𝓢 R xs φ
    found keeps? keeps =
        answer_found 𝓢.rank (score 𝓢 xs) (Legal 𝓡 R xs) (replicate (length xs) 𝓕.out) (legal_out 𝓡 𝓕 R xs) (search_by keeps?)
        (search_best 𝓢.rank (score 𝓢 xs) 𝓕.choices 𝓕.all_choices keeps? (legal? 𝓡 𝓕 R xs) (length xs) (Legal 𝓡 R xs)
        (legal_iff 𝓡 𝓕 R xs) (λ φ g. g.long) keeps)

    pub best_there : IsBest 𝓡 𝓢 R xs (best_of 𝓡 𝓕 𝓢 R xs)
    unfolding best_of
    best_there = let f = found (keep? 𝓡 𝓕 xs) (legal_keeps 𝓡 𝓕 R xs) in rw f.1 f.2

    pub search_any : (keeps? : List C → Bool) → ((φ ψ : List C) → Legal 𝓡 R xs (φ ++ ψ) → T (keeps? φ)) → search_by keeps? ≡ some (best_of 𝓡 𝓕 𝓢 R xs)
    search_any keeps? keeps = let f = found keeps? keeps in f.1 ∙ ap some (best_one f.0 (best_of 𝓡 𝓕 𝓢 R xs) f.2 best_there)

    pub best_is : (φ : List C) → IsBest 𝓡 𝓢 R xs φ ↔ (φ ≡ best_of 𝓡 𝓕 𝓢 R xs)
    best_is φ = (λ b. best_one φ (best_of 𝓡 𝓕 𝓢 R xs) b best_there, λ e. subst (IsBest 𝓡 𝓢 R xs) (sym e) best_there)
