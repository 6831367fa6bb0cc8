-- Laws of the best answer so far, and how another improves it.
--     nothing_improved        with nothing found so far, it is the other
--     improved_by             an answer that is better takes its place
--     AtMost, improved_low    one that scores no more than what cannot be better does not
--     improved_three          which of four is the best does not depend on which are compared first
--     better_improved         of two answers of a search, where the first comes first in dictionary order, the better one is the first, improved by the second
-- Assumes nothing.
use Rattle.std.specs.Prelude.{Some, None}
use mathlib.Core.Bool.{Bool, true, false}
use mathlib.Core.List.{List}
use mathlib.Core.Logic.{inl, inr}
use mathlib.Core.Option.{Option, none, some}
use mathlib.Core.Path.{◌≡◌, refl, sym, ◌∙◌}
use Prim.Native.Nat.{ℕ, ◌≤◌}
use native.Mathlib.Omega.{arith}
use borrow.Author.Tests.{ltb-true, ltb-false, lt-ltb, le-ltb, eq-eqb, ne_eqb}
use lib.Dec.{T, ltb}
use Rattle.bases.proofs.TestLaws.{of_false, is_true}
use Rattle.donors.specs.Choice.{Choice, Variant}
use Rattle.matching.specs.declared.answer.Best.{Best}
use Rattle.matching.specs.Answer.{Answer, these_choices, answer_of, can_beat?, improved}
use Rattle.matching.specs.Best.{First, score}
use Rattle.matching.specs.Card.{rank_of, card_scoring}
use Rattle.matching.specs.Search.{first?, better}
use Rattle.matching.proofs.OrderLaws.{Tri, tri, first_iff}
use Rattle.matching.proofs.TopLaws.{Of}

pub nothing_improved : (a : Answer) → improved None a ≡ a
nothing_improved None = refl
nothing_improved (Some a) = refl

pub improved_by : (best : Answer) (a : Best) → T (can_beat? a.score best) → improved best (Some a) ≡ Some a
improved_by best a t = rw (is_true (can_beat? a.score best) t)

-- The answer scores no more than that.
abbrev pub AtMost : ℕ → Answer → Type 0
AtMost s None = Unit {0}
AtMost s (Some a) = a.score ≤ s

pub improved_low : (s : ℕ) (best a : Answer) → can_beat? s best ≡ false → AtMost s a → improved best a ≡ best
improved_low s best None h k = refl
improved_low s None (Some a) h k = absurd (of_false h tt)
improved_low s (Some b) (Some a) h k = rw (le-ltb b.score a.score (omega (arith, ltb-false b.score s h)))

improved_assoc : (b x y : Answer) → improved (improved b x) y ≡ improved b (improved x y)
improved_assoc b x None = refl
improved_assoc b None (Some y) = refl
improved_assoc None (Some x) (Some y) = sym (nothing_improved (improved (Some x) (Some y)))
improved_assoc (Some b) (Some x) (Some y) = go (ltb b.score x.score) (ltb x.score y.score) refl refl
  where
    go : (p q : Bool) → ltb b.score x.score ≡ p → ltb x.score y.score ≡ q
        → improved (improved (Some b) (Some x)) (Some y) ≡ improved (Some b) (improved (Some x) (Some y))
    go true true h i = simp (h, i, lt-ltb b.score y.score (omega (arith, ltb-true b.score x.score h, ltb-true x.score y.score i)))
    go true false h i = simp (h, i)
    go false true h i = simp (h, i)
    go false false h i = simp (h, i, le-ltb b.score y.score (omega (arith, ltb-false b.score x.score h, ltb-false x.score y.score i)))

pub improved_three : (b x y z : Answer) → improved b (improved x (improved y z)) ≡ improved (improved (improved b x) y) z
improved_three b x y z = sym (improved_assoc b x (improved y z)) ∙ sym (improved_assoc (improved b x) y z)

pub better_improved : (xs : List Variant) (o p : Option (List Choice)) → Of (λ (φ : List Choice). Of (First rank_of φ) p) o
    → answer_of xs (better rank_of (score card_scoring xs) o p) ≡ improved (answer_of xs o) (answer_of xs p)
unfolding better
better_improved xs none p a = sym (nothing_improved (answer_of xs p))
better_improved xs (some φ) none a = refl
better_improved xs (some φ) (some ψ) a = go (tri (score card_scoring xs ψ) (score card_scoring xs φ))
  where
    s : List Choice → ℕ
    s = score card_scoring xs

    go : Tri (score card_scoring xs ψ) (score card_scoring xs φ)
        → answer_of xs (better rank_of (score card_scoring xs) (some φ) (some ψ)) ≡ improved (Some (these_choices xs φ)) (Some (these_choices xs ψ))
    go (inl b) = rw (lt-ltb (s ψ) (s φ) b, le-ltb (s φ) (s ψ) (omega arith))
    go (inr (inl b)) =
        rw (le-ltb (s ψ) (s φ) (omega arith), eq-eqb (s ψ) (s φ) b, is_true (first? rank_of φ ψ) ((first_iff rank_of φ ψ).1 a), le-ltb (s φ) (s ψ) (omega arith))
    go (inr (inr b)) = rw (le-ltb (s ψ) (s φ) (omega arith), ne_eqb (s ψ) (s φ) (λ e. omega arith), lt-ltb (s φ) (s ψ) b)
