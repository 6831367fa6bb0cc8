-- Laws of edits that do not overlap.
--     chain_iff               the test says that the edits are a chain
--     chain_split             a chain falls into two where the edits of one part end before those of the other start
--     Ordered                 the edits stand in order of their starts, and none is empty
--     chain_pairwise          of such edits, a chain is what no two overlapping means
-- Assumes nothing.
use mathlib.Core.List.{List, [], ◌∷◌, ◌++◌}
use mathlib.Core.Logic.{inl, inr, ◌↔◌}
use Prim.Native.Nat.{ℕ, ◌≤◌}
use native.Mathlib.Omega.{arith}
use lib.Dec.{T, leb, leb→le, le→leb}
use Rattle.bases.proofs.TestLaws.{both}
use Rattle.donors.specs.Apart.{All, Disjoint, NoOverlap, Chain, chain?}
use Rattle.donors.specs.Donor.{Edit, end}
use Rattle.donors.proofs.DonorLaws.{EndsBy, StartsFrom}

pub chain_iff : (a : ℕ) (es : List Edit) → T (chain? a es) ↔ Chain a es
unfolding chain?
chain_iff a [] = (λ t. tt, λ t. tt)
chain_iff a (e ∷ es) =
    let i = chain_iff (end e) es in
    let b = both (leb a e.start) (chain? (end e) es) in
    (λ t. (leb→le _ _ (b.0 t).0, i.0 (b.0 t).1), λ c. b.1 (le→leb _ _ c.0, i.1 c.1))

chain_lower : (a c p : ℕ) (fs : List Edit) → a ≤ p → StartsFrom p fs → Chain c fs → Chain a fs
chain_lower a c p [] h s k = tt
chain_lower a c p (f ∷ fs) h s k = (omega arith, k.1)

pub chain_split : (a b p : ℕ) (es fs : List Edit) → a ≤ b → b ≤ p → EndsBy b es → StartsFrom p fs
    → Chain a (es ++ fs) ↔ (Chain a es × Chain 0 fs)
chain_split a b p [] fs h k u s =
    (λ c. (tt, chain_lower 0 a p fs (omega arith) s c), λ c. chain_lower a 0 p fs (omega arith) s c.1)
chain_split a b p (e ∷ es) fs h k u s =
    let i = chain_split (end e) b p es fs u.0 k u.1 s in
    (λ c. ((c.0, (i.0 c.1).0), (i.0 c.1).1), λ c. (c.0.0, i.1 (c.0.1, c.1)))

-- The edits stand in order of their starts, and none is empty.
abbrev pub Ordered : List Edit → Type 0
Ordered [] = Unit {0}
Ordered (e ∷ es) = (1 ≤ e.len) × StartsFrom e.start es × Ordered es

later : (e f : Edit) → 1 ≤ f.len → e.start ≤ f.start → Disjoint e f → end e ≤ f.start
later e f h k (inl d) = d
later e f h k (inr d) = omega arith

all_later : (e : Edit) (es : List Edit) → Ordered es → StartsFrom e.start es → All (Disjoint e) es → StartsFrom (end e) es
all_later e [] o s d = tt
all_later e (f ∷ es) o s d = (later e f o.0 s.0 d.0, all_later e es o.2 s.1 d.1)

to_chain : (a : ℕ) (es : List Edit) → Ordered es → StartsFrom a es → NoOverlap es → Chain a es
to_chain a [] o s p = tt
to_chain a (e ∷ es) o s p = (s.0, to_chain (end e) es o.2 (all_later e es o.2 o.1 p.0) p.1)

chain_starts : (a b : ℕ) (es : List Edit) → b ≤ a → Chain a es → StartsFrom b es
chain_starts a b [] h c = tt
chain_starts a b (e ∷ es) h c = (omega arith, chain_starts (end e) b es (omega arith) c.1)

starts_disjoint : (e : Edit) (es : List Edit) → StartsFrom (end e) es → All (Disjoint e) es
starts_disjoint e [] s = tt
starts_disjoint e (f ∷ es) s = (inl s.0, starts_disjoint e es s.1)

to_pairwise : (a : ℕ) (es : List Edit) → Chain a es → NoOverlap es
to_pairwise a [] c = tt
to_pairwise a (e ∷ es) c = (starts_disjoint e es (chain_starts (end e) (end e) es (omega arith) c.1), to_pairwise (end e) es c.1)

starts_zero : (es : List Edit) → StartsFrom 0 es
starts_zero [] = tt
starts_zero (e ∷ es) = (omega arith, starts_zero es)

pub chain_pairwise : (es : List Edit) → Ordered es → Chain 0 es ↔ NoOverlap es
chain_pairwise es o = (to_pairwise 0 es, to_chain 0 es o (starts_zero es))
