-- Legal choices. Document 01: a pair of choices is legal if no spans overlap so (as request c has it: on the same copy, where both carry an
-- allele other than REF) and the two lists' donors are equal on each copy.
-- The choices for both lists are one string, in the order of the items.
-- Assumes nothing: these are definitions.
use Rattle.std.specs.Prelude.{Bool, List, ◌≡◌, ℕ, length}
use Rattle.donors.specs.Apart.{Chain}
use Rattle.donors.specs.Rules.{Rules, list1, list2, edits, donor_of, Allowed}

module _ {X C H : Type 0} (𝓡 : Rules X C H) (R : List ℕ) where
  -- One choice for each item, each one that its item may take, no overlap within a list on a copy, and on each copy one donor.
  pub record Legal (xs : List X) (φ : List C) : Type 0 where
    pub long : length φ ≡ length xs
    pub allowed : Allowed 𝓡 xs φ
    pub apart : (j : Bool) (h : H) → Chain 0 (edits 𝓡 j h xs φ)
    pub same : (h : H) → donor_of 𝓡 R list1 h xs φ ≡ donor_of 𝓡 R list2 h xs φ
