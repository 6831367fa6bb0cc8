-- Laws of donors.
--     EndsBy, StartsFrom          all edits end at b or before it; all start at p or behind it
--     donor_start                 before the first edit it is the reference
--     donor_stop                  behind the last edit it is the reference
--     donor_split                 a stretch that no edit touches stands in it, between the donors of the edits on either side
--     cuts, adds, donor_length    by how much the edits take away and add, and so how long the donor as far as b is
-- Assumes nothing.
use mathlib.Core.List.{List, [], ◌∷◌, ◌++◌, append_assoc}
use mathlib.Core.Path.{◌≡◌, ◌∙◌}
use Prim.Native.Nat.{ℕ, ◌+◌, ◌-◌, ◌≤◌}
use native.Mathlib.Omega.{arith}
use lib.ListN.{length, drop, length-append}
use Rattle.donors.specs.Apart.{All, Chain}
use Rattle.donors.specs.Donor.{part, Edit, end, donor_from, donor_to}
use Rattle.donors.proofs.PartLaws.{part_split, rest_split, part_length}

-- All edits end at b or before it.
abbrev pub EndsBy : ℕ → List Edit → Type 0
EndsBy b es = All (λ (e : Edit). end e ≤ b) es

-- All edits start at p or behind it.
abbrev pub StartsFrom : ℕ → List Edit → Type 0
StartsFrom p es = All (λ (e : Edit). p ≤ e.start) es

pub donor_start : (R : List ℕ) (a p : ℕ) (fs : List Edit) → a ≤ p → StartsFrom p fs → donor_from R a fs ≡ part R a p ++ donor_from R p fs
unfolding donor_from
donor_start R a p [] h s = rest_split R a p h
donor_start R a p (f ∷ fs) h s = rw (part_split R a p f.start h s.0, append_assoc)

pub donor_stop : (R : List ℕ) (a b : ℕ) (es : List Edit) → a ≤ b → EndsBy b es → donor_from R a es ≡ donor_to R a b es ++ drop b R
unfolding donor_from donor_to
donor_stop R a b [] h u = rest_split R a b h
donor_stop R a b (e ∷ es) h u = rw (donor_stop R (end e) b es u.0 u.1) (simp append_assoc)

pub donor_split : (R : List ℕ) (a b p : ℕ) (es fs : List Edit) → a ≤ b → b ≤ p → EndsBy b es → StartsFrom p fs
    → donor_from R a (es ++ fs) ≡ donor_to R a b es ++ (part R b p ++ donor_from R p fs)
unfolding donor_from donor_to
donor_split R a b p [] fs h k u s = donor_start R a p fs (omega arith) s ∙ rw (part_split R a b p h k, append_assoc)
donor_split R a b p (e ∷ es) fs h k u s = rw (donor_split R (end e) b p es fs u.0 k u.1 s) (simp append_assoc)

-- By how much the edits shorten the reference where they shorten it.
unfoldable pub cuts : List Edit → ℕ
cuts [] = 0
cuts (e ∷ es) = (e.len - length e.new) + cuts es

-- By how much they lengthen it where they lengthen it.
unfoldable pub adds : List Edit → ℕ
adds [] = 0
adds (e ∷ es) = (length e.new - e.len) + adds es

pub donor_length : (R : List ℕ) (a b : ℕ) (es : List Edit) → a ≤ b → b ≤ length R → Chain a es → EndsBy b es
    → (b ≤ a + (length (donor_to R a b es) + cuts es)) × (a + length (donor_to R a b es) ≤ b + adds es)
unfolding donor_to cuts adds
donor_length R a b [] h k c u = (omega (arith, part_length R a b k), omega (arith, part_length R a b k))
donor_length R a b (e ∷ es) h k c u =
    let i = donor_length R (end e) b es u.0 k c.1 u.1 in
    let l = length-append (part R a e.start) (e.new ++ donor_to R (end e) b es) in
    let m = length-append e.new (donor_to R (end e) b es) in
    let o = part_length R a e.start (omega arith) in
    (omega arith, omega arith)
