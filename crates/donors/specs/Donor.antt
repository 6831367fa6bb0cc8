-- Donors. Document 01: the donor of a list on a copy is the reference with each chosen span replaced by the allele for that copy. Request
-- c: "a copy that carries the reference allele is not touched", so the spans replaced on a copy are those of alleles other than REF.
-- Assumes nothing: these are definitions.
use Rattle.std.specs.Prelude.{List, [], ◌∷◌, ◌++◌, ℕ, ◌+◌, ◌-◌, take, drop}

-- What stands from place a up to, not including, place c.
abbrev pub part : List ℕ → ℕ → ℕ → List ℕ
part R a c = take (c - a) (drop a R)

-- A span of the reference, by its start and its length, and the bases that replace it.
pub record Edit : Type 0 where
  pub start : ℕ
  pub len : ℕ
  pub new : List ℕ

-- The end of the span: the first place behind it.
abbrev pub end : Edit → ℕ
end e = e.start + e.len

-- The donor from place a on: the reference up to the first span, what replaces that span, and the donor from its end on.
unfoldable pub donor_from : List ℕ → ℕ → List Edit → List ℕ
donor_from R a [] = drop a R
donor_from R a (e ∷ es) = part R a e.start ++ (e.new ++ donor_from R (end e) es)

-- The donor from place a on, as far as the reference's place b.
unfoldable pub donor_to : List ℕ → ℕ → ℕ → List Edit → List ℕ
donor_to R a b [] = part R a b
donor_to R a b (e ∷ es) = part R a e.start ++ (e.new ++ donor_to R (end e) b es)

-- The donor of edits in order of their starts.
abbrev pub donor : List ℕ → List Edit → List ℕ
donor R es = donor_from R 0 es
