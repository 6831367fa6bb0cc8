-- The gap rule. Document 01: for the current cluster keep b, the largest end, and for each list j the sums A_j and B_j. Let
-- g = max(B_1 + A_2, B_2 + A_1). Before the next entry, with start p, cut exactly if p >= b and either g = 0, or the gap from b to p is
-- longer than g and has no period q with 1 <= q <= g. After a cut b and the sums begin again.
-- Assumes nothing: these are definitions.
use Rattle.std.specs.Prelude.{Bool, not, ◌&&◌, ◌||◌, List, ℕ, ◌+◌, ◌-◌, ◌*◌, ◌^◌, ◌≤◌, ◌<◌, max, eqb, leb, ltb, length}
use Rattle.std.specs.Bool.{beq}
use Rattle.bases.specs.declared.place.Place.{Place}
use Rattle.bases.specs.Period.{any_period?}
use Rattle.donors.specs.Donor.{part}
use Rattle.donors.specs.Items.{only}
use Rattle.donors.specs.Rules.{Rules, list1, list2}
use Rattle.fields.specs.Allele.{longest_allele}
use Rattle.clusters.specs.declared.gap.Size.{Size}
use Rattle.clusters.specs.declared.gap.Current.{Current}

-- What the rule reads of an item.
abbrev pub size_of : {X C H : Type 0} → Rules X C H → X → Size
size_of 𝓡 x = record {
  side = 𝓡.side x;
  start = record { 0 = 𝓡.start x };
  end = record { 0 = 𝓡.start x + 𝓡.len x };
  shrink = 𝓡.shrink x;
  grow = 𝓡.grow x;
}

-- One item more in the current cluster.
abbrev pub more : Current → Size → Current
more c z = record {
  b = record { 0 = max c.b.0 z.end.0 };
  a1 = c.a1 + only (beq list1 z.side) z.shrink;
  b1 = c.b1 + only (beq list1 z.side) z.grow;
  a2 = c.a2 + only (beq list2 z.side) z.shrink;
  b2 = c.b2 + only (beq list2 z.side) z.grow;
}

-- The sums with one item more can be written in 64 bits.
abbrev pub Adds : Current → Size → Type 0
Adds c z = (c.a1 + z.shrink < 2 ^ 64) × (c.b1 + z.grow < 2 ^ 64) × (c.a2 + z.shrink < 2 ^ 64) × (c.b2 + z.grow < 2 ^ 64)

-- No item yet.
abbrev pub nothing : Current
nothing = record { b = record { 0 = 0 }; a1 = 0; b1 = 0; a2 = 0; b2 = 0 }

-- A cluster begins with this item.
abbrev pub begin : Size → Current
begin z = more nothing z

-- g.
abbrev pub reach_of : Current → ℕ
reach_of c = max (c.b1 + c.a2) (c.b2 + c.a1)

-- Behind b up to p the reference allows a cut, where the lists' donors can be g apart.
abbrev pub gap_cuts? : List ℕ → ℕ → Place → Place → Bool
gap_cuts? R g b p = eqb g 0 || (ltb g (p.0 - b.0) && not (any_period? g (part R b.0 p.0)))

-- The current cluster is cut before an item that starts at p.
abbrev pub cut? : List ℕ → Current → Place → Bool
cut? R c p = leb c.b.0 p.0 && gap_cuts? R (reach_of c) c.b p

-- What is so of the current cluster, where it has at most n entries: b lies inside the reference, and no sum is above so much an entry.
pub record Kept (reference : List ℕ) (n : ℕ) (c : Current) : Type 0 where
  pub inside : c.b.0 ≤ length reference
  pub small1 : (c.a1 ≤ longest_allele * n) × (c.b1 ≤ longest_allele * n)
  pub small2 : (c.a2 ≤ longest_allele * n) × (c.b2 ≤ longest_allele * n)
