-- The card's own rules. Document 01: `+` puts an entry's alleles on copies 0 and 1 as written, `-` exchanges the two copies, `0` leaves it
-- out. Request c: "a copy that carries the reference allele is not touched."
-- Assumes nothing: these are definitions.
use Rattle.std.specs.Prelude.{Bool, true, false, ◌&&◌, List, [], ◌∷◌, ◌⊎◌, ◌≡◌, ℕ, ◌+◌, ◌-◌, ◌≤◌, max, min, length}
use Rattle.std.specs.Bool.{beq}
use Rattle.std.proofs.Common.{arith}
use Rattle.donors.specs.Rules.{Rules, put_if, takes?}

-- `+`, `-` and `0`.
pub data Choice : Type 0 where
  plus minus out : Choice

-- Copies 0 and 1.
pub data Copy : Type 0 where
  copy0 copy1 : Copy

-- An entry as matching reads it, and all that matching reads of it: its list, where REF starts, how long REF is, its weight, and the
-- alleles for copies 0 and 1, each with whether it takes the entry's span. Request c: "A reference allele takes no room."
pub record Variant : Type 0 where
  pub side : Bool
  pub start : ℕ
  pub len : ℕ
  pub weight : ℕ
  pub room0 : Bool
  pub allele0 : List ℕ
  pub room1 : Bool
  pub allele1 : List ℕ

-- An entry as document 01 has it: it counts 1.
pub record Plain (x : Variant) : Type 0 where
  pub weight : x.weight ≡ 1

-- The allele for a copy, as written, and whether it takes the span.
abbrev pub written : Variant → Copy → List ℕ
written x copy0 = x.allele0
written x copy1 = x.allele1

abbrev pub room_for : Variant → Copy → Bool
room_for x copy0 = x.room0
room_for x copy1 = x.room1

-- The other copy.
abbrev pub other : Copy → Copy
other copy0 = copy1
other copy1 = copy0

-- The entry is chosen.
abbrev pub chosen? : Choice → Bool
chosen? plus = true
chosen? minus = true
chosen? out = false

-- Which allele a choice puts on a copy: `+` that copy's own, `-` the other copy's.
abbrev pub source : Choice → Copy → Copy
source plus h = h
source minus h = other h
source out h = h

-- What an entry puts on a copy, where it takes its span there.
abbrev pub puts : Variant → Choice → Copy → List ℕ
puts x c h = written x (source c h)

-- It takes its span there: it is chosen, and that allele takes it.
abbrev pub takes_span? : Variant → Choice → Copy → Bool
takes_span? x c h = chosen? c && room_for x (source c h)

-- Document 01's max(0, length of REF minus length of the shorter copy allele).
abbrev pub shrinks : Variant → ℕ
shrinks x = x.len - min (length x.allele0) (length x.allele1)

-- Document 01's max(0, length of the longer copy allele minus length of REF).
abbrev pub grows : Variant → ℕ
grows x = max (length x.allele0) (length x.allele1) - x.len

-- The two bounds hold of every allele that an entry puts.
pub written_low : (x : Variant) (h : Copy) → x.len ≤ length (written x h) + shrinks x
written_low x copy0 = omega arith
written_low x copy1 = omega arith

pub written_high : (x : Variant) (h : Copy) → length (written x h) ≤ x.len + grows x
written_high x copy0 = omega arith
written_high x copy1 = omega arith

-- The card's rules, read off the entry: every choice is allowed, and a chosen entry takes its span where its allele does.
abbrev pub card_rules : Rules Variant Choice Copy
card_rules = record {
  side = λ x. x.side;
  start = λ x. x.start;
  len = λ x. x.len;
  ok = λ x c. true;
  room = takes_span?;
  allele = puts;
  shrink = shrinks;
  grow = grows;
  low = λ x c h t. written_low x (source c h);
  high = λ x c h t. written_high x (source c h);
}

-- The entries for which a test of entry and choice holds.
unfoldable pub those : (Variant → Choice → Bool) → List Variant → List Choice → List Variant
those f [] φ = []
those f (x ∷ xs) [] = []
those f (x ∷ xs) (c ∷ φ) = put_if (f x c) x (those f xs φ)

-- The chosen entries of list j,
abbrev pub chosen_of : Bool → List Variant → List Choice → List Variant
chosen_of j xs φ = those (λ x c. beq j x.side && chosen? c) xs φ

-- and those of them that carry an allele other than REF on copy h: one that takes the entry's span there.
abbrev pub carriers_of : Bool → Copy → List Variant → List Choice → List Variant
carriers_of j h xs φ = those (takes? card_rules j h) xs φ

-- The REF spans of two entries do not overlap.
abbrev pub SpansApart : Variant → Variant → Type 0
SpansApart x y = (x.start + x.len ≤ y.start) ⊎ (y.start + y.len ≤ x.start)
