-- The normal form of an entry, in document 01's words, over bases.
-- Assumes nothing: these are definitions.
use mathlib.Core.List.{List, [], ◌∷◌, ◌++◌, map, Memᴰ}
use Rattle.std.specs.Prelude.{◌≡◌, ℕ, ◌+◌, ◌-◌, ◌≤◌, ◌<◌, length, get_or, take, drop}
use Rattle.bases.specs.declared.place.Place.{Place}
use Rattle.bases.specs.Place.{pos_of}

-- An entry, as far as its normal form goes: the place where REF begins (that of POS), REF, and the ALTs.
pub record Form : Type 0 where
  pub start : Place
  pub ref : List ℕ
  pub alts : List (List ℕ)

-- All alleles of the entry.
abbrev pub alleles : Form → List (List ℕ)
alleles f = f.ref ∷ f.alts

-- Something holds of each of them.
abbrev pub Each : (List ℕ → Type 0) → List (List ℕ) → Type 0
Each P xs = (a : List ℕ) → Memᴰ a xs → P a

-- Something holds of one of them.
abbrev pub One : (List ℕ → Type 0) → List (List ℕ) → Type 0
One P xs = (a : List ℕ) × Memᴰ a xs × P a

-- Where the span ends.
abbrev pub span_end : Form → ℕ
span_end f = f.start.0 + length f.ref

-- REF equals the reference at POS.
abbrev pub OnReference : List ℕ → Form → Type 0
OnReference r f = (span_end f ≤ length r) × (take (length f.ref) (drop f.start.0 r) ≡ f.ref)

-- None is empty.
abbrev pub NoneEmpty : Form → Type 0
NoneEmpty f = Each (λ a. 1 ≤ length a) (alleles f)

-- The first and the last base of an allele that is not empty.
abbrev pub first : List ℕ → ℕ
first a = get_or a 0 0

abbrev pub last : List ℕ → ℕ
last a = get_or a (length a - 1) 0

-- They all end in the same base; they all begin with the same base.
abbrev pub AllEndAlike : Form → Type 0
AllEndAlike f = Each (λ a. last a ≡ last f.ref) f.alts

abbrev pub AllBeginAlike : Form → Type 0
AllBeginAlike f = Each (λ a. first a ≡ first f.ref) f.alts

-- A form is normal when none is empty and both hold: they do not all end in the same base, except where POS is 1 and one of them has length
-- 1; they do not all begin with the same base while all have length 2 or more.
pub record Normal (f : Form) : Type 0 where
  pub some : NoneEmpty f
  pub ends : AllEndAlike f → ((pos_of f.start).0 ≡ 1) × One (λ a. length a ≡ 1) (alleles f)
  pub begins : AllBeginAlike f → Each (λ a. 2 ≤ length a) (alleles f) → ⊥

-- The donor over the whole reference r for one allele alone: the reference with the span replaced by the allele.
abbrev pub donor : List ℕ → Form → List ℕ → List ℕ
donor r f a = take f.start.0 r ++ a ++ drop (span_end f) r

-- The same ALT count, and for each ALT alone the same donor over the whole reference.
abbrev pub SameDonors : List ℕ → Form → Form → Type 0
SameDonors r f g = map (donor r f) f.alts ≡ map (donor r g) g.alts

-- The normal form of an entry f is the normal entry g with the same ALT count such that, for each ALT alone, the donor over the whole
-- reference is the same.
pub record NormalForm (r : List ℕ) (f g : Form) : Type 0 where
  pub on : OnReference r g
  pub normal : Normal g
  pub donors : SameDonors r f g

-- The alleles differ, each from each.
abbrev pub AllDiffer : List (List ℕ) → Type 0
AllDiffer xs = (i j : ℕ) → i < j → j < length xs → get_or xs i [] ≡ get_or xs j [] → ⊥
