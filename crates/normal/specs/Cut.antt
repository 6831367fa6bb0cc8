-- The normal form in closed form: how many bases are cut off the end of every allele, where bases of the reference that stand before the
-- span are taken in as they are needed, and then how many off the front.
-- Assumes nothing: these are definitions.
use Rattle.std.specs.Prelude.{Bool, true, ◌&&◌, List, [], ◌∷◌, ◌++◌, map, ℕ, zero, suc, ◌+◌, ◌-◌, min, eqb, length, get_or, take, drop}
use Rattle.bases.specs.declared.place.Place.{Place}
use Rattle.bases.specs.Pick.{pick}
use Rattle.normal.specs.Form.{Form}

-- How many of the tests 0, 1, 2 .. hold in a row, at most n.
unfoldable pub run : (ℕ → Bool) → ℕ → ℕ
run t zero = 0
run t (suc n) = pick (t 0) (suc (run (λ i. t (suc i)) n)) 0

-- A test holds of each.
unfoldable pub all? : (List ℕ → Bool) → List (List ℕ) → Bool
all? t [] = true
all? t (a ∷ xs) = t a && all? t xs

-- The shortest length of the alleles: REF, and the ALTs.
unfoldable pub shortest : List ℕ → List (List ℕ) → ℕ
shortest ref [] = length ref
shortest ref (a ∷ xs) = min (length a) (shortest ref xs)

-- The base k before the last of an allele that stands behind the first s bases of the reference r.
abbrev pub back_at : List ℕ → ℕ → ℕ → List ℕ → ℕ
back_at r s k a = get_or (take s r ++ a) (s + length a - (k + 1)) 0

-- All alleles have the same base there; all have the same base k behind the first.
abbrev pub back_alike? : List ℕ → Form → ℕ → Bool
back_alike? r f k = all? (λ a. eqb (back_at r f.start.0 k a) (back_at r f.start.0 k f.ref)) f.alts

abbrev pub front_alike? : Form → ℕ → Bool
front_alike? f k = all? (λ a. eqb (get_or a k 0) (get_or f.ref k 0)) f.alts

-- How many bases are cut off the end of every allele: while all end alike and, with all that stands before it, the shortest keeps one.
abbrev pub cut_of : List ℕ → Form → ℕ
cut_of r f = run (back_alike? r f) (f.start.0 + shortest f.ref f.alts - 1)

-- How many bases are cut off the front of every allele, where q have been cut off the end: while all begin alike and the shortest keeps
-- one.
abbrev pub trim_of : Form → ℕ → ℕ
trim_of f q = run (front_alike? f) (shortest f.ref f.alts - (q + 1))

-- The new start, where q bases are cut off the end and t off the front: the shortest allele keeps one base, if need be of the reference.
abbrev pub new_start : Form → ℕ → ℕ → Place
new_start f q t = record { 0 = f.start.0 + t - (q + 1 - shortest f.ref f.alts) }

-- An allele with q bases cut off the end, from the place p on.
abbrev pub between : List ℕ → ℕ → ℕ → ℕ → List ℕ → List ℕ
between r s q p a = drop p (take (s + length a - q) (take s r ++ a))

abbrev pub cut_form : List ℕ → Form → ℕ → Place → Form
cut_form r f q p =
    record {
      start = p;
      ref = between r f.start.0 q p.0 f.ref;
      alts = map (between r f.start.0 q p.0) f.alts;
    }

-- The normal form of an entry.
unfoldable pub normal_of : List ℕ → Form → Form
normal_of r f =
    let q = cut_of r f in
    cut_form r f q (new_start f q (trim_of f q))
