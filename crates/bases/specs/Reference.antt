-- The reference (row 1): 1 to 65,535 bytes, each A, C, G, T or N, in either case. Behind row 1 a reference is the list of its bases, and no
-- definition knows its bytes, but the view of allele 0.
-- Assumes nothing: these are definitions.
use Rattle.std.specs.Prelude.{Bool, ◌&&◌, List, ◌≡◌, ℕ, ◌≤◌, T, leb, length}
use Rattle.bases.specs.Letter.{all_letters?, bases_of}

-- The most bases that a reference has.
abbrev pub longest_reference : ℕ
longest_reference = 65535

-- The bytes are a reference. Row 1 holds exactly where they are not.
abbrev pub is_reference? : List ℕ → Bool
is_reference? bs = leb 1 (length bs) && leb (length bs) longest_reference && all_letters? bs

-- What is so of the bases of a reference: there are 1 to 65,535, and each is a letter, as its upper-case byte.
pub record Bases (reference : List ℕ) : Type 0 where
  pub some : 1 ≤ length reference
  pub short : length reference ≤ longest_reference
  pub letters : T (all_letters? reference)
  pub upper : bases_of reference ≡ reference
