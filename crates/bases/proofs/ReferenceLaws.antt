-- The reference in the documents' words, and its bases.
--     Reference, reference_iff     1 to 65,535 bytes, each A, C, G, T or N, in either case
--     reference_case               whether bytes are one is told by their bases
--     reference_bases              what is so of the bases of one
-- Assumes nothing.
use mathlib.Core.Bool.{◌&&◌}
use mathlib.Core.List.{List}
use mathlib.Core.Logic.{◌↔◌}
use mathlib.Core.Path.{◌≡◌}
use Prim.Native.Nat.{ℕ, ◌≤◌, ◌<◌}
use lib.Dec.{T, leb, leb→le, le→leb}
use lib.ListN.{length, get_or}
use Rattle.bases.specs.Letter.{all_letters?, bases_of}
use Rattle.bases.specs.Reference.{longest_reference, is_reference?, Bases}
use Rattle.bases.proofs.LetterLaws.{Letter, letters_iff, bases_length, bases_twice, bases_letters}
use Rattle.bases.proofs.TestLaws.{both}

-- What a reference is.
abbrev pub Reference : List ℕ → Type 0
Reference bs = (1 ≤ length bs) × (length bs ≤ longest_reference) × ((i : ℕ) → i < length bs → Letter (get_or bs i 0))

pub reference_iff : (bs : List ℕ) → T (is_reference? bs) ↔ Reference bs
reference_iff bs = (to, of)
  where
    to : T (is_reference? bs) → Reference bs
    to t =
        let s = (both (leb 1 (length bs) && leb (length bs) longest_reference) (all_letters? bs)).0 t in
        let u = (both (leb 1 (length bs)) (leb (length bs) longest_reference)).0 s.0 in
        (leb→le _ _ u.0, leb→le _ _ u.1, (letters_iff bs).0 s.1)

    of : Reference bs → T (is_reference? bs)
    of r =
        (both (leb 1 (length bs) && leb (length bs) longest_reference) (all_letters? bs)).1
        ((both (leb 1 (length bs)) (leb (length bs) longest_reference)).1 (le→leb _ _ r.0, le→leb _ _ r.1), (letters_iff bs).1 r.2)

pub reference_case : (bs : List ℕ) → is_reference? (bases_of bs) ≡ is_reference? bs
reference_case bs = rw (bases_length bs, bases_letters bs)

pub reference_bases : (bs : List ℕ) → T (is_reference? bs) → Bases (bases_of bs)
reference_bases bs t =
    let r = (reference_iff bs).0 t in
    record {
      some = rw (bases_length bs) r.0;
      short = rw (bases_length bs) r.1;
      letters = rw (bases_letters bs) ((letters_iff bs).1 r.2);
      upper = bases_twice bs;
    }
