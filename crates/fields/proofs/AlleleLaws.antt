-- Laws of alleles.
--     allele_iff     an allele is 1 to 64 letters
-- Assumes nothing.
use mathlib.Core.List.{List}
use mathlib.Core.Logic.{◌↔◌}
use Prim.Native.Nat.{ℕ, ◌≤◌}
use lib.Dec.{T, leb, leb→le, le→leb}
use lib.ListN.{length}
use Rattle.bases.specs.Letter.{all_letters?}
use Rattle.bases.proofs.TestLaws.{both}
use Rattle.fields.specs.Allele.{longest_allele, right_size?, is_allele?}

pub allele_iff : (a : List ℕ) → T (is_allele? a) ↔ ((1 ≤ length a) × (length a ≤ longest_allele) × T (all_letters? a))
allele_iff a = (
  λ t.
      let s = (both (right_size? a) (all_letters? a)).0 t in
      let r = (both (leb 1 (length a)) (leb (length a) longest_allele)).0 s.0 in
      (leb→le 1 (length a) r.0, leb→le (length a) longest_allele r.1, s.1),
  λ h.
      (both (right_size? a) (all_letters? a)).1 (
        (both (leb 1 (length a)) (leb (length a) longest_allele)).1 (le→leb 1 (length a) h.0, le→leb (length a) longest_allele h.1),
        h.2,
      ),
)
