-- Laws of ALT as it is written: one allele, or two with a comma between.
--     alt-one, alt-two         its alleles, read back
--     alts_one, alts_two       where it is right beside REF
-- Assumes nothing.
use mathlib.Core.Bool.{true, false}
use mathlib.Core.List.{List, ◌∷◌, ◌++◌}
use mathlib.Core.Path.{◌≡◌, refl}
use Prim.Native.Nat.{ℕ}
use native.Mathlib.Omega.{arith}
use borrow.Author.Tests.{lt-ltb, le-ltb}
use lib.Dec.{T}
use lib.ListN.{length, length-append}
use lib.Seq.{take-length, take_at, drop-append-add}
use Rattle.bases.specs.Same.{same_bases?}
use Rattle.bases.proofs.TestLaws.{of_false}
use Rattle.fields.specs.Allele.{is_allele?, first_alt, two_alts?, second_alt}
use Rattle.fields.specs.Bytes.{COMMA}
use Rattle.records.proofs.AltLaws.{RightAlts}
use Rattle.written.proofs.WithoutLaws.{Without, until_found}

module _ (a : List ℕ) (w : Without COMMA a) where
  pub one_first : first_alt a ≡ a
  one_first = rw w (take-length a)

  pub one_not_two : two_alts? a ≡ false
  one_not_two = rw w (le-ltb (length a) (length a) (omega arith))

  pub alts_one : (ref : List ℕ) → T (is_allele? a) → same_bases? a ref ≡ false → RightAlts ref a
  alts_one ref n d =
      let none : T (two_alts? a) → ⊥ = λ t. of_false one_not_two t in
      record {
        first = rw one_first n;
        first_new = rw one_first d;
        second = λ t. absurd (none t);
        second_new = λ t. absurd (none t);
        two_new = λ t. absurd (none t);
      }

  module _ (b : List ℕ) where
    pub two_first : first_alt (a ++ (COMMA ∷ b)) ≡ a
    two_first = rw (until_found COMMA a b w) (take_at a (COMMA ∷ b) (length a) refl)

    pub two_two : two_alts? (a ++ (COMMA ∷ b)) ≡ true
    two_two = rw (until_found COMMA a b w) (lt-ltb (length a) (length (a ++ (COMMA ∷ b))) (omega (arith, length-append a (COMMA ∷ b))))

    pub two_second : second_alt (a ++ (COMMA ∷ b)) ≡ b
    two_second = rw (until_found COMMA a b w) (drop-append-add a (COMMA ∷ b) 1)

    pub alts_two : (ref : List ℕ) → T (is_allele? a) → same_bases? a ref ≡ false → T (is_allele? b) → same_bases? b ref ≡ false → same_bases? b a ≡ false
        → RightAlts ref (a ++ (COMMA ∷ b))
    alts_two ref n d m k s = record {
      first = rw two_first n;
      first_new = rw two_first d;
      second = λ t. rw two_second m;
      second_new = λ t. rw two_second k;
      two_new = λ t. rw (two_second, two_first) s;
    }
