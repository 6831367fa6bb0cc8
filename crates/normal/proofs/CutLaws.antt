-- Laws of a form cut out of an entry on the reference: q bases are cut off the end of every allele, and it starts at p.
--     Cut                  such a cut takes the same from each allele, and leaves none empty
--     cut_donor            it leaves the donor of each allele as it was
--     cut_on, cut_donors   its REF is on the reference, and it has the same donors
-- Assumes nothing.
use mathlib.Core.List.{List, ◌++◌, append_assoc, Memᴰ}
use mathlib.Core.Path.{◌≡◌, refl, sym, ap, ◌∙◌}
use Prim.Native.Nat.{ℕ, ◌+◌, ◌-◌, ◌<◌}
use native.Mathlib.Omega.{arith}
use lib.ListN.{length, take, drop, take-append-drop}
use lib.Seq.{take-take, drop-append-le}
use Rattle.normal.specs.Form.{Form, alleles, Each, span_end, OnReference, donor, SameDonors}
use Rattle.normal.specs.Cut.{back_at, between, cut_form}
use Rattle.normal.proofs.MemberLaws.{map_through}
use Rattle.normal.proofs.DonorLaws.{donor_ref, donor_on}
use Rattle.normal.proofs.ExtendedLaws.{extended_length, between_length, cut_same}

-- The first p bases before and of each allele are the reference's, its last q are those of REF, and it keeps at least one.
pub record Cut (r : List ℕ) (f : Form) (q p : ℕ) : Type 0 where
  pub front : Each (λ a. take p (take f.start.0 r ++ a) ≡ take p r) (alleles f)
  pub back : Each (λ a. (k : ℕ) → k < q → back_at r f.start.0 k a ≡ back_at r f.start.0 k f.ref) (alleles f)
  pub left : Each (λ a. p + q < f.start.0 + length a) (alleles f)

module _ (r : List ℕ) (f : Form) (on : OnReference r f) (q p : ℕ) (cut : Cut r f q p) where
  in_ref : Memᴰ f.ref (alleles f)
  in_ref = Memᴰ.head refl

  new_end : p + length (between r f.start.0 q p f.ref) ≡ span_end f - q
  new_end = omega (arith, between_length r f.start.0 (omega arith) f.ref q p (cut.left f.ref in_ref), cut.left f.ref in_ref)

  -- What is cut off the end of REF, and then the reference behind the span.
  ref_back : drop (span_end f - q) (take f.start.0 r ++ f.ref) ++ drop (span_end f) r ≡ drop (span_end f - q) r
  ref_back =
      sym (drop-append-le (span_end f - q) (take f.start.0 r ++ f.ref) (drop (span_end f) r) (omega (arith, extended_length r f.start.0 (omega arith) f.ref)))
      ∙ ap (drop (span_end f - q)) (donor_ref r f on)

  pub cut_donor : Each (λ a. donor r (cut_form r f q (record { 0 = p })) (between r f.start.0 q p a) ≡ donor r f a) (alleles f)
  cut_donor a m =
      let n = f.start.0 + length a - q in
      let x = take f.start.0 r ++ a in
      let h = cut.left a m in
      let hr = cut.left f.ref in_ref in
      let front : take p r ++ between r f.start.0 q p a ≡ take n x =
      ap (λ (l : List ℕ). l ++ between r f.start.0 q p a) (sym (cut.front a m) ∙ sym (take-take p n x (omega arith))) ∙ take-append-drop p (take n x) in
      let back : drop (p + length (between r f.start.0 q p f.ref)) r ≡ drop n x ++ drop (span_end f) r =
      ap (λ (e : ℕ). drop e r) new_end ∙ sym ref_back
      ∙ ap (λ (l : List ℕ). l ++ drop (span_end f) r) (sym (cut_same r f.start.0 (omega arith) a f.ref q (omega arith) (omega arith) (cut.back a m))) in
      rw (front, back, ← append_assoc (take n x) (drop n x) (drop (span_end f) r), take-append-drop n x)

  pub cut_donors : SameDonors r f (cut_form r f q (record { 0 = p }))
  cut_donors =
      map_through (donor r f) (donor r (cut_form r f q (record { 0 = p }))) (between r f.start.0 q p) f.alts
      (λ a m. sym (cut_donor a (Memᴰ.tail m)))

  pub cut_on : OnReference r (cut_form r f q (record { 0 = p }))
  cut_on =
      donor_on r (cut_form r f q (record { 0 = p })) (omega (arith, new_end)) (cut_donor f.ref in_ref ∙ donor_ref r f on)
