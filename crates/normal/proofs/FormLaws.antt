-- What a normal form cannot do. f and g stand for two entries on the reference with the same donors, of which g is normal.
--     partner          each allele of g has a partner in f with the same donor
--     end_not_right    the span of g does not end right of f's
--     not_longer       no allele of g is longer than its partner, told by starts and ends
-- Assumes nothing.
use mathlib.Core.List.{List, Memᴰ}
use mathlib.Core.Path.{◌≡◌, refl, sym, ◌∙◌}
use Prim.Native.Nat.{ℕ, ◌+◌, ◌-◌, ◌≤◌, ◌<◌}
use native.Mathlib.Omega.{arith}
use lib.ListN.{length, get_or}
use Rattle.normal.specs.Form.{Form, alleles, Each, One, span_end, OnReference, NoneEmpty, first, last, AllEndAlike, AllBeginAlike, Normal, donor, SameDonors}
use Rattle.normal.proofs.MemberLaws.{paired}
use Rattle.normal.proofs.DonorLaws.{donors_all, apart, last_of, first_of}

module _ (r : List ℕ) (f g : Form) (onf : OnReference r f) (ong : OnReference r g) (same : SameDonors r f g) where
  pub partner : (b : List ℕ) → Memᴰ b (alleles g) → One (λ a. donor r f a ≡ donor r g b) (alleles f)
  partner = paired (donor r f) (donor r g) (alleles f) (alleles g) (donors_all r f g onf ong same)

  module _ (some : NoneEmpty f) (n : Normal g) where
    ends_in : span_end f < span_end g → Each (λ b. last b ≡ get_or r (span_end g - 1) 0) (alleles g)
    ends_in h b m =
        let p = partner b m in
        last_of r g f ong onf b p.0 (sym p.2) h (n.some b m)

    begins_with : g.start.0 < f.start.0 → Each (λ b. first b ≡ get_or r g.start.0 0) (alleles g)
    begins_with h b m =
        let p = partner b m in
        first_of r g f ong onf b p.0 (sym p.2) h (n.some b m)

    pub end_not_right : span_end g ≤ span_end f
    end_not_right = let no = right in omega arith
      where
        alike : span_end f < span_end g → AllEndAlike g
        alike h a m = ends_in h a (Memᴰ.tail m) ∙ sym (ends_in h g.ref (Memᴰ.head refl))

        right : span_end f < span_end g → ⊥
        right h =
            let e = n.ends (alike h) in
            let b = e.1.0 in
            let p = partner b e.1.1 in
            let one = e.1.2 in
            omega (arith, apart r f g onf ong p.0 b p.2, some p.0 p.1)

    pub not_longer : f.start.0 + span_end g ≤ g.start.0 + span_end f
    not_longer = let no = longer in omega arith
      where
        alike : g.start.0 < f.start.0 → AllBeginAlike g
        alike h a m = begins_with h a (Memᴰ.tail m) ∙ sym (begins_with h g.ref (Memᴰ.head refl))

        longer : g.start.0 + span_end f < f.start.0 + span_end g → ⊥
        longer h = n.begins (alike (omega (arith, end_not_right))) two
          where
            two : Each (λ b. 2 ≤ length b) (alleles g)
            two b m =
                let p = partner b m in
                omega (arith, apart r f g onf ong p.0 b p.2, some p.0 p.1)
