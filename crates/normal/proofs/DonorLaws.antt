-- Laws of the donor for one allele.
--     donor_length                         its length
--     donor_front, donor_own, donor_back   base by base: the reference before the span, the allele, the reference behind the span
--     donor_ref, donor_on                  REF is on the reference exactly if its donor is the reference
--     donor_inj                            two alleles of an entry with the same donor are the same
--     donors_all                           the same donors for each ALT are the same donors for each allele
--     apart                                two entries with the same donor: their lengths
--     last_of, first_of                    two entries with the same donor: the last base, if the other's span ends before; the first, if it starts behind
-- Assumes nothing.
use mathlib.Core.List.{List, ◌++◌, map, append_assoc, append_cancel_left, append_cancel_right}
use mathlib.Core.Path.{◌≡◌, refl, sym, ap, ◌∙◌}
use Prim.Native.Nat.{ℕ, ◌+◌, ◌-◌, ◌≤◌, ◌<◌}
use native.Mathlib.Omega.{arith}
use lib.ListN.{length, get_or, take, drop, length-append, length-drop, take-append-drop, get_or-append}
use lib.Seq.{length-take-le, get_or-append-add, get_or-drop, get_or-take, take-add, take_at, drop_at}
use Rattle.normal.specs.Form.{Form, alleles, span_end, OnReference, first, last, donor, SameDonors}

module _ (r : List ℕ) (f : Form) (on : OnReference r f) where
  start_length : length (take f.start.0 r) ≡ f.start.0
  start_length = length-take-le f.start.0 r (omega arith)

  front_length : (a : List ℕ) → length (take f.start.0 r ++ a) ≡ f.start.0 + length a
  front_length a = length-append (take f.start.0 r) a ∙ ap (λ (n : ℕ). n + length a) start_length

  pub donor_length : (a : List ℕ) → length (donor r f a) + span_end f ≡ f.start.0 + length a + length r
  donor_length a =
      omega (arith, length-append (take f.start.0 r ++ a) (drop (span_end f) r), front_length a, length-drop (span_end f) r)

  pub donor_front : (a : List ℕ) (j : ℕ) → j < f.start.0 → get_or (donor r f a) j 0 ≡ get_or r j 0
  donor_front a j h =
      get_or-append (take f.start.0 r ++ a) (drop (span_end f) r) 0 j (omega (arith, front_length a))
      ∙ get_or-append (take f.start.0 r) a 0 j (omega (arith, start_length))
      ∙ get_or-take f.start.0 r j 0 h

  pub donor_own : (a : List ℕ) (j : ℕ) → j < length a → get_or (donor r f a) (f.start.0 + j) 0 ≡ get_or a j 0
  donor_own a j h =
      get_or-append (take f.start.0 r ++ a) (drop (span_end f) r) 0 (f.start.0 + j) (omega (arith, front_length a))
      ∙ ap (λ (n : ℕ). get_or (take f.start.0 r ++ a) (n + j) 0) (sym start_length)
      ∙ get_or-append-add (take f.start.0 r) a j 0

  pub donor_back : (a : List ℕ) (j : ℕ) → get_or (donor r f a) (f.start.0 + length a + j) 0 ≡ get_or r (span_end f + j) 0
  donor_back a j =
      ap (λ (n : ℕ). get_or (donor r f a) (n + j) 0) (sym (front_length a))
      ∙ get_or-append-add (take f.start.0 r ++ a) (drop (span_end f) r) j 0
      ∙ get_or-drop (span_end f) r j 0

  pub donor_ref : donor r f f.ref ≡ r
  donor_ref =
      ap (λ (x : List ℕ). take f.start.0 r ++ x ++ drop (span_end f) r) (sym on.1)
      ∙ ap (λ (x : List ℕ). x ++ drop (span_end f) r) (sym (take-add f.start.0 (length f.ref) r))
      ∙ take-append-drop (span_end f) r

  pub donor_inj : (a b : List ℕ) → donor r f a ≡ donor r f b → a ≡ b
  donor_inj a b e = append_cancel_left (take f.start.0 r) a b (append_cancel_right (take f.start.0 r ++ a) (take f.start.0 r ++ b) (drop (span_end f) r) e)

pub donor_on : (r : List ℕ) (f : Form) → span_end f ≤ length r → donor r f f.ref ≡ r → OnReference r f
donor_on r f h e = (
  h,
  ap (λ (x : List ℕ). take (length f.ref) (drop f.start.0 x)) (sym e ∙ append_assoc (take f.start.0 r) f.ref (drop (span_end f) r))
      ∙ ap (take (length f.ref)) (drop_at (take f.start.0 r) (f.ref ++ drop (span_end f) r) f.start.0 (length-take-le f.start.0 r (omega arith)))
      ∙ take_at f.ref (drop (span_end f) r) (length f.ref) refl,
)

module _ (r : List ℕ) (f g : Form) (onf : OnReference r f) (ong : OnReference r g) where
  pub donors_all : SameDonors r f g → map (donor r f) (alleles f) ≡ map (donor r g) (alleles g)
  donors_all e = cc (donor_ref r f onf, donor_ref r g ong)

  module _ (a b : List ℕ) (e : donor r f a ≡ donor r g b) where
    pub apart : f.start.0 + length a + span_end g ≡ g.start.0 + length b + span_end f
    apart = omega (arith, donor_length r f onf a, donor_length r g ong b, ap length e)

    pub last_of : span_end g < span_end f → 1 ≤ length a → last a ≡ get_or r (span_end f - 1) 0
    last_of h k =
        let i : f.start.0 + (length a - 1) ≡ g.start.0 + length b + (span_end f - 1 - span_end g) = omega (arith, apart) in
        let j : span_end g + (span_end f - 1 - span_end g) ≡ span_end f - 1 = omega arith in
        sym (donor_own r f onf a (length a - 1) (omega arith))
        ∙ (cc)
        ∙ donor_back r g ong b (span_end f - 1 - span_end g)
        ∙ ap (λ (n : ℕ). get_or r n 0) j

    pub first_of : f.start.0 < g.start.0 → 1 ≤ length a → first a ≡ get_or r f.start.0 0
    first_of h k =
        let i : f.start.0 + 0 ≡ f.start.0 = omega arith in
        sym (donor_own r f onf a 0 (omega arith)) ∙ (cc) ∙ donor_front r g ong b f.start.0 h
