-- What a normal form of an entry with one or two ALTs keeps.
--     form_at                an entry with one ALT, or two where the test holds
--     Shrinks, shrinks      no allele grows or is empty, the end does not move right, and alleles that differ still differ
-- Assumes nothing.
use mathlib.Core.Bool.{Bool, true, false}
use mathlib.Core.List.Memᴰ
use mathlib.Core.List.{List, [], ◌∷◌}
use mathlib.Core.Path.{◌≡◌, refl, sym, ap, ◌∙◌}
use Prim.Native.Nat.{ℕ, ◌+◌, ◌≤◌}
use lib.Dec.{T, lit<}
use lib.ListN.{length}
use Rattle.bases.specs.declared.place.Place.{Place}
use Rattle.bases.specs.Pick.{pick}
use Rattle.normal.specs.Form.{Form, alleles, OnReference, NoneEmpty, donor, NormalForm}
use Rattle.normal.proofs.DonorLaws.{donors_all, donor_inj}
use Rattle.normal.proofs.MemberLaws.{map_at}
use Rattle.normal.proofs.NormalForm.{normal_end, normal_shorter}

abbrev pub form_at : Bool → Place → List ℕ → List ℕ → List ℕ → Form
form_at t s a b c = record { start = s; ref = a; alts = pick t (b ∷ c ∷ []) (b ∷ []) }

-- From the alleles a, b, c at s to x, y, z at p.
pub record Shrinks (t : Bool) (s : Place) (a b c : List ℕ) (p : Place) (x y z : List ℕ) : Type 0 where
  pub end : p.0 + length x ≤ s.0 + length a
  pub ref : length x ≤ length a
  pub first : length y ≤ length b
  pub second : T t → length z ≤ length c
  pub ref_some : 1 ≤ length x
  pub first_some : 1 ≤ length y
  pub second_some : T t → 1 ≤ length z
  pub first_new : (b ≡ a → ⊥) → y ≡ x → ⊥
  pub second_new : T t → (c ≡ a → ⊥) → z ≡ x → ⊥
  pub two_new : T t → (c ≡ b → ⊥) → z ≡ y → ⊥

pub shrinks : (t : Bool) (r : List ℕ) (s : Place) (a b c : List ℕ) (p : Place) (x y z : List ℕ) → OnReference r (form_at t s a b c) → NoneEmpty (form_at t s a b c)
    → NormalForm r (form_at t s a b c) (form_at t p x y z) → Shrinks t s a b c p x y z
shrinks true r s a b c p x y z on some n =
    let f = form_at true s a b c in
    let g = form_at true p x y z in
    let all = donors_all r f g on n.on n.donors in
    let d0 : donor r f a ≡ donor r g x = map_at (donor r f) (donor r g) (alleles f) (alleles g) all 0 (lit< tt) in
    let d1 : donor r f b ≡ donor r g y = map_at (donor r f) (donor r g) (alleles f) (alleles g) all 1 (lit< tt) in
    let d2 : donor r f c ≡ donor r g z = map_at (donor r f) (donor r g) (alleles f) (alleles g) all 2 (lit< tt) in
    record {
      end = normal_end r f g on some n;
      ref = normal_shorter r f g on some n 0 (lit< tt);
      first = normal_shorter r f g on some n 1 (lit< tt);
      second = λ u. normal_shorter r f g on some n 2 (lit< tt);
      ref_some = n.normal.some x (Memᴰ.head refl);
      first_some = n.normal.some y (Memᴰ.tail (Memᴰ.head refl));
      second_some = λ u. n.normal.some z (Memᴰ.tail (Memᴰ.tail (Memᴰ.head refl)));
      first_new = λ h e. h (donor_inj r f on b a (d1 ∙ ap (donor r g) e ∙ sym d0));
      second_new = λ u h e. h (donor_inj r f on c a (d2 ∙ ap (donor r g) e ∙ sym d0));
      two_new = λ u h e. h (donor_inj r f on c b (d2 ∙ ap (donor r g) e ∙ sym d1));
    }
shrinks false r s a b c p x y z on some n =
    let f = form_at false s a b c in
    let g = form_at false p x y z in
    let all = donors_all r f g on n.on n.donors in
    let d0 : donor r f a ≡ donor r g x = map_at (donor r f) (donor r g) (alleles f) (alleles g) all 0 (lit< tt) in
    let d1 : donor r f b ≡ donor r g y = map_at (donor r f) (donor r g) (alleles f) (alleles g) all 1 (lit< tt) in
    record {
      end = normal_end r f g on some n;
      ref = normal_shorter r f g on some n 0 (lit< tt);
      first = normal_shorter r f g on some n 1 (lit< tt);
      second = λ u. absurd u;
      ref_some = n.normal.some x (Memᴰ.head refl);
      first_some = n.normal.some y (Memᴰ.tail (Memᴰ.head refl));
      second_some = λ u. absurd u;
      first_new = λ h e. h (donor_inj r f on b a (d1 ∙ ap (donor r g) e ∙ sym d0));
      second_new = λ u h e. absurd u;
      two_new = λ u h e. absurd u;
    }
