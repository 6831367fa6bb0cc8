-- The normal form of an entry of a list. The entry stands on the reference and in the text.
--     form_on, form_some     it has its REF on the reference, and no empty allele
--     normal_entry_form      what the numbers spell is what the closed form gives
--     normal_entry_is        so it is the normal form, in document 01's words
-- Assumes nothing.
use mathlib.Core.Bool.{Bool, true, false}
use mathlib.Core.List.Memᴰ
use mathlib.Core.List.{List, [], ◌∷◌, map, Memᴰ}
use mathlib.Core.Logic.{⊎_elim}
use mathlib.Core.Path.{◌≡◌, refl, sym, ap, ◌∙◌}
use Prim.Native.Nat.{ℕ, ◌+◌, ◌-◌, ◌≤◌}
use native.Mathlib.Omega.{arith}
use lib.Dec.{eqb}
use lib.ListN.{length, take, drop}
use Rattle.bases.specs.declared.place.Place.{Place}
use Rattle.bases.specs.Letter.{bases_of}
use Rattle.bases.proofs.LetterLaws.{bases_length}
use Rattle.bases.proofs.StretchLaws.{stretch_length}
use Rattle.bases.specs.Pick.{pick}
use Rattle.bases.specs.Stretch.{stretch}
use Rattle.vcf.specs.declared.entry.Part.{Part}
use Rattle.vcf.specs.declared.entry.Entry.{Entry}
use Rattle.vcf.specs.Entry.{bytes_of}
use Rattle.normal.specs.declared.cut.Cuts.{Cuts}
use Rattle.normal.specs.Form.{Form, OnReference, NoneEmpty, NormalForm}
use Rattle.normal.specs.Cut.{new_start, between, normal_of}
use Rattle.normal.specs.Spelled.{cuts_of, spelled, start_of, form_of, Within, Stands, normal_entry, bases_spelled, form_spelled}
use Rattle.normal.proofs.ExtendedLaws.{between_length}
use Rattle.normal.proofs.CutLaws.{cut_on}
use Rattle.normal.proofs.ExistLaws.{normal_cut}
use Rattle.normal.proofs.EntryLaws.{part_length, ref_of, Bounds, bounds}
use Rattle.normal.proofs.SpelledLaws.{numbers, spelled_between}
use Rattle.normal.proofs.NormalForm.{normal_exists}

same_start : (s : Place) {a b : List ℕ} {x y : List (List ℕ)} → a ≡ b → x ≡ y → ◌≡◌ {A = Form} (record { start = s; ref = a; alts = x }) (record { start = s; ref = b; alts = y })
same_start s h j = cc

module _ (reference text : List ℕ) (e : Entry) (st : Stands reference text e) where
  ref_length : length (ref_of reference e) ≡ e.reference.len
  ref_length = stretch_length reference (start_of e).0 e.reference.len st.on.1

  pub form_on : OnReference reference (form_of reference text e)
  form_on = (
    omega (arith, ref_length),
    ap (λ (n : ℕ). take n (drop (start_of e).0 reference)) ref_length,
  )

  some_part : (p : Part) → Within text p → 1 ≤ length (bases_of (bytes_of text p))
  some_part p w = omega (arith, bases_length (bytes_of text p), part_length text p w)

  pub form_some : NoneEmpty (form_of reference text e)
  form_some b m = ⊎_elim (λ d. rw d (omega (arith, ref_length))) (alts (eqb e.alts 2) st.second) (Memᴰ.cases_cons m)
    where
      alts : (t : Bool) → Within text (pick t e.second e.first)
          → Memᴰ b (pick t (bases_of (bytes_of text e.first) ∷ bases_of (bytes_of text e.second) ∷ []) (bases_of (bytes_of text e.first) ∷ [])) → 1 ≤ length b
      alts true w n =
          ⊎_elim (λ d. rw d (some_part e.first st.first))
          (λ o. ⊎_elim (λ d. rw d (some_part e.second w)) (λ z. absurd (Memᴰ.not-nil z)) (Memᴰ.cases_cons o))
          (Memᴰ.cases_cons n)
      alts false w n =
          ⊎_elim (λ d. rw d (some_part e.first st.first)) (λ z. absurd (Memᴰ.not-nil z)) (Memᴰ.cases_cons n)

  abbrev f : Form
  f = form_of reference text e

  abbrev k : Cuts
  k = cuts_of reference f

  abbrev n : ℕ
  n = (new_start f k.back k.front).0

  kb : Bounds k e
  kb = bounds reference text e st k refl

  -- What is left of an ALT.
  left_of_lem : (p : Part) → Within text p → k.shortest ≤ p.len → bases_spelled reference text (record { 0 = n }) (spelled k p)
      ≡ between reference (start_of e).0 k.back n (bases_of (bytes_of text p))
  left_of_lem p w h =
      spelled_between reference text (start_of e).0 p k.back k.front n (spelled k p).front (spelled k p).own.len (omega arith) w
      (numbers (start_of e).0 k.shortest p.len k.back k.front kb.some h kb.back kb.front)

  -- What is left of REF.
  left_of_ref : stretch reference n ((start_of e).0 + e.reference.len - k.back - n) ≡ between reference (start_of e).0 k.back n f.ref
  left_of_ref =
      let cut = normal_cut reference f form_on form_some in
      let long = between_length reference (start_of e).0 (omega arith) f.ref k.back n (cut.left f.ref (Memᴰ.head refl)) in
      let span : (start_of e).0 + e.reference.len - k.back - n ≡ length (between reference (start_of e).0 k.back n f.ref) =
      ap (λ (z : ℕ). (start_of e).0 + z - k.back - n) (sym ref_length) ∙ sym long in
      ap (λ (z : ℕ). take z (drop n reference)) span
      ∙ (cut_on reference f form_on k.back n cut).1

  left_of_alts : (t : Bool) → Within text (pick t e.second e.first) → k.shortest ≤ (pick t e.second e.first).len
      → pick t (bases_spelled reference text (record { 0 = n }) (spelled k e.first) ∷ bases_spelled reference text (record { 0 = n }) (spelled k (pick t e.second e.first)) ∷ [])
      (bases_spelled reference text (record { 0 = n }) (spelled k e.first) ∷ [])
      ≡ map (between reference (start_of e).0 k.back n) (pick t (bases_of (bytes_of text e.first) ∷ bases_of (bytes_of text e.second) ∷ []) (bases_of (bytes_of text e.first) ∷ []))
  left_of_alts true w h = let a = left_of_lem e.first st.first kb.first in let b = left_of_lem e.second w h in cc
  left_of_alts false w h = let a = left_of_lem e.first st.first kb.first in cc

  pub normal_entry_form : form_spelled reference text e.alts (normal_entry reference text e) ≡ normal_of reference (form_of reference text e)
  unfolding normal_entry normal_of
  normal_entry_form = same_start (record { 0 = n }) left_of_ref (left_of_alts (eqb e.alts 2) st.second kb.second)

  pub normal_entry_is : NormalForm reference (form_of reference text e) (form_spelled reference text e.alts (normal_entry reference text e))
  normal_entry_is = rw normal_entry_form (normal_exists reference f form_on form_some)
