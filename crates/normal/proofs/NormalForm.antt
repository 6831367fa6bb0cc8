-- The normal form of an entry, as document 01 says. An entry has its REF on the reference and no empty allele.
--     normal_exists                 the closed form gives a normal form
--     normal_same, normal_unique    exactly one exists: two normal entries with the same donors are the same
--     normal_itself                 a normal entry is its own normal form
--     normal_end                    the end of the span does not move right
--     normal_shorter, normal_reach  no allele grows, even with what the start has moved
--     normal_differ                 alleles that differ still differ
-- Assumes nothing.
use mathlib.Core.List.{List, [], ◌++◌, map}
use mathlib.Core.Path.{◌≡◌, refl, sym, ap, ◌∙◌}
use Prim.Native.Nat.{ℕ, ◌+◌, ◌≤◌, ◌<◌}
use native.Mathlib.Omega.{arith}
use lib.ListN.{length, get_or, take, drop}
use Rattle.normal.specs.Form.{Form, alleles, span_end, OnReference, NoneEmpty, Normal, donor, SameDonors, NormalForm, AllDiffer}
use Rattle.normal.specs.Cut.{normal_of}
use Rattle.normal.proofs.MemberLaws.{map_inj, map_at, map_length}
use Rattle.normal.proofs.DonorLaws.{donors_all, donor_inj, apart}
use Rattle.normal.proofs.FormLaws.{end_not_right, not_longer}
use Rattle.normal.proofs.CutLaws.{cut_on, cut_donors}
use Rattle.normal.proofs.ExistLaws.{normal_cut, normal_is}

pub normal_exists : (r : List ℕ) (f : Form) → OnReference r f → NoneEmpty f → NormalForm r f (normal_of r f)
unfolding normal_of
normal_exists r f on some =
    record {
      on = cut_on r f on _ _ (normal_cut r f on some);
      normal = normal_is r f on some;
      donors = cut_donors r f on _ _ (normal_cut r f on some);
    }

form : ℕ → List ℕ → List (List ℕ) → Form
form s ref alts = record { start = record { 0 = s }; ref = ref; alts = alts }

-- Two entries on the reference with the same span and the same donors are the same.
same_span : (r : List ℕ) (f g : Form) → OnReference r f → OnReference r g → SameDonors r f g → f.start.0 ≡ g.start.0 → span_end f ≡ span_end g → f ≡ g
unfolding form
same_span r f g onf ong same s e =
    let long : length f.ref ≡ length g.ref = omega arith in
    let ref : f.ref ≡ g.ref = cc (onf.1, ong.1) in
    let donors : map (donor r g) g.alts ≡ map (donor r f) g.alts =
    ap (λ (z : ℕ). map (λ a. take z r ++ a ++ drop (span_end g) r) g.alts) (sym s)
    ∙ ap (λ (z : ℕ). map (λ a. take f.start.0 r ++ a ++ drop z r) g.alts) (sym e) in
    let alts : f.alts ≡ g.alts = map_inj (donor r f) (donor_inj r f onf) f.alts g.alts (same ∙ donors) in
    let k : form f.start.0 f.ref f.alts ≡ form g.start.0 g.ref g.alts = cc in
    k

pub normal_same : (r : List ℕ) (f g : Form) → OnReference r f → OnReference r g → Normal f → Normal g → SameDonors r f g → f ≡ g
normal_same r f g onf ong nf ng same =
    let a = end_not_right r f g onf ong same nf.some ng in
    let b = end_not_right r g f ong onf (sym same) ng.some nf in
    let c = not_longer r f g onf ong same nf.some ng in
    let d = not_longer r g f ong onf (sym same) ng.some nf in
    same_span r f g onf ong same (omega arith) (omega arith)

pub normal_unique : (r : List ℕ) (f g h : Form) → NormalForm r f g → NormalForm r f h → g ≡ h
normal_unique r f g h n k = normal_same r g h n.on k.on n.normal k.normal (sym n.donors ∙ k.donors)

pub normal_itself : (r : List ℕ) (f : Form) → OnReference r f → Normal f → normal_of r f ≡ f
normal_itself r f on n = normal_unique r f (normal_of r f) f (normal_exists r f on n.some) (record { on = on; normal = n; donors = refl })

module _ (r : List ℕ) (f g : Form) (on : OnReference r f) (some : NoneEmpty f) (n : NormalForm r f g) where
  pub normal_end : span_end g ≤ span_end f
  normal_end = end_not_right r f g on n.on n.donors some n.normal

  same_at : (i : ℕ) → i < length (alleles f) → donor r f (get_or (alleles f) i []) ≡ donor r g (get_or (alleles g) i [])
  same_at i h = map_at (donor r f) (donor r g) (alleles f) (alleles g) (donors_all r f g on n.on n.donors) i h

  pub normal_reach : (i : ℕ) → i < length (alleles f) → g.start.0 + length (get_or (alleles g) i []) ≤ f.start.0 + length (get_or (alleles f) i [])
  normal_reach i h = omega (arith, normal_end, apart r f g on n.on (get_or (alleles f) i []) (get_or (alleles g) i []) (same_at i h))

  pub normal_shorter : (i : ℕ) → i < length (alleles f) → length (get_or (alleles g) i []) ≤ length (get_or (alleles f) i [])
  normal_shorter i h =
      omega (arith, not_longer r f g on n.on n.donors some n.normal, apart r f g on n.on (get_or (alleles f) i []) (get_or (alleles g) i []) (same_at i h))

  pub normal_differ : AllDiffer (alleles f) → AllDiffer (alleles g)
  normal_differ d i j h k e =
      let l = map_length (donor r f) (donor r g) (alleles f) (alleles g) (donors_all r f g on n.on n.donors) in
      d i j h (omega arith) (donor_inj r f on (get_or (alleles f) i []) (get_or (alleles f) j []) (cc (same_at i (omega arith), same_at j (omega arith))))
