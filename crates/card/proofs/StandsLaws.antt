-- Where an allele stands, as the code answers it: what `stands_of` says of what is shown.
--     stands_refused                        it is turned away where what is shown is a refusal
--     stands_there, stands_not              an allele stands somewhere exactly where the refusal's number is 0, else this is the refusal
--     stands_reference, stands_text         which part it is then
-- Assumes nothing.
use mathlib.Core.Bool.{Bool, true, false}
use mathlib.Core.Logic.{◌≢◌}
use mathlib.Core.Path.{◌≡◌, refl, sym, ◌∙◌}
use borrow.Author.Tests.{eqb-true, eqb-false, ne_eqb}
use lib.Dec.{eqb}
use Rattle.std.specs.Prelude.{Result, Ok, Err}
use Rattle.bases.specs.Pick.{pick}
use Rattle.vcf.specs.declared.entry.Part.{Part}
use Rattle.card.specs.declared.allele.Stands.{Stands}
use Rattle.card.specs.declared.allele.Stands.TheVariants.{InReference, InText}
use Rattle.card.specs.declared.refusal.Refusal.{Refusal}
use Rattle.card.specs.Allele.{Shown, refused_shown, stands_of}

pub stands_refused : (r : Refusal) → r.number ≢ 0 → stands_of (refused_shown r) ≡ Err r
stands_refused r n = rw (ne_eqb r.number 0 n)

module _ (s : Shown) (w : Result Stands Refusal) (e : w ≡ stands_of s) where
  -- what the code answers, by whether the refusal's number is 0
  abbrev by : Bool → Result Stands Refusal
  by t = pick t (Ok (pick s.text (InText s.part) (InReference s.part))) (Err s.refusal)

  pub stands_there : (x : Stands) → w ≡ Ok x → s.refusal.number ≡ 0
  stands_there x f = go (eqb s.refusal.number 0) refl (sym e ∙ f)
    where
      go : (t : Bool) → eqb s.refusal.number 0 ≡ t → by t ≡ Ok x → s.refusal.number ≡ 0
      go true z p = eqb-true s.refusal.number 0 z
      go false z p = cc

  pub stands_not : (r : Refusal) → w ≡ Err r → (s.refusal ≡ r) × (s.refusal.number ≢ 0)
  stands_not r f = go (eqb s.refusal.number 0) refl (sym e ∙ f)
    where
      go : (t : Bool) → eqb s.refusal.number 0 ≡ t → by t ≡ Err r → (s.refusal ≡ r) × (s.refusal.number ≢ 0)
      go true z p = cc
      go false z p = (cc, eqb-false s.refusal.number 0 z)

  module _ (p : Part) where
    pub stands_reference : w ≡ Ok (InReference p) → (s.text ≡ false) × (s.part ≡ p)
    stands_reference f = go (eqb s.refusal.number 0) s.text refl (sym e ∙ f)
      where
        go : (t u : Bool) → s.text ≡ u → pick {A = Result Stands Refusal} t (Ok (pick u (InText s.part) (InReference s.part))) (Err s.refusal) ≡ Ok (InReference p) → (s.text ≡ false) × (s.part ≡ p)
        go true true z q = cc
        go true false z q = (z, cc)
        go false u z q = cc

    pub stands_text : w ≡ Ok (InText p) → (s.text ≡ true) × (s.part ≡ p)
    stands_text f = go (eqb s.refusal.number 0) s.text refl (sym e ∙ f)
      where
        go : (t u : Bool) → s.text ≡ u → pick {A = Result Stands Refusal} t (Ok (pick u (InText s.part) (InReference s.part))) (Err s.refusal) ≡ Ok (InText p) → (s.text ≡ true) × (s.part ≡ p)
        go true true z q = (z, cc)
        go true false z q = cc
        go false u z q = cc
