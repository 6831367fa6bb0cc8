-- Laws of choices that are kept, and of the edits of one choice more.
--     keep_words     choices are kept exactly if no list's edits overlap on a copy
--     reached        where the last edit ends
--     chain_put, reached_put
--                    one edit more, where a test holds: whether it overlaps, and where the last edit ends then
--     edits_none, edits_so_far, edits_one
--                    the edits of no choice, of the choices so far, and of one choice more
-- Assumes nothing.
use mathlib.Core.Bool.{Bool, true, false}
use mathlib.Core.List.{List, [], ◌∷◌, ◌++◌, append-nil}
use mathlib.Core.Logic.{◌↔◌}
use mathlib.Core.Path.{◌≡◌, refl, sym, ap, ◌∙◌}
use Prim.Native.Nat.{ℕ, ◌≤◌}
use lib.Dec.{T}
use lib.ListN.{length}
use Rattle.bases.specs.Pick.{pick}
use Rattle.bases.proofs.TestLaws.{both}
use Rattle.donors.specs.Apart.{Chain}
use Rattle.donors.specs.Choice.{Choice, Copy, Variant, card_rules}
use Rattle.donors.specs.Donor.{Edit, end}
use Rattle.donors.specs.Rules.{put_if, edit_of, takes?, edits}
use Rattle.donors.proofs.EditLaws.{edits_append}
use Rattle.matching.specs.BestOf.{allowed?, apart?}
use Rattle.matching.specs.Card.{card_finite}
use Rattle.matching.specs.Made.{Kept}
use Rattle.matching.proofs.CardBest.{all_allowed}
use Rattle.matching.proofs.LegalLaws.{allowed_iff, apart_iff}

pub keep_words : (xs : List Variant) (φ : List Choice) → Kept xs φ ↔ ((j : Bool) (h : Copy) → Chain 0 (edits card_rules j h xs φ))
keep_words xs φ =
    let b = both (allowed? card_rules card_finite xs φ) (apart? card_rules card_finite xs φ) in
    let a = apart_iff card_rules card_finite xs φ in
    (λ t. a.0 (b.0 t).1, λ c. b.1 ((allowed_iff card_rules card_finite xs φ).1 (all_allowed xs φ), a.1 c))

-- The end of the last edit, or a where there is none.
unfoldable pub reached : ℕ → List Edit → ℕ
reached a [] = a
reached a (e ∷ es) = reached (end e) es

chain_one : (a : ℕ) (es : List Edit) (e : Edit) → Chain a (es ++ (e ∷ [])) ↔ (Chain a es × (reached a es ≤ e.start))
unfolding reached
chain_one a [] e = (λ c. (tt, c.0), λ c. (c.1, tt))
chain_one a (d ∷ es) e = let i = chain_one (end d) es e in (λ c. ((c.0, (i.0 c.1).0), (i.0 c.1).1), λ c. (c.0.0, i.1 (c.0.1, c.1)))

-- one edit more, where the test holds
pub chain_put : (t : Bool) (es : List Edit) (e : Edit) → Chain 0 es → Chain 0 (es ++ put_if t e []) ↔ (T t → reached 0 es ≤ e.start)
chain_put true es e c = (λ d t. ((chain_one 0 es e).0 d).1, λ f. (chain_one 0 es e).1 (c, f tt))
chain_put false es e c = (λ d t. absurd t, λ f. rw (append-nil es) c)

reached_one : (a : ℕ) (es : List Edit) (e : Edit) → reached a (es ++ (e ∷ [])) ≡ end e
unfolding reached
reached_one a [] e = refl
reached_one a (d ∷ es) e = reached_one (end d) es e

pub reached_put : (t : Bool) (es : List Edit) (e : Edit) → reached 0 (es ++ put_if t e []) ≡ pick t (end e) (reached 0 es)
reached_put true es e = reached_one 0 es e
reached_put false es e = ap (reached 0) (append-nil es)

pub edits_none : (j : Bool) (h : Copy) (xs : List Variant) → edits card_rules j h xs [] ≡ []
unfolding edits
edits_none j h [] = refl
edits_none j h (x ∷ xs) = refl

-- φ are the choices of us, and x is the entry behind them
module _ (us : List Variant) (x : Variant) (vs : List Variant) (φ : List Choice) (l : length φ ≡ length us) (j : Bool) (h : Copy) where
  pub edits_so_far : edits card_rules j h (us ++ (x ∷ vs)) φ ≡ edits card_rules j h us φ
  edits_so_far =
      ap (edits card_rules j h (us ++ (x ∷ vs))) (sym (append-nil φ)) ∙ edits_append card_rules j h us (x ∷ vs) φ [] l
      ∙ ap (λ (es : List Edit). edits card_rules j h us φ ++ es) (edits_none j h (x ∷ vs)) ∙ append-nil (edits card_rules j h us φ)

  pub edits_one : (c : Choice) → edits card_rules j h (us ++ (x ∷ vs)) (φ ++ (c ∷ [])) ≡ edits card_rules j h us φ ++ put_if (takes? card_rules j h x c) (edit_of card_rules x c h) []
  unfolding edits
  edits_one c = edits_append card_rules j h us (x ∷ vs) φ (c ∷ []) l ∙ rw (edits_none j h vs)
