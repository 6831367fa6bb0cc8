-- Laws of the card's own rules.
--     plus_as_written, minus_exchanges, out_takes_none
--                             what `+`, `-` and `0` do, in document 01's words
--     carrier_spans           on a copy the spans that do not overlap are those of the entries that carry another allele than REF there
--     card_apart              of entries in order the chains are what request c asks: no two such entries of the list overlap
-- Assumes nothing.
use mathlib.Core.Bool.{Bool, true, false}
use mathlib.Core.List.{List, [], ◌∷◌}
use mathlib.Core.Logic.{◌↔◌}
use mathlib.Core.Path.{◌≡◌, refl}
use Rattle.donors.specs.Apart.{All, Pairwise, Disjoint, NoOverlap, Chain}
use Rattle.donors.specs.Choice.{Choice, plus, minus, out, Copy, copy0, copy1, Variant, puts, card_rules, those, carriers_of, SpansApart}
use Rattle.donors.specs.Donor.{Edit}
use Rattle.donors.specs.Items.{Sorted, Solid}
use Rattle.donors.specs.Rules.{put_if, edit_of, takes?, edits}
use Rattle.donors.proofs.EditLaws.{apart_words}

pub plus_as_written : (x : Variant) → (puts x plus copy0 ≡ x.allele0) × (puts x plus copy1 ≡ x.allele1)
plus_as_written x = (refl, refl)

pub minus_exchanges : (x : Variant) → (puts x minus copy0 ≡ x.allele1) × (puts x minus copy1 ≡ x.allele0)
minus_exchanges x = (refl, refl)

pub out_takes_none : (x : Variant) (h : Copy) → card_rules.room x out h ≡ false
out_takes_none x h = refl

put_iff : (P : Edit → Type 0) (Q : Variant → Type 0) (t : Bool) (e : Edit) (es : List Edit) (x : Variant) (xs : List Variant)
    → (P e ↔ Q x) → (All P es ↔ All Q xs) → All P (put_if t e es) ↔ All Q (put_if t x xs)
put_iff P Q true e es x xs f g = (λ a. (f.0 a.0, g.0 a.1), λ a. (f.1 a.0, g.1 a.1))
put_iff P Q false e es x xs f g = g

put_pairwise : (t : Bool) (e : Edit) (es : List Edit) (x : Variant) (xs : List Variant)
    → (All (Disjoint e) es ↔ All (SpansApart x) xs) → (NoOverlap es ↔ Pairwise SpansApart xs) → NoOverlap (put_if t e es) ↔ Pairwise SpansApart (put_if t x xs)
put_pairwise true e es x xs f g = (λ a. (f.0 a.0, g.0 a.1), λ a. (f.1 a.0, g.1 a.1))
put_pairwise false e es x xs f g = g

-- an entry's edit is apart from the edits of a list exactly if the entry is apart from the list's entries that have them
apart_all : (j : Bool) (h : Copy) (y : Variant) (d : Choice) (xs : List Variant) (φ : List Choice)
    → All (Disjoint (edit_of card_rules y d h)) (edits card_rules j h xs φ) ↔ All (SpansApart y) (carriers_of j h xs φ)
unfolding edits those
apart_all j h y d [] φ = (λ a. tt, λ a. tt)
apart_all j h y d (x ∷ xs) [] = (λ a. tt, λ a. tt)
apart_all j h y d (x ∷ xs) (c ∷ φ) =
    put_iff (Disjoint (edit_of card_rules y d h)) (SpansApart y) (takes? card_rules j h x c) (edit_of card_rules x c h) (edits card_rules j h xs φ) x (carriers_of j h xs φ)
    (λ a. a, λ a. a) (apart_all j h y d xs φ)

pub carrier_spans : (j : Bool) (h : Copy) (xs : List Variant) (φ : List Choice)
    → NoOverlap (edits card_rules j h xs φ) ↔ Pairwise SpansApart (carriers_of j h xs φ)
unfolding edits those
carrier_spans j h [] φ = (λ a. tt, λ a. tt)
carrier_spans j h (x ∷ xs) [] = (λ a. tt, λ a. tt)
carrier_spans j h (x ∷ xs) (c ∷ φ) =
    put_pairwise (takes? card_rules j h x c) (edit_of card_rules x c h) (edits card_rules j h xs φ) x (carriers_of j h xs φ)
    (apart_all j h x c xs φ) (carrier_spans j h xs φ)

pub card_apart : (j : Bool) (h : Copy) (xs : List Variant) (φ : List Choice) → Solid card_rules xs → Sorted card_rules xs
    → Chain 0 (edits card_rules j h xs φ) ↔ Pairwise SpansApart (carriers_of j h xs φ)
card_apart j h xs φ n s =
    let w = apart_words card_rules j h xs φ n s in
    let k = carrier_spans j h xs φ in
    (λ c. k.0 (w.0 c), λ a. w.1 (k.1 a))
