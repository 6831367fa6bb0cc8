-- Laws of a table's rows and of choices as bytes.
--     choice_plus, choice_other                 the choice that a byte writes
--     allele_puts                               the allele that a row gives for a copy is what its entry puts there
--     row_takes                                 and the entry takes its span there exactly if the row does
--     taken_chosen                              a row that takes its span is chosen
--     taken_side                                an entry that takes its span for a list is of that list
-- Assumes nothing.
use mathlib.Core.Bool.{Bool, true, false, beq, ◌&&◌}
use mathlib.Core.List.{List}
use mathlib.Core.Path.{◌≡◌, refl}
use Prim.Native.Nat.{ℕ}
use borrow.Author.Tests.{eq-eqb, ne_eqb}
use lib.Dec.{T, eqb}
use Rattle.bases.specs.Pick.{pick}
use Rattle.donors.specs.declared.table.Row.{Row}
use Rattle.donors.specs.Choice.{Choice, plus, minus, out, chosen?, Copy, copy0, copy1, puts, card_rules}
use Rattle.donors.specs.Rules.{takes?}
use Rattle.donors.specs.Table.{allele_bases, variant_of, choice_of, allele_of, row_takes?}

pub choice_plus : (b : ℕ) → b ≡ 43 → choice_of b ≡ plus
choice_plus b e = rw (eq-eqb _ _ e)

pub choice_other : (b : ℕ) → (b ≡ 43 → ⊥) → chosen? (choice_of b) ≡ eqb b 45
choice_other b n = rw (ne_eqb _ _ n) (go (eqb b 45))
  where
    go : (t : Bool) → chosen? (pick t minus out) ≡ t
    go true = refl
    go false = refl

pub allele_puts : (reference text : List ℕ) (r : Row) (c : Choice) (h : Copy) → allele_bases reference text (allele_of r c h) ≡ puts (variant_of reference text r) c h
allele_puts reference text r plus copy0 = refl
allele_puts reference text r plus copy1 = refl
allele_puts reference text r minus copy0 = refl
allele_puts reference text r minus copy1 = refl
allele_puts reference text r out copy0 = refl
allele_puts reference text r out copy1 = refl

pub row_takes : (reference text : List ℕ) (r : Row) (c : Choice) (j : Bool) (h : Copy) → takes? card_rules j h (variant_of reference text r) c ≡ row_takes? r c j h
row_takes reference text r plus j copy0 = refl
row_takes reference text r plus j copy1 = refl
row_takes reference text r minus j copy0 = refl
row_takes reference text r minus j copy1 = refl
row_takes reference text r out j h = refl

pub taken_chosen : (r : Row) (c : Choice) (j : Bool) (h : Copy) → row_takes? r c j h ≡ true → chosen? c ≡ true
taken_chosen r c j h e = go (beq j r.first) (chosen? c) e
  where
    go : (s t : Bool) → s && (t && (allele_of r c h).room) ≡ true → t ≡ true
    go s true e = refl
    go true false e = e
    go false false e = e

pub taken_side : (j b t : Bool) → T (beq j b && t) → b ≡ j
taken_side true true t h = refl
taken_side true false t h = absurd h
taken_side false true t h = absurd h
taken_side false false t h = refl
