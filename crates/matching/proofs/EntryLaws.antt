-- Laws of the entries of a table, as matching reads them.
--     entries, entry_at          the entries of the rows from row i on, and of row i
--     entries_length, entries_at_lem
--                               how many there are, and which stands at a place
--     legal_not, legal_all      choices that do not overlap are not legal where the donors differ on a copy, and legal where they do on none
-- Assumes nothing.
use mathlib.Core.Bool.{Bool, true, false, ◌&&◌}
use mathlib.Core.List.{List, ◌∷◌, ◌++◌}
use mathlib.Core.Path.{◌≡◌, refl, sym, ap, ◌∙◌}
use Prim.Native.Nat.{ℕ, zero, suc, ◌+◌, ◌-◌, ◌<◌}
use native.Mathlib.Nat.{zero-add}
use native.Mathlib.Omega.{arith}
use borrow.Author.Tests.{eq-eqb}
use lib.ListN.{length}
use Rattle.bases.proofs.TestLaws.{is_true}
use Rattle.bases.specs.Pick.{pick}
use Rattle.donors.specs.declared.table.Row.{Row}
use Rattle.donors.specs.Agree.{one_donor?}
use Rattle.donors.specs.Choice.{Copy, copy0, copy1, Variant, card_rules}
use Rattle.donors.specs.Table.{row_at, variant_of, variants_from, choices_from}
use Rattle.matching.specs.BestOf.{every?, keep?}
use Rattle.matching.specs.Card.{card_finite}
use Rattle.matching.specs.Made.{Kept, card_legal?}
use Rattle.matching.proofs.AnswerLaws.{choices_length}

module _ (reference first second : List ℕ) (t : List Row) where
  abbrev pub entries : ℕ → ℕ → List Variant
  entries i n = variants_from reference first second t i n

  abbrev pub entry_at : ℕ → Variant
  entry_at i = variant_of reference (pick (row_at t i).first first second) (row_at t i)

  pub entries_length : (i n : ℕ) → length (entries i n) ≡ n
  unfolding variants_from
  entries_length i zero = refl
  entries_length i (suc n) = ap suc (entries_length (i + 1) n)

  entries_append : (i k m : ℕ) → entries i (k + m) ≡ entries i k ++ entries (i + k) m
  unfolding variants_from
  entries_append i zero m = let e : i + 0 ≡ i = omega arith in rw (zero-add m, e)
  entries_append i (suc k) m =
      let e : suc k + m ≡ suc (k + m) = omega arith in
      let f : i + suc k ≡ (i + 1) + k = omega arith in
      rw (e, f) (ap (λ (xs : List Variant). entry_at i ∷ xs) (entries_append (i + 1) k m))

  pub entries_at_lem : (k n : ℕ) → k < n → entries 0 n ≡ entries 0 k ++ (entry_at k ∷ entries (k + 1) (n - (k + 1)))
  unfolding variants_from
  entries_at_lem k n h =
      let e : n ≡ k + suc (n - (k + 1)) = omega arith in
      ap (entries 0) e ∙ entries_append 0 k (suc (n - (k + 1))) ∙ rw (zero-add k)

  module _ (choices : List ℕ) (n : ℕ) (k : Kept (entries 0 n) (choices_from choices 0 n)) where
    legal_donors : (u v : Bool) → one_donor? reference first second t choices copy0 n ≡ u → one_donor? reference first second t choices copy1 n ≡ v
        → card_legal? reference (entries 0 n) (choices_from choices 0 n) ≡ u && (v && true)
    unfolding every?
    legal_donors u v e f =
        rw (
          eq-eqb (length (choices_from choices 0 n)) (length (entries 0 n)) (choices_length choices 0 n ∙ sym (entries_length 0 n)),
          is_true
              (keep? card_rules card_finite (entries 0 n) (choices_from choices 0 n)) k,
          e,
          f,
        )

    pub legal_not : (h : Copy) → one_donor? reference first second t choices h n ≡ false → card_legal? reference (entries 0 n) (choices_from choices 0 n) ≡ false
    legal_not copy0 e = legal_donors false _ e refl
    legal_not copy1 e = legal_donors _ false refl e ∙ go (one_donor? reference first second t choices copy0 n)
      where
        go : (u : Bool) → u && false ≡ false
        go true = refl
        go false = refl

    pub legal_all : one_donor? reference first second t choices copy0 n ≡ true → one_donor? reference first second t choices copy1 n ≡ true
        → card_legal? reference (entries 0 n) (choices_from choices 0 n) ≡ true
    legal_all e f = legal_donors true true e f
