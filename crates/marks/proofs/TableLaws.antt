-- Laws of the table that entries are written into.
--     table_variants, table_row     the rows that were written are read again; what is so of each
-- Assumes nothing.
use mathlib.Core.List.{List, [], ◌∷◌, ◌++◌, map}
use mathlib.Core.Path.{◌≡◌, refl, ap, ap₂, ◌∙◌}
use Prim.Native.Nat.{ℕ, zero, suc, ◌+◌, ◌<◌}
use native.Mathlib.Numerals.{add-one}
use native.Mathlib.Omega.{arith}
use lib.ListN.{length, drop}
use Rattle.bases.specs.Pick.{pick}
use Rattle.bases.specs.Put.{put}
use Rattle.donors.specs.declared.table.Row.{Row}
use Rattle.donors.specs.Apart.{All}
use Rattle.donors.specs.Choice.{Variant}
use Rattle.donors.specs.Table.{row_at, variant_of, variants_from}
use Rattle.clusters.specs.declared.item.Item.{Item}
use Rattle.clusters.specs.Item.{variant}
use Rattle.marks.specs.Row.{row_of}
use Rattle.marks.proofs.RowLaws.{row_variant}

module _ (reference first second : List ℕ) where
  -- the entry of a row
  entry_by : Row → Variant
  entry_by r = variant_of reference (pick r.first first second) r

  variants_behind : (r : Row) (t : List Row) (k n : ℕ) → variants_from reference first second (r ∷ t) (k + 1) n ≡ variants_from reference first second t k n
  unfolding variants_from entry_by
  variants_behind r t k zero = refl
  variants_behind r t k (suc n) =
      ap₂ (λ (x : Variant) (xs : List Variant). x ∷ xs) (ap entry_by (ap (row_at (r ∷ t)) (add-one k))) (variants_behind r t (k + 1) n)

  table_then : (is : List Item) (t : List Row) → variants_from reference first second (map row_of is ++ t) 0 (length is) ≡ map (variant reference first second) is
  unfolding variants_from entry_by
  table_then [] t = refl
  table_then (i ∷ is) t =
      ap₂ (λ (x : Variant) (xs : List Variant). x ∷ xs)
      (row_variant reference first second i)
      (variants_behind (row_of i) (map row_of is ++ t) 0 (length is) ∙ table_then is t)

  pub table_variants : (t : List Row) (is : List Item) → variants_from reference first second (put t 0 (map row_of is)) 0 (length is) ≡ map (variant reference first second) is
  table_variants t is = table_then is (drop (0 + length (map row_of is)) t)

module _ (P : Row → Type 0) where
  row_then : (is : List Item) (t : List Row) (k : ℕ) → k < length is → All (λ (i : Item). P (row_of i)) is → P (row_at (map row_of is ++ t) k)
  row_then [] t k h a = absurd (omega arith)
  row_then (i ∷ is) t zero h a = a.0
  row_then (i ∷ is) t (suc k) h a = row_then is t k (omega arith) a.1

  pub table_row : (t : List Row) (is : List Item) (k : ℕ) → k < length is → All (λ (i : Item). P (row_of i)) is → P (row_at (put t 0 (map row_of is)) k)
  table_row t is k h a = row_then is (drop (0 + length (map row_of is)) t) k h a
