-- A name that is longer than a line is no record's CHROM, and neither is the empty name.
--     long_judged    so a list has the same first fault for either
-- Assumes nothing.
use mathlib.Core.Bool.{Bool, true, false, not}
use mathlib.Core.List.{List, [], ◌∷◌}
use mathlib.Core.Path.{◌≡◌, refl, ap}
use Prim.Native.Nat.{ℕ, ◌+◌, ◌≤◌, ◌<◌}
use native.Mathlib.Omega.{arith}
use borrow.Author.Tests.{ne_eqb, ltb-false}
use lib.ListN.{length, drop}
use Rattle.bases.proofs.TestLaws.{of_true, of_false}
use Rattle.bases.specs.Same.{same?}
use Rattle.fields.proofs.FieldLaws.{until_within, field_length, skip_zero, full_stop}
use Rattle.vcf.specs.declared.list.Stage.{Stage}
use Rattle.vcf.specs.declared.list.Stage.TheVariants.{Above, Below}
use Rattle.fields.specs.Bytes.{TAB, until}
use Rattle.fields.specs.Field.{field_at, field_from, field, field_count, ten_fields?}
use Rattle.vcf.specs.List.{lines_of, above, next_stage, line_rows, judge_lines, judge_text}
use Rattle.records.specs.Record.{longest_line, too_long?, chrom_wrong?}
use Rattle.bases.specs.First.{first_told}
use Rattle.records.specs.Row.{Row, row, first_row}

other : (a b : List ℕ) → (length a ≡ length b → ⊥) → not (same? a b) ≡ true
other a b h = rw (ne_eqb (length a) (length b) h)

empty_wrong : (l : List ℕ) → ten_fields? l ≡ true → chrom_wrong? [] l ≡ true
empty_wrong l e = other [] (field 0 l) (λ z. of_false (full_stop field_count l 0 (omega arith) (none z)) (of_true e))
  where
    none : 0 ≡ length (field 0 l) → 0 + until TAB (drop 0 l) ≤ 0
    none z = omega (arith, ap (λ (a : ℕ). length (field_from l a)) (skip_zero l 0), field_length l 0)

module _ (name : List ℕ) (long : longest_line < length name) where
  long_wrong : (l : List ℕ) → too_long? l ≡ false → chrom_wrong? name l ≡ true
  long_wrong l e = other name (field 0 l) (λ z. omega (arith, ltb-false longest_line (length l) e, field_length l (field_at 0 l), until_within TAB l (field_at 0 l)))

  line_same : (l : List ℕ) (a b : Row) (more : List Row) (t4 : Bool) → too_long? l ≡ t4 → (t6 : Bool) → ten_fields? l ≡ t6
      → first_row (row 4 t4 ∷ a ∷ b ∷ row 6 (not t6) ∷ row 7 (chrom_wrong? name l) ∷ more) ≡ first_row (row 4 t4 ∷ a ∷ b ∷ row 6 (not t6) ∷ row 7 (chrom_wrong? [] l) ∷ more)
  unfolding first_told
  line_same l a b more true e t6 e6 = refl
  line_same l a b more false e false e6 = refl
  line_same l a b more false e true e6 = rw (long_wrong l e, empty_wrong l e6)

  rows_same : (reference : List ℕ) (s : Stage) (n : ℕ) (l : List ℕ) → first_row (line_rows reference name s n l) ≡ first_row (line_rows reference [] s n l)
  rows_same reference Above n l = refl
  rows_same reference (Below records last) n l = line_same l _ _ _ (too_long? l) refl (ten_fields? l) refl

  lines_same : (reference : List ℕ) (s : Stage) (n : ℕ) (ls : List (List ℕ)) → judge_lines reference name s n ls ≡ judge_lines reference [] s n ls
  unfolding judge_lines
  lines_same reference s n [] = refl
  lines_same reference s n (l ∷ ls) = rw (rows_same reference s n l, lines_same reference (next_stage s l) (n + 1) ls)

  pub long_judged : (reference t : List ℕ) → judge_text reference name t ≡ judge_text reference [] t
  unfolding judge_text
  long_judged reference t = rw (lines_same reference above 1 (lines_of t))
