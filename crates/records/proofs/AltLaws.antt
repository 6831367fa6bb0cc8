-- Laws of ALT on a record's line.
--     RightAlts, right_iff     what ALT is; it is that exactly where no row on it holds
--     AltRead, alt_read        what is read off a line for it
--     alts_first, alts_one, alts_second, alts_equal, alts_none
--                              what is told: a row of the first allele; none, with one allele; a row of the second; row 23; none
-- Assumes nothing.
use mathlib.Core.Bool.{Bool, true, false, not, ◌&&◌}
use mathlib.Core.List.{List, [], ◌∷◌, ◌++◌}
use mathlib.Core.Logic.{◌↔◌, ◌≢◌}
use mathlib.Core.Path.{◌≡◌, refl, sym, ap, ◌∙◌}
use Prim.Native.Nat.{ℕ, ◌+◌, ◌-◌, ◌≤◌, ◌<◌}
use native.Mathlib.Omega.{arith}
use borrow.Author.Tests.{lt-ltb, le-ltb, not-false}
use lib.Dec.{T, ltb}
use lib.ListN.{length, take, drop}
use Rattle.bases.specs.Letter.{all_letters?}
use Rattle.bases.specs.Same.{same_bases?}
use Rattle.bases.proofs.FirstLaws.{NoneHolds, none_join}
use Rattle.bases.proofs.PartLaws.{tail_part}
use Rattle.bases.proofs.TestLaws.{both, of_true, is_true}
use Rattle.fields.specs.Allele.{right_size?, is_allele?, first_alt, two_alts?, second_alt}
use Rattle.fields.specs.Bytes.{COMMA, until}
use Rattle.fields.specs.Field.{field_at, field}
use Rattle.fields.proofs.FieldLaws.{read}
use Rattle.records.specs.Alt.{first_at, second_at, allele_rows, alt_rows}
use Rattle.records.specs.declared.line.Record.{Record}
use Rattle.records.specs.declared.row.LineFault.{LineFault}
use Rattle.records.specs.Row.{Row, line_fault, no_fault, row_at, first_row}
use Rattle.records.proofs.RowLaws.{numbered, none_holds, first_row_holds, first_row_past, first_row_none, first_row_keeps}

-- An allele that differs from REF.
abbrev New : List ℕ → List ℕ → Type 0
New ref a = T (is_allele? a) × (same_bases? a ref ≡ false)

-- One allele, or two that differ; each differs from REF.
pub record RightAlts (ref f : List ℕ) : Type 0 where
  pub first : T (is_allele? (first_alt f))
  pub first_new : same_bases? (first_alt f) ref ≡ false
  pub second : T (two_alts? f) → T (is_allele? (second_alt f))
  pub second_new : T (two_alts? f) → same_bases? (second_alt f) ref ≡ false
  pub two_new : T (two_alts? f) → same_bases? (second_alt f) (first_alt f) ≡ false

module _ (at : ℕ) (ref a : List ℕ) where
  rows_iff : (there : Bool) → NoneHolds (allele_rows there at ref a) ↔ (T there → New ref a)
  rows_iff true = (
    λ n t. ((both (right_size? a) (all_letters? a)).1 (of_true (not-false (right_size? a) n.0), of_true (not-false (all_letters? a) n.1.0)), n.1.1.0),
    λ f.
        let s = (both (right_size? a) (all_letters? a)).0 (f tt).0 in
        (ap not (is_true (right_size? a) s.0), (ap not (is_true (all_letters? a) s.1), ((f tt).1, tt))),
  )
  rows_iff false = (λ n t. absurd t, λ f. (refl, (refl, (refl, tt))))

  equal_iff : (number : ℕ) (there : Bool) → NoneHolds (row_at number at (there && same_bases? a ref) ∷ []) ↔ (T there → same_bases? a ref ≡ false)
  equal_iff number true = (λ n t. n.0, λ f. (f tt, tt))
  equal_iff number false = (λ n t. absurd t, λ f. (refl, tt))

module _ (l : List ℕ) where
  abbrev ref : List ℕ
  ref = field 3 l

  abbrev f : List ℕ
  f = field 4 l

  -- The rows of the first allele, of the second, and row 23.
  abbrev first_rows : List Row
  first_rows = allele_rows true (first_at l) ref (first_alt f)

  abbrev second_rows : List Row
  second_rows = allele_rows (two_alts? f) (second_at l) ref (second_alt f)

  abbrev equal_row : List Row
  equal_row = row_at 23 (second_at l) (two_alts? f && same_bases? (second_alt f) (first_alt f)) ∷ []

  pub right_iff : NoneHolds (alt_rows l) ↔ RightAlts ref f
  right_iff = (to, of)
    where
      to : NoneHolds (alt_rows l) → RightAlts ref f
      to n =
          let one = (none_join first_rows (second_rows ++ equal_row)).0 n in
          let two = (none_join second_rows equal_row).0 one.1 in
          let a = (rows_iff (first_at l) ref (first_alt f) true).0 one.0 tt in
          let b = (rows_iff (second_at l) ref (second_alt f) (two_alts? f)).0 two.0 in
          record {
            first = a.0;
            first_new = a.1;
            second = λ t. (b t).0;
            second_new = λ t. (b t).1;
            two_new = (equal_iff (second_at l) (first_alt f) (second_alt f) 23 (two_alts? f)).0 two.1;
          }

      of : RightAlts ref f → NoneHolds (alt_rows l)
      of r =
          (none_join first_rows (second_rows ++ equal_row)).1 (
            (rows_iff (first_at l) ref (first_alt f) true).1 (λ t. (r.first, r.first_new)),
            (none_join second_rows equal_row).1 (
              (rows_iff (second_at l) ref (second_alt f) (two_alts? f)).1 (λ t. (r.second t, r.second_new t)),
              (equal_iff (second_at l) (first_alt f) (second_alt f) 23 (two_alts? f)).1 r.two_new,
            ),
          )

-- The place of ALT, REF and ALT as they are read off the line, and where the first comma of ALT was found.
pub record AltRead (l : List ℕ) (a : ℕ) (ref f : List ℕ) (e : ℕ) : Type 0 where
  pub place : a ≡ field_at 4 l
  pub ref_is : ref ≡ field 3 l
  pub alt_is : f ≡ field 4 l
  pub found : e ≡ until COMMA f

pub alt_read : (r : Record) {ref f : List ℕ} {e : ℕ} → ref ≡ field 3 r.line.now → f ≡ field 4 r.line.now → e ≡ 0 + until COMMA (drop 0 f) → AltRead r.line.now r.fields.alt ref f e
alt_read r er ef ee = record { place = (read r.line.now r.fields r.read).alt; ref_is = er; alt_is = ef; found = omega (arith, ee) }

module _ {l : List ℕ} {a : ℕ} {ref f : List ℕ} {e : ℕ} (r : AltRead l a ref f e) where
  -- The bytes behind the one at e, as a part of a slice.
  abbrev behind : List ℕ
  behind = take (length f - (e + 1)) (drop (e + 1) f)

  first_same : first_row (allele_rows true a ref (take e f)) ≡ first_row (first_rows l)
  first_same = cc

  second_same : first_row (allele_rows true (a + e + 1) ref behind) ≡ first_row (allele_rows true (second_at l) (field 3 l) (second_alt (field 4 l)))
  second_same = let t = tail_part f (e + 1) in cc

  equal_same : same_bases? behind (take e f) ≡ same_bases? (second_alt (field 4 l)) (first_alt (field 4 l))
  equal_same = let t = tail_part f (e + 1) in cc

  second_place : a + e + 1 ≡ second_at l
  second_place = cc

  one : length f ≤ e → two_alts? (field 4 l) ≡ false
  one h = let z : ltb e (length f) ≡ false = le-ltb e (length f) h in cc

  two : e < length f → two_alts? (field 4 l) ≡ true
  two h = let z : ltb e (length f) ≡ true = lt-ltb e (length f) h in cc

  module _ (x : LineFault) (told : x ≡ first_row (allele_rows true a ref (take e f))) where
    pub alts_first : x.number ≢ 0 → x ≡ first_row (alt_rows l)
    alts_first n =
        let k = told ∙ first_same in
        k ∙ sym (first_row_keeps (first_rows l) (second_rows l ++ equal_row l) (λ z. n (ap (λ (y : LineFault). y.number) k ∙ z)))

    module _ (zero : x.number ≡ 0) where
      past : first_row (alt_rows l) ≡ first_row (second_rows l ++ equal_row l)
      past =
          first_row_past (first_rows l) (second_rows l ++ equal_row l)
          (none_holds (first_rows l) (numbered (first_rows l) tt) (ap (λ (y : LineFault). y.number) (sym (told ∙ first_same)) ∙ zero))

      pub alts_one : length f ≤ e → no_fault ≡ first_row (alt_rows l)
      alts_one h = sym (past ∙ first_row_none (second_rows l ++ equal_row l) (rw (one h) (refl, (refl, (refl, (refl, tt))))))

      module _ (h : e < length f) (y : LineFault) (told' : y ≡ first_row (allele_rows true (a + e + 1) ref behind)) where
        second_told : y ≡ first_row (second_rows l)
        second_told = rw (two h) (told' ∙ second_same)

        pub alts_second : y.number ≢ 0 → y ≡ first_row (alt_rows l)
        alts_second n = second_told ∙ sym (past ∙ first_row_keeps (second_rows l) (equal_row l) (λ z. n (ap (λ (u : LineFault). u.number) second_told ∙ z)))

        module _ (zero' : y.number ≡ 0) where
          last : first_row (alt_rows l) ≡ first_row (equal_row l)
          last =
              past
              ∙ first_row_past (second_rows l) (equal_row l)
              (none_holds (second_rows l) (numbered (second_rows l) tt) (ap (λ (u : LineFault). u.number) (sym second_told) ∙ zero'))

          pub alts_equal : same_bases? behind (take e f) ≡ true → line_fault 23 (a + e + 1) ≡ first_row (alt_rows l)
          alts_equal s =
              ap (line_fault 23) second_place
              ∙ sym (last ∙ first_row_holds _ [] (rw (two h) (sym equal_same ∙ s)))

          pub alts_none : same_bases? behind (take e f) ≡ false → no_fault ≡ first_row (alt_rows l)
          alts_none s = sym (last ∙ first_row_none (equal_row l) (rw (two h) (sym equal_same ∙ s, tt)))
