-- Laws of a record's rows.
--     format_wrong, format_right     row 11, by FORMAT
--     Copies, copies_right           what a genotype that is not wrong is
--     genotype_right                 the same of a line on which row 11 does not hold
--     no_alt                         its copies are 0 where its digits are
--     off_within                     row 13, where REF does not run past the reference
--     record_ten                     a line on which no row holds has ten fields
--     copies_read                    the same of a genotype that is read off it
--     reference_within, alt_within   REF and ALT end within the line
-- Assumes nothing.
use mathlib.Core.Bool.{Bool, true, false, not, ◌&&◌}
use mathlib.Core.List.{List}
use mathlib.Core.Path.{◌≡◌, refl, sym, ap, subst, ◌∙◌}
use Prim.Native.Nat.{ℕ, ◌+◌, ◌-◌, ◌≤◌, ◌<◌}
use native.Mathlib.Decide.{ℕ_discrete}
use native.Mathlib.Omega.{arith}
use borrow.Author.Tests.{le-leb, eq-eqb, ne_eqb, not-false}
use lib.Dec.{T, eqb, leb, eqb→eq, leb→le, lit<}
use lib.ListN.{length, get_or}
use Rattle.bases.specs.declared.place.Pos.{Pos}
use Rattle.bases.specs.Place.{place_of}
use Rattle.bases.specs.Letter.{bases_of}
use Rattle.bases.specs.Same.{agree?}
use Rattle.bases.specs.Stretch.{stretch}
use Rattle.bases.proofs.LetterLaws.{bases_length}
use Rattle.bases.proofs.StretchLaws.{stretch_same}
use Rattle.bases.proofs.TestLaws.{both, of_true}
use Rattle.fields.specs.Allele.{alt_count}
use Rattle.fields.specs.Bytes.{TAB}
use Rattle.fields.specs.Field.{field_at, field, ten_fields?}
use Rattle.fields.proofs.FieldLaws.{until_within, field_length, field_within, read}
use Rattle.fields.specs.Genotype.{format_wrong?, separator?, digit_to?, copies_wrong?, copy0, copy1}
use Rattle.fields.specs.Pos.{digit?}
use Rattle.records.specs.declared.line.Record.{Record}
use Rattle.records.specs.Record.{genotype_on, genotype_wrong?, no_alt?, off_reference?, record_rows}
use Rattle.records.specs.Row.{first_row}
use Rattle.records.proofs.RowLaws.{none_holds, record_rows_numbered}

pub format_wrong : (l : List ℕ) → format_wrong? (field 8 l) ≡ true → genotype_wrong? l ≡ true
format_wrong l e = rw e

pub format_right : (l : List ℕ) → format_wrong? (field 8 l) ≡ false → genotype_wrong? l ≡ copies_wrong? (alt_count (field 4 l)) (genotype_on l)
format_right l e = rw e

-- A genotype beside n ALTs: three bytes, of which the first and the last are digits.
pub record Copies (g : List ℕ) : Type 0 where
  pub long : length g ≡ 3
  pub first : 48 ≤ get_or g 0 0
  pub last : 48 ≤ get_or g 2 0

digit_from : (n b : ℕ) → T (digit_to? n b) → 48 ≤ b
digit_from n b t = leb→le 48 b ((both (leb 48 b) (leb b 57)).0 ((both (digit? b) (leb (b - 48) n)).0 t).0).0

pub copies_right : (n : ℕ) (g : List ℕ) → copies_wrong? n g ≡ false → Copies g
unfolding copies_wrong?
copies_right n g e =
    let s : Bool = separator? (get_or g 1 0) && digit_to? n (get_or g 2 0) in
    let t : Bool = digit_to? n (get_or g 0 0) && s in
    let a = (both (eqb (length g) 3) t).0 (of_true {t = eqb (length g) 3 && t} (not-false (eqb (length g) 3 && t) e)) in
    let b = (both (digit_to? n (get_or g 0 0)) s).0 a.1 in
    let d = (both (separator? (get_or g 1 0)) (digit_to? n (get_or g 2 0))).0 b.1 in
    record {
      long = eqb→eq _ _ a.0;
      first = digit_from n (get_or g 0 0) b.0;
      last = digit_from n (get_or g 2 0) d.1;
    }

pub genotype_right : (l : List ℕ) → genotype_wrong? l ≡ false → Copies (genotype_on l)
genotype_right l e = go (format_wrong? (field 8 l)) refl
  where
    go : (t : Bool) → format_wrong? (field 8 l) ≡ t → Copies (genotype_on l)
    go true f = let z : true ≡ false = sym (format_wrong l f) ∙ e in absurd (subst T z tt)
    go false f = copies_right (alt_count (field 4 l)) (genotype_on l) (sym (format_right l f) ∙ e)

-- a digit is 48 exactly if its value is 0
zero_digit : (b : ℕ) → 48 ≤ b → eqb b 48 ≡ eqb (b - 48) 0
zero_digit b h = go (ℕ_discrete b 48)
  where
    go : Dec (b ≡ 48) → eqb b 48 ≡ eqb (b - 48) 0
    go (yes e) = eq-eqb b 48 e ∙ sym (eq-eqb (b - 48) 0 (omega arith))
    go (no n) = ne_eqb b 48 n ∙ sym (ne_eqb (b - 48) 0 (λ e. n (omega arith)))

pub no_alt : (g : List ℕ) → Copies g → eqb (get_or g 0 0) 48 && eqb (get_or g 2 0) 48 ≡ eqb (copy0 g) 0 && eqb (copy1 g) 0
no_alt g w = rw (zero_digit (get_or g 0 0) w.first, zero_digit (get_or g 2 0) w.last)

pub off_within : (r : List ℕ) (pos : Pos) (a : List ℕ) → (place_of pos).0 + length a ≤ length r
    → not (agree? (stretch r (place_of pos).0 (length a)) (stretch (bases_of a) 0 (length a))) ≡ off_reference? r pos a
off_within r pos a h = rw (le-leb _ _ h) (ap not (stretch_same r (bases_of a) (place_of pos).0 (length a) h (bases_length a)))

-- where no row of a record's line holds, the line has its ten fields
pub record_ten : (r name : List ℕ) (records : ℕ) (last : Pos) (l : List ℕ) → (first_row (record_rows r name records last l)).number ≡ 0 → T (ten_fields? l)
record_ten r name records last l e =
    let none = none_holds (record_rows r name records last l) (record_rows_numbered r name records last l) e in
    of_true {t = ten_fields? l} (not-false (ten_fields? l) none.1.1.1.0)

pub copies_read : (l : List ℕ) → genotype_wrong? l ≡ false → {g : List ℕ} → g ≡ genotype_on l → Copies g
copies_read l right e = subst Copies (sym e) (genotype_right l right)

-- row 12, by the genotype that is read
pub no_alt_read : (l : List ℕ) {g : List ℕ} → g ≡ genotype_on l → Copies g → eqb (get_or g 0 0) 48 && eqb (get_or g 2 0) 48 ≡ no_alt? l
no_alt_read l {g} e w = no_alt g w ∙ ap (λ (x : List ℕ). eqb (copy0 x) 0 && eqb (copy1 x) 0) e

-- a field that is read ends within the line
field_ends : (l : List ℕ) (k a : ℕ) → T (ten_fields? l) → k < 10 → a ≡ field_at k l → a + length (field k l) ≤ length l
field_ends l k a ten h e = omega (arith, field_length l (field_at k l), field_within l k ten h, until_within TAB l (field_at k l))

pub reference_within : (r : Record) → r.fields.reference + length (field 3 r.line.now) ≤ length r.line.now
reference_within r = field_ends r.line.now 3 r.fields.reference (of_true r.ten) (lit< tt) (read r.line.now r.fields r.read).reference

pub alt_within : (r : Record) → r.fields.alt + length (field 4 r.line.now) ≤ length r.line.now
alt_within r = field_ends r.line.now 4 r.fields.alt (of_true r.ten) (lit< tt) (read r.line.now r.fields r.read).alt
