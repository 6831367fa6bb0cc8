-- What a record's line is on which no row holds, in document 01's words.
--     RecordLine, record_line         what the line is; it is that where no row holds on it
--     record_order                    its POS is not below that of the record before
-- Assumes nothing.
use mathlib.Core.Bool.{false, ◌&&◌}
use mathlib.Core.List.{List}
use mathlib.Core.Path.{◌≡◌}
use Prim.Native.Nat.{ℕ, ◌+◌, ◌≤◌}
use native.Mathlib.Omega.{arith}
use borrow.Author.Tests.{eqb-false, ltb-false, not-false}
use lib.Dec.{T, leb, leb→le}
use lib.ListN.{length}
use Rattle.bases.specs.declared.place.Pos.{Pos}
use Rattle.bases.specs.Place.{place_of}
use Rattle.bases.specs.Letter.{bases_of}
use Rattle.bases.specs.Same.{same?}
use Rattle.bases.specs.Stretch.{stretch}
use Rattle.bases.proofs.FirstLaws.{NoneHolds, none_join}
use Rattle.bases.proofs.SameLaws.{same_iff}
use Rattle.bases.proofs.TestLaws.{of_true, both}
use Rattle.fields.specs.Allele.{is_allele?}
use Rattle.fields.specs.Field.{field, ten_fields?}
use Rattle.records.specs.Alt.{alt_rows}
use Rattle.records.specs.Record.{pos_on, genotype_wrong?, no_alt?, later_rows, record_rows}
use Rattle.records.proofs.AltLaws.{RightAlts, right_iff}

-- A record of a list on this reference.
pub record RecordLine (reference l : List ℕ) : Type 0 where
  pub ten : T (ten_fields? l)
  pub pos : 1 ≤ (pos_on l).0
  pub ref : T (is_allele? (field 3 l))
  pub alts : RightAlts (field 3 l) (field 4 l)
  pub genotype : genotype_wrong? l ≡ false
  pub copied : no_alt? l ≡ false
  -- REF equals the reference at POS
  pub within : (place_of (pos_on l)).0 + length (field 3 l) ≤ length reference
  pub same : bases_of (field 3 l) ≡ stretch reference (place_of (pos_on l)).0 (length (field 3 l))

pub record_line : (reference name : List ℕ) (records : ℕ) (last : Pos) (l : List ℕ) → NoneHolds (record_rows reference name records last l) → RecordLine reference l
record_line reference name records last l z =
    let ref = field 3 l in
    let at = stretch reference (place_of (pos_on l)).0 (length ref) in
    let rows = z.1.1.1 in
    let alt = (none_join (alt_rows l) (later_rows reference last l)).0 rows.1.1.1.1 in
    let behind = alt.1 in
    let on = (both (leb ((place_of (pos_on l)).0 + length ref) (length reference)) (same? (bases_of ref) at)).0
    (of_true (not-false (leb ((place_of (pos_on l)).0 + length ref) (length reference) && same? (bases_of ref) at) behind.1.1.0)) in
    let some = eqb-false (pos_on l).0 0 rows.1.1.0 in
    record {
      ten = of_true (not-false (ten_fields? l) rows.0);
      pos = omega arith;
      ref = of_true (not-false (is_allele? ref) rows.1.1.1.0);
      alts = (right_iff l).0 alt.0;
      genotype = behind.0;
      copied = behind.1.0;
      within = leb→le _ _ on.0;
      same = (same_iff (bases_of ref) at).0 on.1;
    }

pub record_order : (reference name : List ℕ) (records : ℕ) (last : Pos) (l : List ℕ) → NoneHolds (record_rows reference name records last l) → last.0 ≤ (pos_on l).0
record_order reference name records last l z =
    let later = ((none_join (alt_rows l) (later_rows reference last l)).0 z.1.1.1.1.1.1.1).1 in
    ltb-false (pos_on l).0 last.0 later.1.1.1.0
