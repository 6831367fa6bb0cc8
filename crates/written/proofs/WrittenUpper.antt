-- REF and the ALTs of a written line, where it stands in a text, are in upper case.
--     ref_upper_in                         REF is the reference's bases at POS
--     first_upper_in, second_upper_in      the ALTs
-- Assumes nothing.
use mathlib.Core.Bool.{Bool, true, false}
use mathlib.Core.List.{List}
use mathlib.Core.Path.{◌≡◌, refl, sym, ap, ◌∙◌}
use Prim.Native.Nat.{ℕ, ◌+◌, ◌-◌}
use native.Mathlib.Omega.{arith}
use borrow.Author.Tests.{ltb-false}
use lib.Dec.{T, lit<}
use lib.ListN.{length, take, drop}
use Rattle.bases.specs.Letter.{bases_of}
use Rattle.bases.specs.Place.{place_of}
use Rattle.bases.specs.Reference.{Bases}
use Rattle.bases.specs.Stretch.{stretch}
use Rattle.bases.proofs.TestLaws.{of_true}
use Rattle.fields.specs.Allele.{first_alt, two_alts?, second_alt}
use Rattle.fields.specs.Bytes.{LF, COMMA, until}
use Rattle.fields.specs.Field.{field, field_at, ten_fields?}
use Rattle.fields.specs.Pos.{no_pos}
use Rattle.vcf.specs.Entry.{line_at, bytes_of, entry_of}
use Rattle.vcf.proofs.PartLaws.{reference_within, reference_bytes}
use Rattle.records.specs.Record.{pos_on}
use Rattle.records.proofs.RecordLineLaws.{RecordLine, record_line}
use Rattle.normal.specs.Spelled.{Stands}
use Rattle.written.specs.Written.{new_first, new_second, written_line}
use Rattle.written.proofs.RecordEntryLaws.{self, line_stands, in_second, first_is, second_is, ref_upper, first_upper, second_upper}
use Rattle.written.proofs.WithoutLaws.{Without}
use Rattle.written.proofs.WrittenAgain.{written_free, alt_first, alt_second, two_written}
use Rattle.written.proofs.WrittenForms.{bytes_in}
use Rattle.written.proofs.WrittenLine.{written_3, written_4}
use Rattle.written.proofs.WrittenList.{Read}

module _ (reference name : List ℕ) (ok : Bases reference) (w l : List ℕ) (r : Read reference name ok l) where
  abbrev m : List ℕ
  m = written_line reference l

  line : RecordLine reference m
  line = record_line reference name 0 no_pos m (r.rows 0 no_pos (lit< tt) (omega arith))

  free : Without LF m
  free = written_free reference l ok r.free r.line

  stands : Stands reference m (entry_of m 0)
  stands = line_stands reference m ok free line

  -- The written line stands at b in w.
  module _ (b : ℕ) (there : take (length m) (drop b w) ≡ m) where
    ref_written : bytes_of w (entry_of m b).reference ≡ field 3 m
    ref_written =
        let whole = self reference m ok free line in
        let ten : T (ten_fields? (line_at m 0)) = rw whole line.ten in
        let within = rw whole at (reference_within m 0 (omega arith) ten) in
        bytes_in w b m there (field_at 3 m) (b + field_at 3 m) (0 + field_at 3 m) (length (field 3 m)) refl (omega arith) (omega (arith, within))
        ∙ (rw whole at (reference_bytes m 0 (omega arith) ten))

    -- REF and the ALTs as they stand there are what is written, and so in upper case.
    first_written : bytes_of w (entry_of m b).first ≡ new_first reference l
    first_written =
        bytes_in w b m there (field_at 4 m) (b + field_at 4 m) (0 + field_at 4 m) (until COMMA (field 4 m)) refl (omega arith) (omega (arith, stands.first.1))
        ∙ first_is reference m ok free line ∙ ap first_alt (written_4 reference l ok r.free r.line) ∙ alt_first reference l ok r.free r.line

    second_written : T (two_alts? (field 4 m)) → bytes_of w (entry_of m b).second ≡ new_second reference l
    second_written two =
        let at = field_at 4 m + until COMMA (field 4 m) + 1 in
        let old : T (two_alts? (field 4 l)) = rw (two_written reference l ok r.free r.line ok.short line) at two in
        bytes_in w b m there at (entry_of m b).second.at (entry_of m 0).second.at (entry_of m 0).second.len (omega arith) (omega arith)
        (omega (arith, (in_second reference m ok free line two).1))
        ∙ second_is reference m ok free line two ∙ ap second_alt (written_4 reference l ok r.free r.line) ∙ alt_second reference l ok r.free r.line old

    ref_is_upper : bases_of (field 3 m) ≡ field 3 m
    ref_is_upper = let e = written_3 reference l ok r.free r.line in ap bases_of e ∙ ref_upper reference l ok r.free r.line ∙ sym e

    pub second_upper_in : bases_of (bytes_of w (entry_of m b).second) ≡ bytes_of w (entry_of m b).second
    second_upper_in = go (two_alts? (field 4 m)) refl
      where
        go : (t : Bool) → two_alts? (field 4 m) ≡ t → bases_of (bytes_of w (entry_of m b).second) ≡ bytes_of w (entry_of m b).second
        go true e =
            let s = second_written (of_true e) in
            ap bases_of s ∙ second_upper reference l ok r.free r.line ∙ sym s
        go false e =
            let none : length (field 4 m) - (until COMMA (field 4 m) + 1) ≡ 0 = omega (arith, ltb-false (until COMMA (field 4 m)) (length (field 4 m)) e) in
            rw none

    pub ref_upper_in : bytes_of w (entry_of m b).reference ≡ stretch reference (place_of (pos_on m)).0 (length (field 3 m))
    ref_upper_in = ref_written ∙ sym ref_is_upper ∙ line.same

    pub first_upper_in : bases_of (bytes_of w (entry_of m b).first) ≡ bytes_of w (entry_of m b).first
    first_upper_in = ap bases_of first_written ∙ first_upper reference l ok r.free r.line ∙ sym first_written
