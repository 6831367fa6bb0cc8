-- No row holds on the line written for a record's line on which none does.
--     new_alts           the new ALT is right beside the new REF
--     new_two, written_count     it has as many alleles as the old
--     written_rows       no row holds on the written line, behind fewer than 512 records, the last not above the new POS
-- Assumes nothing.
use mathlib.Core.Bool.{Bool, true, false}
use mathlib.Core.List.{List, [], ◌∷◌, ◌++◌}
use mathlib.Core.Path.{◌≡◌, refl, sym, ap, ◌∙◌}
use Prim.Native.Nat.{ℕ, zero, suc, ◌+◌, ◌-◌, ◌≤◌, ◌<◌}
use native.Mathlib.Omega.{arith}
use borrow.Author.Tests.{ltb-false, le-ltb, le-leb, lt-leb, ne_eqb}
use lib.Dec.{T, lit<}
use lib.ListN.{length, take, drop}
use Rattle.bases.specs.declared.place.Pos.{Pos}
use Rattle.bases.specs.Letter.{letter_of, letter_among, bases_of}
use Rattle.bases.specs.Pick.{pick}
use Rattle.bases.specs.Reference.{Bases}
use Rattle.bases.specs.Same.{agree?, same?}
use Rattle.bases.specs.Stretch.{stretch}
use Rattle.bases.proofs.SameLaws.{same_iff}
use Rattle.bases.proofs.TestLaws.{is_true}
use Rattle.fields.specs.Allele.{is_allele?, alt_count, two_alts?}
use Rattle.fields.specs.Bytes.{LF, COMMA, hash, begins?}
use Rattle.fields.specs.Field.{field, ten_fields?}
use Rattle.records.specs.Record.{later_rows, longest_line, most_records, off_reference?, record_rows}
use Rattle.records.proofs.RecordLineLaws.{RecordLine, record_line}
use Rattle.records.proofs.AltLaws.{RightAlts, right_iff}
use Rattle.records.specs.Alt.{alt_rows}
use Rattle.bases.proofs.FirstLaws.{NoneHolds, none_join}
use Rattle.written.specs.Written.{new_on, new_pos, new_ref, new_first, new_second, new_alt, written_line}
use Rattle.written.proofs.AltLaws.{one_not_two, two_two, alts_one, alts_two}
use Rattle.written.proofs.FieldThenLaws.{line_record, field_some}
use Rattle.written.proofs.NewAlleles.{NewAlleles, new_alleles}
use Rattle.written.proofs.RecordEntryLaws.{ref_upper, first_letters}
use Rattle.written.proofs.WithoutLaws.{Without, without_letters}
use Rattle.written.proofs.WrittenLine.{written_0, written_3, written_4, written_more, written_ten, written_short, written_pos}

-- Whether a line begins so is told by a front of it.
begins_front : (f r s : List ℕ) → 1 ≤ length f → begins? hash (f ++ r) ≡ begins? hash (f ++ s)
unfolding agree?
begins_front [] r s h = absurd (omega arith)
begins_front (b ∷ f) r s h = rw (le-leb 1 (suc (length (f ++ r))) (omega arith), le-leb 1 (suc (length (f ++ s))) (omega arith))

pub take_own : (n : ℕ) (x : List ℕ) → take (length (take n x)) x ≡ take n x
take_own zero x = refl
take_own (suc n) [] = refl
take_own (suc n) (b ∷ x) = ap (λ (y : List ℕ). b ∷ y) (take_own n x)

module _ (reference l : List ℕ) (good : Bases reference) (one : Without LF l) (line : RecordLine reference l) where
  new : NewAlleles reference l
  new = new_alleles reference l good one line

  pub no_comma : Without COMMA (new_first reference l)
  unfolding letter_of letter_among
  no_comma = without_letters COMMA (new_first reference l) refl (first_letters reference l good one line)

  pub new_two : two_alts? (new_alt reference l) ≡ two_alts? (field 4 l)
  new_two = go (two_alts? (field 4 l))
    where
      go : (t : Bool) → two_alts? (pick t (new_first reference l ++ (COMMA ∷ new_second reference l)) (new_first reference l)) ≡ t
      go true = two_two (new_first reference l) no_comma (new_second reference l)
      go false = one_not_two (new_first reference l) no_comma

  pub new_alts : RightAlts (new_ref reference l) (new_alt reference l)
  new_alts = go (two_alts? (field 4 l)) (λ t. t)
    where
      go : (t : Bool) → (T t → T (two_alts? (field 4 l))) → RightAlts (new_ref reference l) (pick t (new_first reference l ++ (COMMA ∷ new_second reference l)) (new_first reference l))
      go true h = alts_two (new_first reference l) no_comma (new_second reference l) (new_ref reference l) new.first new.first_new (new.second (h tt)) (new.second_new (h tt)) (new.two (h tt))
      go false h = alts_one (new_first reference l) no_comma (new_ref reference l) new.first new.first_new

  abbrev m : List ℕ
  m = written_line reference l

  written_8 : field 8 m ≡ field 8 l
  written_8 = written_more reference l good one line 3

  written_9 : field 9 m ≡ field 9 l
  written_9 = written_more reference l good one line 4

  pub written_count : alt_count (field 4 m) ≡ alt_count (field 4 l)
  written_count = ap alt_count (written_4 reference l good one line) ∙ ap (λ (t : Bool). pick t 2 1) new_two

  begins_same : begins? hash m ≡ begins? hash l
  unfolding written_line
  begins_same = begins_front (field 0 l) _ _ (field_some l 0 line.ten (lit< tt)) ∙ ap (begins? hash) (sym (line_record l line.ten))

  on_reference : off_reference? reference (new_pos reference l) (new_ref reference l) ≡ false
  on_reference =
      let s = (new_on reference l).start.0 in
      let e : s + 1 - 1 ≡ s = omega arith in
      let own : stretch reference s (length (new_ref reference l)) ≡ new_ref reference l = take_own (new_on reference l).span (drop s reference) in
      rw (
        e,
        le-leb (s + length (new_ref reference l)) (length reference) (omega (arith, new.end, line.within)),
        own,
        is_true (same? (bases_of (new_ref reference l)) (new_ref reference l)) ((same_iff (bases_of (new_ref reference l)) (new_ref reference l)).1 (ref_upper reference l good one line)),
      )

module _ (reference name l : List ℕ) (records : ℕ) (last : Pos) (ok : Bases reference) (one : Without LF l) (z : NoneHolds (record_rows reference name records last l)) where
  line : RecordLine reference l
  line = record_line reference name records last l z

  pub written_rows : (n : ℕ) (before : Pos) → n < most_records → before.0 ≤ (new_pos reference l).0 → NoneHolds (record_rows reference name n before (written_line reference l))
  written_rows n before h k =
      let short = written_short reference l ok one line in
      let ten = is_true (ten_fields? (written_line reference l)) (written_ten reference l ok one line) in
      let pos = ap (λ (p : Pos). p.0) (written_pos reference l ok one line ok.short) in
      let ref = written_3 reference l ok one line in
      let rows = z.1.1.1.1 in
      let later = ((none_join (alt_rows l) (later_rows reference last l)).0 rows.1.1.1).1 in
      let m = written_line reference l in
      let alt : RightAlts (field 3 m) (field 4 m) = rw (ref, written_4 reference l ok one line) (new_alts reference l ok one line) in
      let behind : NoneHolds (later_rows reference before m) = (
        rw (written_8 reference l ok one line, written_9 reference l ok one line, written_count reference l ok one line) later.0,
        (
          rw (written_9 reference l ok one line) later.1.0,
          (rw (pos, ref) (on_reference reference l ok one line), (rw pos (le-ltb (new_pos reference l).0 before.0 k), tt)),
        ),
      ) in (
        le-ltb longest_line (length m) (omega (arith, ltb-false longest_line (length l) z.0)),
        (
          begins_same reference l ok one line ∙ z.1.0,
          (
            lt-leb most_records n h,
            (
              rw ten,
              (
                rw (written_0 reference l ok one line) rows.0,
                (
                  rw pos (ne_eqb (new_pos reference l).0 0 (λ e. omega arith)),
                  (
                    rw (ref, is_true (is_allele? (new_ref reference l)) (new reference l ok one line).ref),
                    (none_join (alt_rows m) (later_rows reference before m)).1 ((right_iff m).1 alt, behind),
                  ),
                ),
              ),
            ),
          ),
        ),
      )
