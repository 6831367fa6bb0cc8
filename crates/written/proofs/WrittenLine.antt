-- The line written for a record's line on which no row holds: its fields, and its length.
--     pos_without, ref_without, alt_is_without     the new fields hold only digits, letters and a comma
--     written_0 .. written_4, written_more, written_rest, written_ten     the fields of the written line
--     written_pos                   its POS is the new one
--     written_short                 it is not longer than the line read
-- Assumes nothing.
use mathlib.Core.Bool.{Bool, true, false}
use mathlib.Core.List.{List, ◌∷◌, ◌++◌}
use mathlib.Core.Logic.{⊎_elim}
use mathlib.Core.Path.{◌≡◌, refl, sym, ap, subst, ◌∙◌}
use Prim.Native.Nat.{ℕ, suc, ◌+◌, ◌≤◌, ◌<◌}
use native.Mathlib.Omega.{arith}
use lib.Dec.{T, eqb, ltb→lt, lit<}
use lib.ListN.{length, drop, length-append, length-drop}
use lib.Seq.{length-take-le}
use Rattle.bases.specs.Letter.{letter_of, letter_among, is_letter?}
use Rattle.bases.specs.Pick.{pick}
use Rattle.bases.specs.Reference.{Bases, longest_reference}
use Rattle.fields.specs.Allele.{first_alt, two_alts?}
use Rattle.fields.specs.Bytes.{LF, TAB, COMMA, until}
use Rattle.fields.specs.Field.{field, field_at, ten_fields?}
use Rattle.fields.specs.Pos.{digit?, read_pos}
use Rattle.records.specs.Record.{pos_on}
use Rattle.fields.proofs.BytesLaws.{until_le}
use Rattle.records.proofs.RecordLineLaws.{RecordLine}
use Rattle.written.specs.Written.{decimal, new_pos, new_ref, new_first, new_second, new_alt, written_line}
use Rattle.written.proofs.DecimalLaws.{decimal_digits, decimal_pos, decimal_some, decimal_read, decimal_le, decimal_add}
use Rattle.written.proofs.FieldThenLaws.{line_record, field_0, field_1, field_2, field_3, field_4, field_more, rest_5, ten_fields, field_some, record_length}
use Rattle.written.proofs.NewAlleles.{NewAlleles, new_alleles}
use Rattle.written.proofs.RecordEntryLaws.{allele, ref_letters, first_letters, second_letters}
use Rattle.normal.proofs.RunLaws.{le_or_lt}
use Rattle.written.proofs.WithoutLaws.{Without, without_cons, without_append, without_until, without_letters, without_digits}

-- ALT holds only letters, and a comma between two.
alt_without : (x : ℕ) (t : Bool) (a b : List ℕ) → eqb COMMA x ≡ false → Without x a → Without x b → Without x (pick t (a ++ (COMMA ∷ b)) a)
alt_without x true a b e h k = without_append x a (COMMA ∷ b) h (without_cons x COMMA b e k)
alt_without x false a b e h k = h

module _ (reference l : List ℕ) (good : Bases reference) (one : Without LF l) (line : RecordLine reference l) where
  -- POS, REF and ALT as they are written.
  abbrev pos : List ℕ
  pos = decimal (new_pos reference l).0

  abbrev ref : List ℕ
  ref = new_ref reference l

  abbrev alt : List ℕ
  alt = new_alt reference l

  abbrev rest : List ℕ
  rest = drop (field_at 5 l) l

  new : NewAlleles reference l
  new = new_alleles reference l good one line

  field_free : (k : ℕ) → Without TAB (field k l)
  field_free k = without_until TAB (drop (field_at k l) l)

  -- They hold no byte x that is no letter, no digit and no comma.
  pub pos_without : (x : ℕ) → digit? x ≡ false → Without x pos
  pos_without x n = without_digits x pos n (decimal_digits (new_pos reference l).0)

  pub ref_without : (x : ℕ) → is_letter? x ≡ false → Without x ref
  ref_without x n = without_letters x ref n (ref_letters reference l good one line)

  pub alt_is_without : (x : ℕ) → is_letter? x ≡ false → eqb COMMA x ≡ false → Without x alt
  alt_is_without x n c =
      alt_without x (two_alts? (field 4 l)) (new_first reference l) (new_second reference l) c
      (without_letters x (new_first reference l) n (first_letters reference l good one line))
      (without_letters x (new_second reference l) n (second_letters reference l good one line))

  pos_free : Without TAB pos
  pos_free = pos_without TAB refl

  ref_free : Without TAB ref
  unfolding letter_of letter_among
  ref_free = ref_without TAB refl

  alt_free : Without TAB alt
  unfolding letter_of letter_among
  alt_free = alt_is_without TAB refl refl

  abbrev m : List ℕ
  m = written_line reference l

  pub written_0 : field 0 m ≡ field 0 l
  unfolding written_line
  written_0 = field_0 (field 0 l) pos (field 2 l) ref alt rest (field_free 0) pos_free (field_free 2) ref_free alt_free

  pub written_1 : field 1 m ≡ pos
  unfolding written_line
  written_1 = field_1 (field 0 l) pos (field 2 l) ref alt rest (field_free 0) pos_free (field_free 2) ref_free alt_free

  pub written_2 : field 2 m ≡ field 2 l
  unfolding written_line
  written_2 = field_2 (field 0 l) pos (field 2 l) ref alt rest (field_free 0) pos_free (field_free 2) ref_free alt_free

  pub written_3 : field 3 m ≡ ref
  unfolding written_line
  written_3 = field_3 (field 0 l) pos (field 2 l) ref alt rest (field_free 0) pos_free (field_free 2) ref_free alt_free

  pub written_4 : field 4 m ≡ alt
  unfolding written_line
  written_4 = field_4 (field 0 l) pos (field 2 l) ref alt rest (field_free 0) pos_free (field_free 2) ref_free alt_free

  pub written_more : (k : ℕ) → field (suc (suc (suc (suc (suc k))))) m ≡ field (suc (suc (suc (suc (suc k))))) l
  unfolding written_line
  written_more k =
      field_more (field 0 l) pos (field 2 l) ref alt rest (field_free 0) pos_free (field_free 2) ref_free alt_free k
      ∙ sym (field_more (field 0 l) (field 1 l) (field 2 l) (field 3 l) (field 4 l) rest (field_free 0) (field_free 1) (field_free 2) (field_free 3) (field_free 4) k)
      ∙ ap (field (suc (suc (suc (suc (suc k)))))) (sym (line_record l line.ten))

  pub written_rest : drop (field_at 5 m) m ≡ rest
  unfolding written_line
  written_rest = rest_5 (field 0 l) pos (field 2 l) ref alt rest (field_free 0) pos_free (field_free 2) ref_free alt_free

  ref_some : 1 ≤ length ref
  ref_some = (allele ref new.ref).some

  alt_some : 1 ≤ length alt
  alt_some = go (two_alts? (field 4 l))
    where
      go : (t : Bool) → 1 ≤ length (pick t (new_first reference l ++ (COMMA ∷ new_second reference l)) (new_first reference l))
      go true = omega (arith, length-append (new_first reference l) (COMMA ∷ new_second reference l), new.first_some)
      go false = new.first_some

  pub written_ten : T (ten_fields? m)
  unfolding written_line
  written_ten =
      let some : (k : ℕ) → k < 10 → 1 ≤ length (field k l) = λ k h. field_some l k line.ten h in
      let a = ten_fields (field 0 l) pos (field 2 l) ref alt rest (field_free 0) pos_free (field_free 2) ref_free alt_free
      (some 0 (lit< tt)) (decimal_some (new_pos reference l).0) (some 2 (lit< tt)) ref_some alt_some in
      let b = ten_fields (field 0 l) (field 1 l) (field 2 l) (field 3 l) (field 4 l) rest (field_free 0) (field_free 1) (field_free 2) (field_free 3) (field_free 4)
      (some 0 (lit< tt)) (some 1 (lit< tt)) (some 2 (lit< tt)) (some 3 (lit< tt)) (some 4 (lit< tt)) in
      subst T (ap ten_fields? (line_record l line.ten) ∙ b ∙ sym a) line.ten

  pos_length : length pos + length ref ≤ length (field 1 l) + length (field 3 l)
  pos_length = ⊎_elim left right (le_or_lt (new_pos reference l).0 (pos_on l).0)
    where
      old : length (decimal (pos_on l).0) ≡ length (field 1 l)
      old = ap length (decimal_read (field 1 l) line.pos)

      left : (new_pos reference l).0 ≤ (pos_on l).0 → length pos + length ref ≤ length (field 1 l) + length (field 3 l)
      left h = omega (arith, decimal_le (new_pos reference l).0 (pos_on l).0 h, old, new.ref_short)

      right : (pos_on l).0 < (new_pos reference l).0 → length pos + length ref ≤ length (field 1 l) + length (field 3 l)
      right h = omega (arith, decimal_add (pos_on l).0 (new_pos reference l).0 (omega arith), old, new.end, line.pos)

  alt_short : length alt ≤ length (field 4 l)
  alt_short = go (two_alts? (field 4 l)) (λ t. t)
    where
      firsts : length (first_alt (field 4 l)) ≡ until COMMA (field 4 l)
      firsts = length-take-le (until COMMA (field 4 l)) (field 4 l) (until_le COMMA (field 4 l))

      go : (t : Bool) → (T t → T (two_alts? (field 4 l))) → length (pick t (new_first reference l ++ (COMMA ∷ new_second reference l)) (new_first reference l)) ≤ length (field 4 l)
      go true h =
          omega (
            arith,
            length-append (new_first reference l) (COMMA ∷ new_second reference l),
            new.first_short,
            new.second_short (h tt),
            firsts,
            length-drop (until COMMA (field 4 l) + 1) (field 4 l),
            ltb→lt (until COMMA (field 4 l)) (length (field 4 l)) (h tt),
          )
      go false h = omega (arith, new.first_short, firsts, until_le COMMA (field 4 l))

  pub written_short : length m ≤ length l
  unfolding written_line
  written_short =
      omega (
        arith,
        record_length (field 0 l) pos (field 2 l) ref alt rest,
        record_length (field 0 l) (field 1 l) (field 2 l) (field 3 l) (field 4 l) rest,
        ap length (line_record l line.ten),
        pos_length,
        alt_short,
      )

  module _ (fits : length reference ≤ longest_reference) where
    pub written_pos : pos_on m ≡ new_pos reference l
    written_pos = ap read_pos written_1 ∙ decimal_pos (new_pos reference l) (omega arith) (omega (arith, new.end, ref_some, line.within))
