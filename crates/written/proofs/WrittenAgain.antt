-- The line written for a record's line: the entry on it is the normal form of the entry read, and it is written as it stands.
--     written_free          it holds no LF
--     alt_first, alt_second its ALTs are those of the normal form
--     written_form          the entry on it is the normal form
--     written_again         it is written as it stands
-- Assumes nothing.
use mathlib.Core.Bool.{Bool, true, false}
use mathlib.Core.List.{List, [], ◌∷◌, ◌++◌}
use mathlib.Core.Path.{◌≡◌, refl, sym, ap, subst, ◌∙◌}
use Prim.Native.Nat.{ℕ, ◌≤◌}
use lib.Dec.{T, eqb}
use lib.ListN.{length, drop}
use Rattle.bases.proofs.PlaceLaws.{place_of_pos}
use Rattle.bases.specs.declared.place.Place.{Place}
use Rattle.bases.specs.Place.{place_of}
use Rattle.bases.specs.Letter.{letter_of, letter_among, bases_of}
use Rattle.bases.specs.Pick.{pick}
use Rattle.bases.specs.Stretch.{stretch}
use Rattle.bases.specs.Reference.{Bases, longest_reference}
use Rattle.fields.specs.Allele.{alt_count, first_alt, two_alts?, second_alt}
use Rattle.fields.specs.Bytes.{LF, TAB, COMMA}
use Rattle.vcf.specs.Entry.{bytes_of, entry_of}
use Rattle.fields.specs.Field.{field}
use Rattle.records.specs.Record.{pos_on}
use Rattle.records.proofs.RecordLineLaws.{RecordLine}
use Rattle.normal.specs.Form.{Form}
use Rattle.normal.specs.Cut.{normal_of}
use Rattle.normal.specs.Spelled.{form_of, form_spelled}
use Rattle.written.specs.Written.{decimal, field_then, new_on, new_pos, new_ref, new_first, new_second, new_alt, written_line}
use Rattle.written.proofs.AltLaws.{one_first, two_first, two_second}
use Rattle.written.proofs.FieldThenLaws.{line_record}
use Rattle.written.proofs.NewAlleles.{two_count}
use Rattle.normal.proofs.NormalEntry.{normal_entry_form}
use Rattle.normal.proofs.NormalForm.{normal_itself}
use Rattle.written.proofs.RecordEntryLaws.{line_stands, line_normal, first_is, second_is, first_upper, second_upper}
use Rattle.written.proofs.WithoutLaws.{Without, without_cons, without_head, without_append, without_parts}
use Rattle.written.proofs.WrittenLine.{pos_without, ref_without, alt_is_without, written_0, written_2, written_3, written_4, written_rest, written_pos}
use Rattle.written.proofs.WrittenRows.{take_own, no_comma, new_two, written_count}

then_parts : (x : ℕ) (f rest : List ℕ) → Without x (field_then f rest) → Without x f × Without x rest
then_parts x f rest h = let s = without_parts x f (TAB ∷ rest) h in (s.0, (without_head x TAB rest s.1).1)

then_without : (x : ℕ) (f rest : List ℕ) → eqb TAB x ≡ false → Without x f → Without x rest → Without x (field_then f rest)
then_without x f rest e h k = without_append x f (TAB ∷ rest) h (without_cons x TAB rest e k)

pub alts_same : (t : Bool) {a b x y : List ℕ} → a ≡ x → (T t → b ≡ y) → pick t (a ∷ b ∷ []) (a ∷ []) ≡ pick t (x ∷ y ∷ []) (x ∷ [])
alts_same true h k = let j = k tt in cc
alts_same false h k = cc

alts_first : (t : Bool) (a b x y : List ℕ) → pick t (a ∷ b ∷ []) (a ∷ []) ≡ pick t (x ∷ y ∷ []) (x ∷ []) → a ≡ x
alts_first true a b x y e = cc
alts_first false a b x y e = cc

alts_second : (t : Bool) (a b x y : List ℕ) → T t → pick t (a ∷ b ∷ []) (a ∷ []) ≡ pick t (x ∷ y ∷ []) (x ∷ []) → b ≡ y
alts_second true a b x y u e = cc
alts_second false a b x y u e = absurd u

alt_same : (t : Bool) (a b x y : List ℕ) → a ≡ x → (T t → b ≡ y) → pick t (a ++ (COMMA ∷ b)) a ≡ pick t (x ++ (COMMA ∷ y)) x
alt_same true a b x y h k = let j = k tt in cc
alt_same false a b x y h k = h

pub same_form : {s p : Place} {a x : List ℕ} {b y : List (List ℕ)} → s ≡ p → a ≡ x → b ≡ y → ◌≡◌ {A = Form} (record { start = s; ref = a; alts = b }) (record { start = p; ref = x; alts = y })
same_form h j k = cc

module _ (reference l : List ℕ) (good : Bases reference) (one : Without LF l) (line : RecordLine reference l) where
  abbrev m : List ℕ
  m = written_line reference l

  pub written_free : Without LF m
  unfolding written_line letter_of letter_among
  written_free =
      let r = subst (Without LF) (line_record l line.ten) one in
      let s0 = then_parts LF (field 0 l) _ r in
      let s1 = then_parts LF (field 1 l) _ s0.1 in
      let s2 = then_parts LF (field 2 l) _ s1.1 in
      let s3 = then_parts LF (field 3 l) _ s2.1 in
      let s4 = then_parts LF (field 4 l) _ s3.1 in
      then_without LF (field 0 l) _ refl s0.0 (then_without LF (decimal (new_pos reference l).0) _ refl (pos_without reference l good one line LF refl)
      (then_without LF (field 2 l) _ refl s2.0 (then_without LF (new_ref reference l) _ refl (ref_without reference l good one line LF refl)
      (then_without LF (new_alt reference l) _ refl (alt_is_without reference l good one line LF refl refl) s4.1))))

  pub alt_first : first_alt (new_alt reference l) ≡ new_first reference l
  alt_first = go (two_alts? (field 4 l))
    where
      go : (t : Bool) → first_alt (pick t (new_first reference l ++ (COMMA ∷ new_second reference l)) (new_first reference l)) ≡ new_first reference l
      go true = two_first (new_first reference l) (no_comma reference l good one line) (new_second reference l)
      go false = one_first (new_first reference l) (no_comma reference l good one line)

  pub alt_second : T (two_alts? (field 4 l)) → second_alt (new_alt reference l) ≡ new_second reference l
  alt_second two = go (two_alts? (field 4 l)) two
    where
      go : (t : Bool) → T t → second_alt (pick t (new_first reference l ++ (COMMA ∷ new_second reference l)) (new_first reference l)) ≡ new_second reference l
      go true u = two_second (new_first reference l) (no_comma reference l good one line) (new_second reference l)
      go false u = absurd u

  module _ (fits : length reference ≤ longest_reference) (written : RecordLine reference m) where
    pub two_written : two_alts? (field 4 m) ≡ two_alts? (field 4 l)
    two_written = ap two_alts? (written_4 reference l good one line) ∙ new_two reference l good one line

    same_start : place_of (pos_on m) ≡ (new_on reference l).start
    same_start = ap place_of (written_pos reference l good one line fits) ∙ place_of_pos (new_on reference l).start

    pub written_form : form_of reference m (entry_of m 0) ≡ form_spelled reference l (alt_count (field 4 l)) (new_on reference l)
    written_form =
        let s = (new_on reference l).start.0 in
        let ref : stretch reference (place_of (pos_on m)).0 (length (field 3 m)) ≡ new_ref reference l =
        ap (λ (p : Place). stretch reference p.0 (length (field 3 m))) same_start
        ∙ ap (λ (f : List ℕ). stretch reference s (length f)) (written_3 reference l good one line)
        ∙ take_own (new_on reference l).span (drop s reference) in
        let first : bases_of (bytes_of m (entry_of m 0).first) ≡ new_first reference l =
        ap bases_of (first_is reference m good written_free written ∙ ap first_alt (written_4 reference l good one line) ∙ alt_first) ∙ first_upper reference l good one line in
        let second : T (eqb (alt_count (field 4 l)) 2) → bases_of (bytes_of m (entry_of m 0).second) ≡ new_second reference l =
        λ t. let two : T (two_alts? (field 4 l)) = rw (two_count (field 4 l)) at t in
        ap bases_of (second_is reference m good written_free written (rw two_written two) ∙ ap second_alt (written_4 reference l good one line) ∙ alt_second two)
        ∙ second_upper reference l good one line in
        same_form same_start ref
        (ap (λ (n : ℕ). pick (eqb n 2) (bases_of (bytes_of m (entry_of m 0).first) ∷ bases_of (bytes_of m (entry_of m 0).second) ∷ []) (bases_of (bytes_of m (entry_of m 0).first) ∷ []))
        (written_count reference l good one line) ∙ alts_same (eqb (alt_count (field 4 l)) 2) first second)

    form_again : form_spelled reference m (alt_count (field 4 m)) (new_on reference m) ≡ form_spelled reference l (alt_count (field 4 l)) (new_on reference l)
    form_again =
        let n = line_normal reference l good one line in
        normal_entry_form reference m (entry_of m 0) (line_stands reference m good written_free written)
        ∙ ap (normal_of reference) written_form
        ∙ normal_itself reference _ n.on n.normal

    abbrev two : Bool
    two = eqb (alt_count (field 4 l)) 2

    alts_again : pick two (new_first reference m ∷ new_second reference m ∷ []) (new_first reference m ∷ [])
        ≡ pick two (new_first reference l ∷ new_second reference l ∷ []) (new_first reference l ∷ [])
    alts_again =
        ap (λ (n : ℕ). pick (eqb n 2) (new_first reference m ∷ new_second reference m ∷ []) (new_first reference m ∷ [])) (sym (written_count reference l good one line))
        ∙ ap (λ (f : Form). f.alts) form_again

    ref_again : new_ref reference m ≡ new_ref reference l
    ref_again = ap (λ (f : Form). f.ref) form_again

    first_again : new_first reference m ≡ new_first reference l
    first_again = alts_first two (new_first reference m) (new_second reference m) (new_first reference l) (new_second reference l) alts_again

    second_again : T (two_alts? (field 4 l)) → new_second reference m ≡ new_second reference l
    second_again t = alts_second two (new_first reference m) (new_second reference m) (new_first reference l) (new_second reference l) (rw (two_count (field 4 l)) t) alts_again

    alt_again : new_alt reference m ≡ new_alt reference l
    alt_again =
        ap (λ (t : Bool). pick t (new_first reference m ++ (COMMA ∷ new_second reference m)) (new_first reference m)) two_written
        ∙ alt_same (two_alts? (field 4 l)) (new_first reference m) (new_second reference m) (new_first reference l) (new_second reference l) first_again second_again

    pub written_again : written_line reference m ≡ m
    unfolding written_line
    written_again =
        let s = ap (λ (f : Form). f.start) form_again in
        cc (written_0 reference l good one line, written_2 reference l good one line, ref_again, alt_again, written_rest reference l good one line)
