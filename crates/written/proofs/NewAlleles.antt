-- The new POS, REF and ALT of a record's line on which no row holds.
--     two_count               two ALTs are two
--     line_shrinks            what its normal form keeps
--     NewAlleles, new_alleles     REF and the ALTs are alleles that differ and are not longer, and the end does not move right
-- Assumes nothing.
use mathlib.Core.Bool.{Bool, true, false}
use mathlib.Core.List.{List}
use mathlib.Core.Path.{◌≡◌, refl, sym, ap, ◌∙◌}
use Prim.Native.Nat.{ℕ, ◌+◌, ◌≤◌}
use native.Mathlib.Omega.{arith}
use lib.Dec.{T, eqb}
use lib.ListN.{length}
use Rattle.bases.specs.Reference.{Bases}
use Rattle.bases.specs.Place.{place_of}
use Rattle.bases.specs.Letter.{all_letters?, bases_of}
use Rattle.bases.specs.Pick.{pick}
use Rattle.bases.specs.Same.{same_bases?}
use Rattle.bases.proofs.LetterLaws.{bases_length}
use Rattle.bases.proofs.SameLaws.{same_iff, bases_differ}
use Rattle.bases.proofs.StretchLaws.{stretch_length}
use Rattle.bases.proofs.TestLaws.{is_false}
use Rattle.vcf.specs.declared.entry.Entry.{Entry}
use Rattle.fields.specs.Allele.{is_allele?, longest_allele, alt_count, first_alt, two_alts?, second_alt}
use Rattle.fields.specs.Bytes.{LF}
use Rattle.vcf.specs.Entry.{bytes_of, entry_of}
use Rattle.fields.specs.Field.{field}
use Rattle.records.specs.Record.{pos_on}
use Rattle.fields.proofs.AlleleLaws.{allele_iff}
use Rattle.records.proofs.RecordLineLaws.{RecordLine}
use Rattle.normal.specs.Spelled.{start_of}
use Rattle.written.specs.Written.{new_on, new_ref, new_first, new_second}
use Rattle.normal.proofs.EntryLaws.{ref_of}
use Rattle.normal.proofs.NormalEntry.{form_on, form_some}
use Rattle.written.proofs.RecordEntryLaws.{Allele, allele, line_stands, line_normal, the_first, the_second, first_is, second_is}
use Rattle.written.proofs.RecordEntryLaws.{ref_letters, first_letters, second_letters, ref_upper, first_upper, second_upper}
use Rattle.normal.proofs.ShrinkLaws.{Shrinks, shrinks}
use Rattle.written.proofs.WithoutLaws.{Without}

pub two_count : (f : List ℕ) → eqb (alt_count f) 2 ≡ two_alts? f
two_count f = go (two_alts? f)
  where
    go : (t : Bool) → eqb (pick t 2 1) 2 ≡ t
    go true = refl
    go false = refl

is_allele : (a : List ℕ) → 1 ≤ length a → length a ≤ longest_allele → T (all_letters? a) → T (is_allele? a)
is_allele a h k t = (allele_iff a).1 (h, k, t)

-- of bases that are in upper case
not_same : (a b : List ℕ) → bases_of a ≡ a → bases_of b ≡ b → (a ≡ b → ⊥) → same_bases? a b ≡ false
not_same a b ea eb n = is_false (same_bases? a b) (λ t. n (sym ea ∙ (same_iff (bases_of a) (bases_of b)).0 t ∙ eb))

-- The new REF and ALTs beside the old.
pub record NewAlleles (reference l : List ℕ) : Type 0 where
  pub end : (new_on reference l).start.0 + length (new_ref reference l) ≤ (place_of (pos_on l)).0 + length (field 3 l)
  pub ref_short : length (new_ref reference l) ≤ length (field 3 l)
  pub first_short : length (new_first reference l) ≤ length (first_alt (field 4 l))
  pub second_short : T (two_alts? (field 4 l)) → length (new_second reference l) ≤ length (second_alt (field 4 l))
  pub ref : T (is_allele? (new_ref reference l))
  pub first_some : 1 ≤ length (new_first reference l)
  pub first : T (is_allele? (new_first reference l))
  pub first_new : same_bases? (new_first reference l) (new_ref reference l) ≡ false
  pub second : T (two_alts? (field 4 l)) → T (is_allele? (new_second reference l))
  pub second_new : T (two_alts? (field 4 l)) → same_bases? (new_second reference l) (new_ref reference l) ≡ false
  pub two : T (two_alts? (field 4 l)) → same_bases? (new_second reference l) (new_first reference l) ≡ false

module _ (reference l : List ℕ) (good : Bases reference) (one : Without LF l) (line : RecordLine reference l) where
  abbrev e : Entry
  e = entry_of l 0

  pub line_shrinks : Shrinks (eqb (alt_count (field 4 l)) 2) (place_of (pos_on l)) (ref_of reference e) (bases_of (bytes_of l e.first)) (bases_of (bytes_of l e.second))
      (new_on reference l).start (new_ref reference l) (new_first reference l) (new_second reference l)
  line_shrinks =
      let st = line_stands reference l good one line in
      shrinks (eqb (alt_count (field 4 l)) 2) reference _ _ _ _ _ _ _ _ (form_on reference l e st) (form_some reference l e st) (line_normal reference l good one line)

  twice : T (two_alts? (field 4 l)) → T (eqb (alt_count (field 4 l)) 2)
  twice t = rw (two_count (field 4 l)) t

  ref_length : length (ref_of reference e) ≡ length (field 3 l)
  ref_length = stretch_length reference (start_of e).0 (length (field 3 l)) line.within

  first_length : length (bases_of (bytes_of l e.first)) ≡ length (first_alt (field 4 l))
  first_length = bases_length (bytes_of l e.first) ∙ ap length (first_is reference l good one line)

  second_length : T (two_alts? (field 4 l)) → length (bases_of (bytes_of l e.second)) ≡ length (second_alt (field 4 l))
  second_length t = bases_length (bytes_of l e.second) ∙ ap length (second_is reference l good one line t)

  old_ref : Allele (field 3 l)
  old_ref = allele (field 3 l) line.ref

  short_ref : length (new_ref reference l) ≤ length (field 3 l)
  short_ref = omega (arith, line_shrinks.ref, ref_length)

  short_first : length (new_first reference l) ≤ length (first_alt (field 4 l))
  short_first = omega (arith, line_shrinks.first, first_length)

  short_second : T (two_alts? (field 4 l)) → length (new_second reference l) ≤ length (second_alt (field 4 l))
  short_second t = omega (arith, line_shrinks.second (twice t), second_length t)

  allele_first : T (is_allele? (new_first reference l))
  allele_first =
      is_allele (new_first reference l) (omega (arith, line_shrinks.first_some))
      (omega (arith, short_first, (the_first reference l good one line).short)) (first_letters reference l good one line)

  allele_second : T (two_alts? (field 4 l)) → T (is_allele? (new_second reference l))
  allele_second t =
      is_allele (new_second reference l) (omega (arith, line_shrinks.second_some (twice t)))
      (omega (arith, short_second t, (the_second reference l good one line t).short)) (second_letters reference l good one line)

  -- The old alleles differ.
  first_ref : bases_of (bytes_of l e.first) ≡ ref_of reference e → ⊥
  first_ref h = bases_differ (first_alt (field 4 l)) (field 3 l) line.alts.first_new (ap bases_of (sym (first_is reference l good one line)) ∙ h ∙ sym line.same)

  second_ref : T (two_alts? (field 4 l)) → bases_of (bytes_of l e.second) ≡ ref_of reference e → ⊥
  second_ref t h = bases_differ (second_alt (field 4 l)) (field 3 l) (line.alts.second_new t) (ap bases_of (sym (second_is reference l good one line t)) ∙ h ∙ sym line.same)

  second_first : T (two_alts? (field 4 l)) → bases_of (bytes_of l e.second) ≡ bases_of (bytes_of l e.first) → ⊥
  second_first t h = bases_differ (second_alt (field 4 l)) (first_alt (field 4 l)) (line.alts.two_new t)
      (ap bases_of (sym (second_is reference l good one line t)) ∙ h ∙ ap bases_of (first_is reference l good one line))

  pub new_alleles : NewAlleles reference l
  new_alleles =
      record {
        end = omega (arith, line_shrinks.end, ref_length);
        ref_short = short_ref;
        first_short = short_first;
        second_short = short_second;
        ref = is_allele (new_ref reference l) (omega (arith, line_shrinks.ref_some))
            (omega (arith, short_ref, old_ref.short)) (ref_letters reference l good one line);
        first_some = omega (arith, line_shrinks.first_some);
        first = allele_first;
        first_new = not_same (new_first reference l) (new_ref reference l) (first_upper reference l good one line) (ref_upper reference l good one line) (line_shrinks.first_new first_ref);
        second = allele_second;
        second_new = λ t. not_same (new_second reference l) (new_ref reference l) (second_upper reference l good one line) (ref_upper reference l good one line)
            (line_shrinks.second_new (twice t) (second_ref t));
        two = λ t. not_same (new_second reference l) (new_first reference l) (second_upper reference l good one line) (first_upper reference l good one line)
            (line_shrinks.two_new (twice t) (second_first t));
      }
