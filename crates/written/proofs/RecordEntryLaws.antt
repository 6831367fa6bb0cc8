-- Laws of the entry on a record's line, and of its normal form.
--     letters_append, letters_take, letters_drop     letters, part by part
--     line_stands                                    the entry stands on the reference and on the line
--     ref_letters, first_letters, second_letters     what is written of it are letters,
--     ref_upper, first_upper, second_upper           in upper case
--     line_normal                                    its normal form is what is written of it
-- Assumes nothing.
use mathlib.Core.Bool.{Bool, true, false}
use mathlib.Core.List.{List, [], ◌∷◌, ◌++◌}
use mathlib.Core.Path.{◌≡◌, refl, ap, ap₂, subst, ◌∙◌}
use Prim.Native.Nat.{ℕ, zero, suc, ◌+◌, ◌≤◌}
use native.Mathlib.Omega.{arith}
use lib.Dec.{T, eqb}
use lib.ListN.{length, take, drop, length-drop}
use lib.Seq.{take-length, length-take-le}
use Rattle.bases.specs.Reference.{Bases}
use Rattle.bases.specs.declared.place.Place.{Place}
use Rattle.bases.specs.Letter.{is_letter?, all_letters?, bases_of}
use Rattle.bases.specs.Pick.{pick}
use Rattle.bases.specs.Stretch.{stretch}
use Rattle.bases.proofs.LetterLaws.{bases_part, bases_append, bases_twice, bases_letters}
use Rattle.bases.proofs.PartLaws.{part_part}
use Rattle.bases.proofs.TestLaws.{both}
use Rattle.vcf.specs.declared.entry.Part.{Part}
use Rattle.vcf.specs.declared.entry.Entry.{Entry}
use Rattle.fields.specs.Allele.{is_allele?, longest_allele, first_alt, two_alts?, second_alt}
use Rattle.fields.specs.Bytes.{LF, COMMA, until}
use Rattle.vcf.specs.Entry.{line_at, bytes_of, entry_of, last_alt}
use Rattle.fields.specs.Field.{field, ten_fields?}
use Rattle.fields.proofs.BytesLaws.{until_le}
use Rattle.vcf.proofs.PartLaws.{first_within, second_within, first_bytes, second_bytes}
use Rattle.fields.proofs.AlleleLaws.{allele_iff}
use Rattle.records.proofs.RecordLineLaws.{RecordLine}
use Rattle.normal.specs.declared.cut.Cuts.{Cuts}
use Rattle.normal.specs.declared.entry.Spelled.{Spelled}
use Rattle.normal.specs.Form.{NormalForm}
use Rattle.normal.specs.Spelled.{cuts_of, spelled, form_of, Within, Stands, normal_entry, bases_spelled, form_spelled}
use Rattle.written.specs.Written.{new_on, new_ref, new_first, new_second}
use Rattle.normal.proofs.EntryLaws.{Bounds, bounds}
use Rattle.normal.proofs.NormalEntry.{normal_entry_is}
use Rattle.written.proofs.WithoutLaws.{Without}

pub letters_append : (f g : List ℕ) → T (all_letters? f) → T (all_letters? g) → T (all_letters? (f ++ g))
unfolding all_letters?
letters_append [] g h k = k
letters_append (b ∷ f) g h k =
    let s = (both (is_letter? b) (all_letters? f)).0 h in
    (both (is_letter? b) (all_letters? (f ++ g))).1 (s.0, letters_append f g s.1 k)

pub letters_take : (n : ℕ) (f : List ℕ) → T (all_letters? f) → T (all_letters? (take n f))
unfolding all_letters?
letters_take zero f h = tt
letters_take (suc n) [] h = tt
letters_take (suc n) (b ∷ f) h =
    let s = (both (is_letter? b) (all_letters? f)).0 h in
    (both (is_letter? b) (all_letters? (take n f))).1 (s.0, letters_take n f s.1)

pub letters_drop : (n : ℕ) (f : List ℕ) → T (all_letters? f) → T (all_letters? (drop n f))
unfolding all_letters?
letters_drop zero f h = h
letters_drop (suc n) [] h = tt
letters_drop (suc n) (b ∷ f) h = letters_drop n f ((both (is_letter? b) (all_letters? f)).0 h).1

pub letters_spelled : (reference l : List ℕ) (s : Place) (c : Cuts) (p : Part) → T (all_letters? reference) → T (all_letters? (bytes_of l p)) → c.front ≤ p.len
    → T (all_letters? (bases_spelled reference l s (spelled c p)))
letters_spelled reference l s c p h k f =
    let a = spelled c p in
    letters_append (stretch reference s.0 a.front) (bases_of (bytes_of l a.own)) (letters_take a.front (drop s.0 reference) (letters_drop s.0 reference h))
    (rw (bases_letters (bytes_of l a.own))
    (subst (λ (x : List ℕ). T (all_letters? x)) (part_part l p.at p.len c.front a.own.len (omega arith))
    (letters_take a.own.len (drop c.front (bytes_of l p)) (letters_drop c.front (bytes_of l p) k))))

-- Bases of the reference, and what an allele spells, are in upper case.
stretch_upper : (reference : List ℕ) → bases_of reference ≡ reference → (a n : ℕ) → bases_of (stretch reference a n) ≡ stretch reference a n
stretch_upper reference e a n = bases_part reference a n ∙ ap (λ (x : List ℕ). stretch x a n) e

spelled_upper : (reference l : List ℕ) → bases_of reference ≡ reference → (s : Place) (a : Spelled) → bases_of (bases_spelled reference l s a) ≡ bases_spelled reference l s a
spelled_upper reference l e s a =
    bases_append (stretch reference s.0 a.front) (bases_of (bytes_of l a.own))
    ∙ ap₂ (λ (x y : List ℕ). x ++ y) (stretch_upper reference e s.0 a.front) (bases_twice (bytes_of l a.own))

-- An allele has 1 to 64 letters.
pub record Allele (a : List ℕ) : Type 0 where
  pub some : 1 ≤ length a
  pub short : length a ≤ longest_allele
  pub letters : T (all_letters? a)

pub allele : (a : List ℕ) → T (is_allele? a) → Allele a
allele a t =
    let s = (allele_iff a).0 t in
    record { some = s.0; short = s.1; letters = s.2 }

module _ (reference l : List ℕ) (good : Bases reference) (one : Without LF l) (line : RecordLine reference l) where
  pub self : line_at l 0 ≡ l
  self = rw one (take-length l)

  ten : T (ten_fields? (line_at l 0))
  ten = rw self line.ten

  abbrev f4 : List ℕ
  f4 = field 4 l

  abbrev e : Entry
  e = entry_of l 0

  pub the_first : Allele (first_alt f4)
  the_first = allele (first_alt f4) line.alts.first

  pub the_second : T (two_alts? f4) → Allele (second_alt f4)
  the_second two = allele (second_alt f4) (line.alts.second two)

  in_first : Within l e.first
  in_first = (
    omega (arith, the_first.some, length-take-le (until COMMA f4) f4 (until_le COMMA f4)),
    rw self at (first_within l 0 (omega arith) ten),
  )

  pub in_second : T (two_alts? f4) → Within l e.second
  in_second two = (
    omega (arith, (the_second two).some, length-drop (until COMMA f4 + 1) f4),
    rw self at (second_within l 0 (omega arith) ten (rw self two)),
  )

  in_last : Within l (last_alt e)
  in_last = go (two_alts? f4) (λ t. t)
    where
      go : (t : Bool) → (T t → T (two_alts? f4)) → Within l (pick (eqb (pick t 2 1) 2) e.second e.first)
      go true h = in_second (h tt)
      go false h = in_first

  pub line_stands : Stands reference l e
  line_stands =
      record {
        pos = line.pos;
        on = ((allele (field 3 l) line.ref).some, line.within);
        first = in_first;
        second = in_last;
      }

  abbrev k : Cuts
  k = cuts_of reference (form_of reference l e)

  kb : Bounds k e
  kb = bounds reference l e line_stands k refl

  pub first_is : bytes_of l e.first ≡ first_alt f4
  first_is = rw self at (first_bytes l 0 (omega arith) ten)

  pub second_is : T (two_alts? f4) → bytes_of l e.second ≡ second_alt f4
  second_is two = rw self at (second_bytes l 0 (omega arith) ten (rw self two))

  last_letters : T (all_letters? (bytes_of l (last_alt e)))
  last_letters = go (two_alts? f4) (λ t. t)
    where
      go : (t : Bool) → (T t → T (two_alts? f4)) → T (all_letters? (bytes_of l (pick (eqb (pick t 2 1) 2) e.second e.first)))
      go true h = rw (second_is (h tt)) (the_second (h tt)).letters
      go false h = rw first_is the_first.letters

  pub ref_letters : T (all_letters? (new_ref reference l))
  ref_letters = letters_take (new_on reference l).span (drop (new_on reference l).start.0 reference) (letters_drop (new_on reference l).start.0 reference good.letters)

  pub first_letters : T (all_letters? (new_first reference l))
  unfolding normal_entry
  first_letters = letters_spelled reference l (new_on reference l).start k e.first good.letters (rw first_is the_first.letters) (omega (arith, kb.front, kb.first))

  pub second_letters : T (all_letters? (new_second reference l))
  unfolding normal_entry
  second_letters = letters_spelled reference l (new_on reference l).start k (last_alt e) good.letters last_letters (omega (arith, kb.front, kb.second))

  pub ref_upper : bases_of (new_ref reference l) ≡ new_ref reference l
  ref_upper = stretch_upper reference good.upper (new_on reference l).start.0 (new_on reference l).span

  pub first_upper : bases_of (new_first reference l) ≡ new_first reference l
  first_upper = spelled_upper reference l good.upper (new_on reference l).start (new_on reference l).first

  pub second_upper : bases_of (new_second reference l) ≡ new_second reference l
  second_upper = spelled_upper reference l good.upper (new_on reference l).start (new_on reference l).second

  pub line_normal : NormalForm reference (form_of reference l e) (form_spelled reference l e.alts (new_on reference l))
  line_normal = normal_entry_is reference l e line_stands
