-- The calls `allele` and `allele_refusal`, in document 01's words.
--     allele_refused_iff     a refusal is given exactly if its row holds and no row before it in the order does
--     allele_answered_iff    three zeros are given exactly if no row holds
--     shown_refusal          the companion answers the refusal of what is shown
--     shown_fits, shown_short
--                            what is shown is a part of the reference or of the text, and ends at most at 65,536
--     reference_shown, reference_same, first_shown, second_shown
--                            where the companion's number is 0: allele 0 is the part of the reference at POS as long as REF and spells
--                            REF's bases,
--                            alleles 1 and 2 are the ALTs of the entry's line
--     reference_begins, first_begins, second_begins
--                            there too: allele 0 begins in the reference at POS, alleles 1 and 2 in the text where the ALTs do
--     shown_empty_iff        the empty part is shown exactly where the companion's number is not 0
--     refused_begins         and then begins where the reference does
-- Assumes nothing.
use mathlib.Core.Bool.{Bool, true, false}
use mathlib.Core.List.{List, []}
use mathlib.Core.Logic.{◌↔◌, ◌≢◌, ◌⊎◌, inl, inr, ⊎_elim}
use mathlib.Core.Path.{◌≡◌, refl, sym, ap, ◌∙◌}
use Prim.Native.Nat.{ℕ, ◌+◌, ◌≤◌}
use native.Mathlib.Decide.{ℕ_discrete}
use native.Mathlib.Omega.{arith}
use borrow.Author.Tests.{eqb-true}
use lib.Dec.{T, eqb}
use lib.ListN.{length, take, drop, length-drop}
use lib.Seq.{length-take-le}
use Rattle.bases.specs.Place.{place_of}
use Rattle.bases.specs.Letter.{bases_of}
use Rattle.bases.proofs.LetterLaws.{bases_length, bases_part}
use Rattle.bases.proofs.ReferenceLaws.{reference_iff}
use Rattle.bases.specs.Pick.{pick}
use Rattle.vcf.specs.declared.entry.Entry.{Entry}
use Rattle.fields.specs.Allele.{is_allele?, first_alt, two_alts?, second_alt}
use Rattle.fields.specs.Bytes.{COMMA, until}
use Rattle.vcf.specs.Entry.{line_at, entry_of, record_at}
use Rattle.fields.specs.Field.{field_at, field}
use Rattle.records.specs.Record.{pos_on}
use Rattle.vcf.specs.List.{longest_text}
use Rattle.vcf.proofs.JudgeLaws.{accepted_zero, text_fits}
use Rattle.vcf.proofs.PartLaws.{first_within, second_within, first_bytes, second_bytes}
use Rattle.fields.proofs.AlleleLaws.{allele_iff}
use Rattle.card.specs.declared.refusal.Refusal.{Refusal}
use Rattle.card.specs.Allele.{Shown, entry_number, allele_refusal, of_reference, of_text, shown_of, refused_shown, shown, bytes_shown, ptr_shown}
use Rattle.card.specs.Refusal.{no_refusal}
use Rattle.bases.proofs.FirstLaws.{NoneHolds, First}
use Rattle.card.proofs.RefusalLaws.{first_none, none_holds, refused_iff, answered_iff}
use Rattle.card.proofs.ShownLaws.{allele_checks, checks_numbered, shown_refused, Answered, answered}

allele_some : (x : List ℕ) → T (is_allele? x) → 1 ≤ length x
allele_some x t = ((allele_iff x).0 t).0

module _ (reference name text : List ℕ) (i k : ℕ) where
  pub allele_refused_iff : (r : Refusal) → ((allele_refusal reference name text i k ≡ r) × (r.number ≢ 0)) ↔ First r (allele_checks reference name text i k)
  allele_refused_iff = refused_iff (allele_checks reference name text i k) (checks_numbered reference name text i k)

  pub allele_answered_iff : (allele_refusal reference name text i k ≡ no_refusal) ↔ NoneHolds (allele_checks reference name text i k)
  allele_answered_iff = answered_iff (allele_checks reference name text i k) (checks_numbered reference name text i k)

  shown_of_refusal : (e : Entry) → (shown_of e k).refusal ≡ no_refusal
  shown_of_refusal e = go (eqb k 0) (eqb k 1)
    where
      go : (s t : Bool) → (pick s (of_reference (place_of e.pos) e.reference.len) (pick t (of_text e.first.at e.first.len) (of_text e.second.at e.second.len))).refusal ≡ no_refusal
      go true t = refl
      go false true = refl
      go false false = refl

  pub shown_refusal : (shown reference name text i k).refusal ≡ allele_refusal reference name text i k
  unfolding shown
  shown_refusal = go (eqb (allele_refusal reference name text i k).number 0) refl
    where
      r : Refusal
      r = allele_refusal reference name text i k

      go : (t : Bool) → eqb (allele_refusal reference name text i k).number 0 ≡ t → (pick t (shown_of (entry_number text i) k) (refused_shown r)).refusal ≡ r
      go true e =
          let none = none_holds (allele_checks reference name text i k) (checks_numbered reference name text i k) (eqb-true _ 0 e) in
          shown_of_refusal (entry_number text i) ∙ sym (first_none (allele_checks reference name text i k) none)
      go false e = refl

  -- A part ends within what it is a part of.
  abbrev pub Fits : Shown → Type 0
  Fits s = s.part.at + s.part.len ≤ length (pick s.text text reference)

  -- The line of record i.
  abbrev pub line : List ℕ
  line = line_at text (record_at text i)

  -- The companion's number is 0.
  module _ (zero : (allele_refusal reference name text i k).number ≡ 0) where
    a : Answered reference name text i k
    a = answered reference name text i k zero

    inside : record_at text i ≤ length text
    inside = omega (arith, a.there)

    two : k ≡ 2 → T (two_alts? (field 4 line))
    two e = go (two_alts? (field 4 line)) a.allele
      where
        go : (t : Bool) → k ≤ pick t 2 1 → T t
        go true h = tt
        go false h = absurd (omega arith)

    three : (k ≡ 0) ⊎ ((k ≡ 1) ⊎ (k ≡ 2))
    three = go (two_alts? (field 4 line)) a.allele (ℕ_discrete k 0) (ℕ_discrete k 1)
      where
        go : (t : Bool) → k ≤ pick t 2 1 → Dec (k ≡ 0) → Dec (k ≡ 1) → (k ≡ 0) ⊎ ((k ≡ 1) ⊎ (k ≡ 2))
        go t h (yes e) o = inl e
        go t h (no n) (yes e) = inr (inl e)
        go true h (no n) (no m) = inr (inr (omega arith))
        go false h (no n) (no m) = absurd (omega arith)

    shown_zero : k ≡ 0 → shown reference name text i k ≡ of_reference (place_of (pos_on line)) (length (field 3 line))
    shown_zero e = a.shows ∙ rw e

    shown_one : k ≡ 1 → shown reference name text i k ≡ of_text (entry_of line (record_at text i)).first.at (entry_of line (record_at text i)).first.len
    shown_one e = a.shows ∙ rw e

    shown_two : k ≡ 2 → shown reference name text i k ≡ of_text (entry_of line (record_at text i)).second.at (entry_of line (record_at text i)).second.len
    shown_two e = a.shows ∙ rw e

    pub reference_shown : k ≡ 0 → bytes_shown reference text (shown reference name text i k) ≡ take (length (field 3 line)) (drop (place_of (pos_on line)).0 reference)
    reference_shown e = ap (bytes_shown reference text) (shown_zero e)

    pub reference_same : k ≡ 0 → bases_of (bytes_shown reference text (shown reference name text i k)) ≡ bases_of (field 3 line)
    reference_same e = ap bases_of (reference_shown e) ∙ bases_part reference (place_of (pos_on line)).0 (length (field 3 line)) ∙ sym a.line.same

    pub first_shown : k ≡ 1 → bytes_shown reference text (shown reference name text i k) ≡ first_alt (field 4 line)
    first_shown e = ap (bytes_shown reference text) (shown_one e) ∙ first_bytes text (record_at text i) inside a.line.ten

    pub second_shown : k ≡ 2 → bytes_shown reference text (shown reference name text i k) ≡ second_alt (field 4 line)
    second_shown e = ap (bytes_shown reference text) (shown_two e) ∙ second_bytes text (record_at text i) inside a.line.ten (two e)

    module _ (r t : ℕ × ℕ) where
      pub reference_begins : k ≡ 0 → ptr_shown r t (shown reference name text i k) ≡ (r.0, (place_of (pos_on line)).0 + r.1)
      reference_begins e = ap (ptr_shown r t) (shown_zero e)

      pub first_begins : k ≡ 1 → ptr_shown r t (shown reference name text i k) ≡ (t.0, record_at text i + field_at 4 line + t.1)
      first_begins e = ap (ptr_shown r t) (shown_one e)

      pub second_begins : k ≡ 2 → ptr_shown r t (shown reference name text i k) ≡ (t.0, record_at text i + field_at 4 line + until COMMA (field 4 line) + 1 + t.1)
      second_begins e = ap (ptr_shown r t) (shown_two e)

    there_fits : Fits (shown reference name text i k)
    there_fits = ⊎_elim
        (λ e. rw (shown_zero e) (rw (bases_length reference) at a.line.within))
        (⊎_elim
        (λ e. rw (shown_one e) (first_within text (record_at text i) inside a.line.ten))
        (λ e. rw (shown_two e) (second_within text (record_at text i) inside a.line.ten (two e))))
        three

    there_some : 1 ≤ length (bytes_shown reference text (shown reference name text i k))
    there_some = ⊎_elim
        (λ e. rw (reference_shown e, length-take-le (length (field 3 line)) (drop (place_of (pos_on line)).0 reference) (rw length-drop (omega (arith, bases_length reference, a.line.within))))
        (allele_some (field 3 line) a.line.ref))
        (⊎_elim
        (λ e. rw (first_shown e) (allele_some (first_alt (field 4 line)) a.line.alts.first))
        (λ e. rw (second_shown e) (allele_some (second_alt (field 4 line)) (a.line.alts.second (two e)))))
        three

  refused_shows : (allele_refusal reference name text i k).number ≢ 0 → shown reference name text i k ≡ refused_shown (allele_refusal reference name text i k)
  refused_shows n = shown_refused reference name text i k (allele_refusal reference name text i k) refl n

  pub shown_fits : Fits (shown reference name text i k)
  shown_fits = go (ℕ_discrete (allele_refusal reference name text i k).number 0)
    where
      go : Dec ((allele_refusal reference name text i k).number ≡ 0) → Fits (shown reference name text i k)
      go (yes e) = there_fits e
      go (no n) = rw (refused_shows n) (omega arith)

  pub shown_short : (shown reference name text i k).part.at + (shown reference name text i k).part.len ≤ longest_text
  shown_short = go (ℕ_discrete (allele_refusal reference name text i k).number 0)
    where
      short : Answered reference name text i k → (b : Bool) → length (pick b text reference) ≤ longest_text
      short a true = text_fits text (accepted_zero (bases_of reference) name text a.accepted).fits
      short a false = omega (arith, ((reference_iff reference).0 a.right).1)

      go : Dec ((allele_refusal reference name text i k).number ≡ 0) → (shown reference name text i k).part.at + (shown reference name text i k).part.len ≤ longest_text
      go (yes e) = omega (arith, shown_fits, short (answered reference name text i k e) (shown reference name text i k).text)
      go (no n) = rw (refused_shows n) (omega arith)

  pub shown_empty_iff : (bytes_shown reference text (shown reference name text i k) ≡ []) ↔ ((allele_refusal reference name text i k).number ≢ 0)
  shown_empty_iff = (
    λ e z. let h = rw e at (there_some z) in omega arith,
    λ n. rw (refused_shows n),
  )

  pub refused_begins : (allele_refusal reference name text i k).number ≢ 0 → (r t : ℕ × ℕ) → ptr_shown r t (shown reference name text i k) ≡ r
  refused_begins n r t = let e : 0 + r.1 ≡ r.1 = omega arith in ap (ptr_shown r t) (refused_shows n) ∙ ap (λ (o : ℕ). (r.0, o)) e
