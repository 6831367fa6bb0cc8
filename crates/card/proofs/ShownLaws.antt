-- Laws of the call `allele`: which of its refusals is answered, and where the allele stands.
--     allele_checks, checks_numbered                 the call's checks in order; a row of them that holds is not numbered 0
--     shown_refused, shown_there                    what is shown, by the refusal
--     shown_list                                    what is shown where a row of the reference or of the list holds
--     shown_no_reference, shown_fault, shown_no_entry, shown_no_allele, shown_entry
--                                                   what is shown, by the first row that holds, in the order that they are tried
--     entry_pos                                     the entry that is read has a POS
--     Answered, answered                            what is so where an allele is shown
-- Assumes nothing.
use mathlib.Core.Bool.{true, false}
use mathlib.Core.List.{List, [], ◌∷◌}
use mathlib.Core.Logic.{◌≢◌}
use mathlib.Core.Path.{◌≡◌, sym, ap, ◌∙◌}
use Prim.Native.Nat.{ℕ, ◌≤◌, ◌<◌}
use native.Mathlib.Nat.{suc-ne-zero}
use borrow.Author.Tests.{eq-eqb, ne_eqb, eqb-true, leb-false, ltb-false, not-false, le-leb, lt-leb, lt-ltb, le-ltb}
use lib.Dec.{T, T_not, eqb, leb, ltb}
use lib.ListN.{length}
use Rattle.bases.specs.Letter.{bases_of}
use Rattle.bases.specs.First.{first_told}
use Rattle.bases.specs.Reference.{is_reference?}
use Rattle.bases.proofs.TestLaws.{of_true, neither}
use Rattle.fields.specs.Allele.{alt_count}
use Rattle.vcf.specs.Entry.{line_at, entry_of, entries_of, records_at, record_at}
use Rattle.fields.specs.Field.{field}
use Rattle.vcf.specs.List.{judge_text}
use Rattle.vcf.proofs.AcceptedLaws.{accepted_line}
use Rattle.vcf.proofs.EntryLaws.{entry_none, entry_number_lem, entries_iff}
use Rattle.records.proofs.RecordLineLaws.{RecordLine}
use Rattle.vcf.specs.declared.entry.Entry.{Entry}
use Rattle.vcf.specs.declared.list.Fault.{Fault}
use Rattle.card.specs.declared.refusal.Refusal.{Refusal}
use Rattle.card.specs.Allele.{no_entry, entry_number, no_allele?, allele_refusal, shown_of, refused_shown, shown}
use Rattle.card.specs.Refusal.{refusal, no_refusal, Check, check, first_refusal, reference_check, list_check, list_checks}
use Rattle.card.proofs.RefusalLaws.{Numbered, none_holds, first_keeps}

module _ (reference name text : List ℕ) (i k : ℕ) where
  -- Row 1; the rows of the list; row 18.
  abbrev pub allele_checks : List Check
  allele_checks = reference_check reference ∷ list_check 1 reference name text ∷ check (no_allele? text i k) (refusal 18 0 0 0) ∷ []

  pub checks_numbered : Numbered allele_checks
  checks_numbered = (
    λ h. suc-ne-zero 0,
    (λ h e. T_not (eqb (judge_text (bases_of reference) name text).number 0) h (of_true (eq-eqb _ _ e)), (λ h. suc-ne-zero 17, tt)),
  )

  pub shown_refused : (r : Refusal) → allele_refusal reference name text i k ≡ r → r.number ≢ 0 → shown reference name text i k ≡ refused_shown r
  unfolding shown
  shown_refused r e n = rw (e, ne_eqb r.number 0 n)

  pub shown_there : (allele_refusal reference name text i k).number ≡ 0 → shown reference name text i k ≡ shown_of (entry_number text i) k
  unfolding shown
  shown_there e = rw (eq-eqb _ _ e)

  pub shown_no_reference : is_reference? reference ≡ false → shown reference name text i k ≡ refused_shown (refusal 1 0 0 0)
  unfolding first_told
  shown_no_reference e = shown_refused (refusal 1 0 0 0) (rw e) (suc-ne-zero 0)

  pub shown_list : (first_refusal (list_checks reference name text false)).number ≢ 0 → shown reference name text i k ≡ refused_shown (first_refusal (list_checks reference name text false))
  unfolding first_told
  shown_list n =
      shown_refused (first_refusal (list_checks reference name text false)) (first_keeps (reference_check reference ∷ list_check 1 reference name text ∷ []) (check (no_allele? text i k) (refusal 18 0 0 0) ∷ []) n) n

  module _ (right : is_reference? reference ≡ true) where
    pub shown_fault : (f : Fault) → f ≡ judge_text (bases_of reference) name text → f.number ≢ 0 → shown reference name text i k ≡ refused_shown (refusal f.number 1 f.line f.place)
    unfolding first_told
    shown_fault f e n = shown_refused (refusal f.number 1 f.line f.place) (rw (right, ← e, ne_eqb f.number 0 n)) n

    module _ (accepted : (judge_text (bases_of reference) name text).number ≡ 0) where
      refusal_allele : no_allele? text i k ≡ true → allele_refusal reference name text i k ≡ refusal 18 0 0 0
      unfolding first_told
      refusal_allele h = rw (right, eq-eqb _ _ accepted, h)

      refusal_none : no_allele? text i k ≡ false → allele_refusal reference name text i k ≡ no_refusal
      unfolding first_told
      refusal_none h = rw (right, eq-eqb _ _ accepted, h)

      pub shown_no_entry : length text ≤ record_at text i → shown reference name text i k ≡ refused_shown (refusal 18 0 0 0)
      shown_no_entry h =
          let none : no_allele? text i k ≡ true = rw (le-leb (length (entries_of text)) i (entry_none text i (records_at text) h)) in
          shown_refused (refusal 18 0 0 0) (refusal_allele none) (suc-ne-zero 17)

      -- Record i begins at `at`, and e is the entry on its line.
      module _ (at : ℕ) (found : at ≡ record_at text i) (there : at < length text) (e : Entry) (read : e ≡ entry_of (line_at text at) at) where
        is_entry : entry_number text i ≡ e
        is_entry = entry_number_lem text i no_entry (rw found at there) ∙ rw (← found) (sym read)

        allele_test : no_allele? text i k ≡ ltb e.alts k
        allele_test = rw (lt-leb (length (entries_of text)) i ((entries_iff text i).1 (rw found at there)), is_entry)

        pub shown_no_allele : e.alts < k → shown reference name text i k ≡ refused_shown (refusal 18 0 0 0)
        shown_no_allele h = shown_refused (refusal 18 0 0 0) (refusal_allele (allele_test ∙ lt-ltb _ k h)) (suc-ne-zero 17)

        pub shown_entry : k ≤ e.alts → shown reference name text i k ≡ shown_of e k
        shown_entry h =
            shown_there (ap (λ (r : Refusal). r.number) (refusal_none (allele_test ∙ le-ltb _ k h))) ∙ rw is_entry

        pub entry_pos : 1 ≤ e.pos.0
        entry_pos = rw (read, found) (accepted_line (bases_of reference) name text accepted i (rw found at there)).pos

-- Allele k of entry i is shown: what is so of the reference, the list and the entry.
pub record Answered (reference name text : List ℕ) (i k : ℕ) : Type 0 where
  pub right : T (is_reference? reference)
  pub accepted : (judge_text (bases_of reference) name text).number ≡ 0
  pub there : record_at text i < length text
  pub entry : entry_number text i ≡ entry_of (line_at text (record_at text i)) (record_at text i)
  pub shows : shown reference name text i k ≡ shown_of (entry_of (line_at text (record_at text i)) (record_at text i)) k
  pub line : RecordLine (bases_of reference) (line_at text (record_at text i))
  pub allele : k ≤ alt_count (field 4 (line_at text (record_at text i)))

pub answered : (reference name text : List ℕ) (i k : ℕ) → (allele_refusal reference name text i k).number ≡ 0 → Answered reference name text i k
answered reference name text i k e =
    let none = none_holds (allele_checks reference name text i k) (checks_numbered reference name text i k) e in
    let accepted = eqb-true (judge_text (bases_of reference) name text).number 0 (not-false (eqb (judge_text (bases_of reference) name text).number 0) none.1.0) in
    let some = leb-false (length (entries_of text)) i (neither (leb (length (entries_of text)) i) (ltb (entry_number text i).alts k) none.1.1.0).0 in
    let there = (entries_iff text i).0 some in
    let entry = entry_number_lem text i no_entry there in
    let few = ltb-false (entry_number text i).alts k (neither (leb (length (entries_of text)) i) (ltb (entry_number text i).alts k) none.1.1.0).1 in
    record {
      right = of_true (not-false (is_reference? reference) none.0);
      accepted = accepted;
      there = there;
      entry = entry;
      shows = shown_there reference name text i k e ∙ rw entry;
      line = accepted_line (bases_of reference) name text accepted i there;
      allele = rw entry at few;
    }
