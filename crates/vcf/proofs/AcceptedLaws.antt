-- The records of an accepted text: no row holds on any of them.
--     Records, RecordsFrom                       no row holds on records; on those from a place on
--     accepted_records                           so it is from where the records of an accepted text begin
--     accepted_few_lines, accepted_few           it has at most 512, by their lines and by their entries
--     records_here, records_next, records_skip   of the line there; of the lines behind it; of those some lines on
--     records_order                              POS is not below that of the record before
--     readable_records                                 an entry can be read off the lines from a place on
--     accepted_from, accepted_line, accepted_order     record i of an accepted text
-- Assumes nothing.
use mathlib.Core.Bool.{Bool, true, false, not}
use mathlib.Core.List.{List, [], ◌∷◌}
use mathlib.Core.Path.{◌≡◌, refl, ap}
use Prim.Native.Nat.{ℕ, zero, suc, ◌+◌, ◌-◌, ◌≤◌, ◌<◌}
use native.Mathlib.Decide.{dec_lt, ℕ_discrete}
use native.Mathlib.Nat.{zero-add}
use native.Mathlib.Omega.{arith}
use borrow.Author.Tests.{leb-false}
use lib.Dec.{T, not_T}
use lib.ListN.{length, drop}
use Rattle.bases.specs.declared.place.Pos.{Pos}
use Rattle.bases.proofs.TestLaws.{of_false, both}
use Rattle.bases.specs.Pick.{pick}
use Rattle.vcf.specs.Entry.{line_at, next_line, header_bytes, records_at, entries_from, entries_of, readable?, all_readable?, readable_from?, skip_lines, record_at}
use Rattle.fields.specs.Field.{ten_fields?}
use Rattle.fields.specs.Header.{header_line?}
use Rattle.vcf.specs.List.{lines_of, text_wrong?, above, below_at, next_stage, line_rows, fault, judge_lines, judge_text}
use Rattle.fields.specs.Pos.{no_pos}
use Rattle.records.specs.Record.{most_records, pos_on, genotype_wrong?, record_rows}
use Rattle.records.specs.Row.{Row, first_row}
use Rattle.vcf.proofs.EntryLaws.{header_stop, header_more, skip_lines_zero, skip_lines_past, skip_lines_more, skip_lines_next}
use Rattle.vcf.proofs.ListLaws.{lines_at, lines_past, next_header, next_column, judge_stop, judge_more, judge_end_above, line_rows_numbered}
use Rattle.records.proofs.RecordLineLaws.{RecordLine, record_line, record_order}
use Rattle.bases.proofs.FirstLaws.{NoneHolds}
use Rattle.records.proofs.RowLaws.{none_holds}

entries_length : (a : ℕ) (ls : List (List ℕ)) → length (entries_from a ls) ≡ length ls
unfolding entries_from
entries_length a [] = refl
entries_length a (l ∷ ls) = ap suc (entries_length (a + length l + 1) ls)

module _ (reference name : List ℕ) where
  -- No row holds on these records, of which the first stands behind so many, the last of those at POS `last`.
  abbrev pub Records : ℕ → Pos → List (List ℕ) → Type 0
  Records records last [] = Unit {0}
  Records records last (l ∷ ls) = NoneHolds (record_rows reference name records last l) × Records (records + 1) (pos_on l) ls

  -- The same of the lines of a text from a on, behind some records.
  pub record RecordsFrom (t : List ℕ) (a : ℕ) : Type 0 where
    pub records : ℕ
    pub last : Pos
    pub clear : Records records last (lines_of (drop a t))

  -- lines that are met below the column line
  below_records : (records : ℕ) (last : Pos) (n : ℕ) (ls : List (List ℕ)) → (judge_lines reference name (below_at records last) n ls).number ≡ 0 → Records records last ls
  below_records records last n [] e = tt
  below_records records last n (l ∷ ls) e = go (ℕ_discrete (first_row rows).number 0) (below_records (records + 1) (pos_on l) (n + 1) ls)
    where
      rows : List Row
      rows = record_rows reference name records last l

      go : Dec ((first_row rows).number ≡ 0) → ((judge_lines reference name (below_at (records + 1) (pos_on l)) (n + 1) ls).number ≡ 0 → Records (records + 1) (pos_on l) ls)
          → NoneHolds (record_rows reference name records last l) × Records (records + 1) (pos_on l) ls
      go (yes z) r = (
        none_holds rows (line_rows_numbered reference name (below_at records last) n l) z,
        r (rw (judge_more reference name (below_at records last) n l ls z) at e),
      )
      go (no z) r = absurd (z (rw (judge_stop reference name (below_at records last) n l ls z) at e))

  -- the lines do not end above the records
  above_end : (t : List ℕ) (a n : ℕ) → length t ≤ a → (judge_lines reference name above n (lines_of (drop a t))).number ≡ 0 → ⊥
  above_end t a n h e = let f = rw (lines_past t a h, judge_end_above reference name above n refl) at e in omega arith

  -- lines from a on that are met above the records
  above_records : (t : List ℕ) (fuel a n : ℕ) → length t - a ≤ fuel → (judge_lines reference name above n (lines_of (drop a t))).number ≡ 0
      → Records 0 no_pos (lines_of (drop (a + header_bytes (lines_of (drop a t))) t))
  above_records t zero a n h e = absurd (above_end t a n (omega arith) e)
  above_records t (suc fuel) a n h e = go (dec_lt a (length t)) (above_records t fuel (next_line t a) (n + 1) (omega arith))
    where
      Rest : ℕ → Type 0
      Rest a = Records 0 no_pos (lines_of (drop (a + header_bytes (lines_of (drop a t))) t))

      l : List ℕ
      l = line_at t a

      by_row : a < length t → Dec ((first_row (line_rows reference name above n l)).number ≡ 0) → (judge_lines reference name (next_stage above l) (n + 1) (lines_of (drop (next_line t a) t))).number ≡ 0
      by_row k (yes z) = rw (lines_at t a k, judge_more reference name above n l (lines_of (drop (next_line t a) t)) z) at e
      by_row k (no z) = absurd (z (rw (lines_at t a k, judge_stop reference name above n l (lines_of (drop (next_line t a) t)) z) at e))

      by_line : a < length t → (b : Bool) → header_line? l ≡ b → (judge_lines reference name (next_stage above l) (n + 1) (lines_of (drop (next_line t a) t))).number ≡ 0
          → ((judge_lines reference name above (n + 1) (lines_of (drop (next_line t a) t))).number ≡ 0 → Rest (next_line t a)) → Rest a
      by_line k true b z r = rw (header_more t a k b) (r (rw (next_header above l refl b) at z))
      by_line k false b z r = rw (header_stop t a k b) (below_records 0 no_pos (n + 1) (lines_of (drop (next_line t a) t)) (rw (next_column above l refl b) at z))

      go : Dec (a < length t) → ((judge_lines reference name above (n + 1) (lines_of (drop (next_line t a) t))).number ≡ 0 → Rest (next_line t a)) → Rest a
      go (yes k) r = by_line k (header_line? l) refl (by_row k (ℕ_discrete (first_row (line_rows reference name above n l)).number 0)) r
      go (no k) r = absurd (above_end t a n (omega arith) e)

  accepted_clear : (t : List ℕ) → (judge_text reference name t).number ≡ 0 → Records 0 no_pos (lines_of (drop (records_at t) t))
  unfolding judge_text
  accepted_clear t e = go (text_wrong? t) e
    where
      go : (b : Bool) → (pick b (fault 3 0 0) (judge_lines reference name above 1 (lines_of t))).number ≡ 0 → Records 0 no_pos (lines_of (drop (records_at t) t))
      go true e = absurd (omega arith)
      go false e = rw zero-add at (above_records t (length t) 0 1 (omega arith) e)

  pub accepted_records : (t : List ℕ) → (judge_text reference name t).number ≡ 0 → RecordsFrom t (records_at t)
  accepted_records t e = record { records = 0; last = no_pos; clear = accepted_clear t e }

  records_few : (records : ℕ) (last : Pos) (ls : List (List ℕ)) → Records records last ls → records ≤ most_records → records + length ls ≤ most_records
  records_few records last [] r h = omega arith
  records_few records last (l ∷ ls) r h =
      let few = leb-false most_records records r.0.1.1.0 in
      let rest = records_few (records + 1) (pos_on l) ls r.1 (omega arith) in
      omega arith

  -- There are at most 512 records, by their lines and by their entries.
  pub accepted_few_lines : (t : List ℕ) → (judge_text reference name t).number ≡ 0 → length (lines_of (drop (records_at t) t)) ≤ most_records
  accepted_few_lines t e = omega (arith, records_few 0 no_pos (lines_of (drop (records_at t) t)) (accepted_clear t e) (omega arith))

  pub accepted_few : (t : List ℕ) → (judge_text reference name t).number ≡ 0 → length (entries_of t) ≤ most_records
  accepted_few t e = omega (arith, entries_length (records_at t) (lines_of (drop (records_at t) t)), accepted_few_lines t e)

  module _ (t : List ℕ) where
    pub records_here : (a : ℕ) (r : RecordsFrom t a) → a < length t → NoneHolds (record_rows reference name r.records r.last (line_at t a))
    records_here a r h = (rw (lines_at t a h) at r.clear).0

    pub records_next : (a : ℕ) → RecordsFrom t a → a < length t → RecordsFrom t (next_line t a)
    records_next a r h =
        record { records = r.records + 1; last = pos_on (line_at t a); clear = (rw (lines_at t a h) at r.clear).1 }

    pub records_order : (a : ℕ) → RecordsFrom t a → a < length t → next_line t a < length t → (pos_on (line_at t a)).0 ≤ (pos_on (line_at t (next_line t a))).0
    records_order a r h k =
        let rows = (rw (lines_at t a h, lines_at t (next_line t a) k) at r.clear).1.0 in
        record_order reference name (r.records + 1) (pos_on (line_at t a)) (line_at t (next_line t a)) rows

    pub records_skip : (i a : ℕ) → RecordsFrom t a → RecordsFrom t (skip_lines i t a)
    records_skip zero a r = rw (skip_lines_zero t a) r
    records_skip (suc i) a r = go (dec_lt a (length t)) (records_skip i (next_line t a))
      where
        go : Dec (a < length t) → (RecordsFrom t (next_line t a) → RecordsFrom t (skip_lines i t (next_line t a))) → RecordsFrom t (skip_lines (suc i) t a)
        go (yes k) f = rw (skip_lines_more t i a k) (f (records_next a r k))
        go (no k) f = rw (skip_lines_past t (suc i) a (omega arith)) r

  -- Rows 6 and 11 do not hold where no row does.
  records_readable : (records : ℕ) (last : Pos) (ls : List (List ℕ)) → Records records last ls → T (all_readable? ls)
  unfolding all_readable?
  records_readable records last [] r = tt
  records_readable records last (l ∷ ls) r =
      let line = record_line reference name records last l r.0 in
      (both (readable? l) (all_readable? ls)).1
      ((both (ten_fields? l) (not (genotype_wrong? l))).1 (line.ten, not_T (genotype_wrong? l) (of_false line.genotype)), records_readable (records + 1) (pos_on l) ls r.1)

  pub readable_records : (t : List ℕ) (a : ℕ) → RecordsFrom t a → T (readable_from? t a)
  readable_records t a r = records_readable r.records r.last (lines_of (drop a t)) r.clear

  module _ (t : List ℕ) (accepted : (judge_text reference name t).number ≡ 0) where
    pub accepted_from : (i : ℕ) → RecordsFrom t (record_at t i)
    accepted_from i = records_skip t i (records_at t) (accepted_records t accepted)

    pub accepted_line : (i : ℕ) → record_at t i < length t → RecordLine reference (line_at t (record_at t i))
    accepted_line i h =
        let r = accepted_from i in
        record_line reference name r.records r.last (line_at t (record_at t i)) (records_here t (record_at t i) r h)

    -- POS is not below the POS of the record before.
    pub accepted_order : (i : ℕ) → record_at t i < length t → record_at t (suc i) < length t
        → (pos_on (line_at t (record_at t i))).0 ≤ (pos_on (line_at t (record_at t (suc i)))).0
    accepted_order i h k =
        let e = skip_lines_next t i (records_at t) h in
        rw e (records_order t (record_at t i) (accepted_from i) h (rw e at k))
