-- Laws of lines and entries, by where they begin in their text.
--     line_length, line_within         the line at a place: its length, and that it ends within the text
--     header_stop, header_more, header_past
--                                      where the records begin, from a header line on, and at the end
--     above_stop, above_more, above_past
--                                      how many lines stand above them, likewise
--     skip_lines_zero, skip_lines_past, skip_lines_more, skip_lines_next
--                                      some lines on: none, from the end, from a line, and one more
--     readable_here, readable_next     where each line from a place on is readable, so is the one there, and each behind it
--     entries_at_lem, entries_past         the entries from a place on: the first and the rest, and at the end
--     entry_there, entry_none          the entry some lines on
--     entry_number_lem, entries_iff        entry i of a text, and whether there is one
--     entry_is                         what is read off a line, field by field, is its entry
--     readable_ten, readable_right     what a line has off which an entry can be read
-- Assumes nothing.
use mathlib.Core.Bool.{true, false, not}
use mathlib.Core.List.{List, [], ◌∷◌}
use mathlib.Core.Logic.{◌↔◌}
use mathlib.Core.Path.{◌≡◌, refl, ap, ◌∙◌}
use Prim.Native.Nat.{ℕ, zero, suc, ◌+◌, ◌-◌, ◌≤◌, ◌<◌}
use native.Mathlib.Decide.{dec_lt}
use native.Mathlib.Omega.{arith}
use borrow.Author.Tests.{le-leb, lt-leb}
use lib.Dec.{T, T_not}
use lib.ListN.{length, get_or, drop}
use lib.Seq.{length-take-le}
use Rattle.bases.specs.declared.place.Pos.{Pos}
use Rattle.vcf.specs.declared.entry.Entry.{Entry}
use Rattle.fields.specs.Allele.{alt_count}
use Rattle.fields.specs.Bytes.{LF, COMMA, until}
use Rattle.vcf.specs.Entry.{part, line_at, next_line, entry_of, header_bytes, records_at, header_lines, entries_from, entries_of, readable?, all_readable?, readable_from?, skip_lines, record_at}
use Rattle.fields.specs.Field.{field_at, field, ten_fields?}
use Rattle.fields.specs.Genotype.{copy0, copy1}
use Rattle.fields.specs.Header.{header_line?}
use Rattle.records.specs.Record.{pos_on, genotype_on, genotype_wrong?}
use Rattle.vcf.specs.List.{lines_of}
use Rattle.bases.proofs.TestLaws.{both, is_false}
use Rattle.fields.proofs.BytesLaws.{until_le}
use Rattle.fields.proofs.FieldLaws.{until_within}
use Rattle.vcf.proofs.ListLaws.{lines_at, lines_past}

module _ (t : List ℕ) where
  pub line_length : (a : ℕ) → length (line_at t a) ≡ until LF (drop a t)
  line_length a = length-take-le (until LF (drop a t)) (drop a t) (until_le LF (drop a t))

  pub line_within : (a : ℕ) → a ≤ length t → a + length (line_at t a) ≤ length t
  line_within a h = omega (arith, line_length a, until_within LF t a)

  pub header_stop : (a : ℕ) → a < length t → header_line? (line_at t a) ≡ false → a + header_bytes (lines_of (drop a t)) ≡ next_line t a
  unfolding header_bytes
  header_stop a h e = rw (lines_at t a h, e, line_length a) (omega arith)

  pub header_more : (a : ℕ) → a < length t → header_line? (line_at t a) ≡ true → a + header_bytes (lines_of (drop a t)) ≡ next_line t a + header_bytes (lines_of (drop (next_line t a) t))
  unfolding header_bytes
  header_more a h e = rw (lines_at t a h, e, line_length a) (omega arith)

  pub header_past : (a : ℕ) → length t ≤ a → header_bytes (lines_of (drop a t)) ≡ 0
  unfolding header_bytes
  header_past a h = rw (lines_past t a h)

  pub above_stop : (a : ℕ) → a < length t → header_line? (line_at t a) ≡ false → header_lines (lines_of (drop a t)) ≡ 1
  unfolding header_lines
  above_stop a h e = rw (lines_at t a h, e)

  pub above_more : (a : ℕ) → a < length t → header_line? (line_at t a) ≡ true → header_lines (lines_of (drop a t)) ≡ 1 + header_lines (lines_of (drop (next_line t a) t))
  unfolding header_lines
  above_more a h e = rw (lines_at t a h, e)

  pub above_past : (a : ℕ) → length t ≤ a → header_lines (lines_of (drop a t)) ≡ 0
  unfolding header_lines
  above_past a h = rw (lines_past t a h)

  pub skip_lines_past : (i a : ℕ) → length t ≤ a → skip_lines i t a ≡ a
  unfolding skip_lines
  skip_lines_past zero a h = refl
  skip_lines_past (suc i) a h = rw (le-leb (length t) a h)

  pub skip_lines_more : (i a : ℕ) → a < length t → skip_lines (suc i) t a ≡ skip_lines i t (next_line t a)
  unfolding skip_lines
  skip_lines_more i a h = rw (lt-leb (length t) a h)

  pub skip_lines_zero : (a : ℕ) → skip_lines 0 t a ≡ a
  unfolding skip_lines
  skip_lines_zero a = refl

  pub skip_lines_next : (i a : ℕ) → skip_lines i t a < length t → skip_lines (suc i) t a ≡ next_line t (skip_lines i t a)
  skip_lines_next zero a h =
      let e = skip_lines_zero a in
      rw e (skip_lines_more 0 a (rw e at h) ∙ skip_lines_zero (next_line t a))
  skip_lines_next (suc i) a h = go (dec_lt a (length t)) (skip_lines_next i (next_line t a))
    where
      go : Dec (a < length t) → (skip_lines i t (next_line t a) < length t → skip_lines (suc i) t (next_line t a) ≡ next_line t (skip_lines i t (next_line t a)))
          → skip_lines (suc (suc i)) t a ≡ next_line t (skip_lines (suc i) t a)
      go (yes k) r =
          let e = skip_lines_more i a k in
          rw (skip_lines_more (suc i) a k, e) (r (rw e at h))
      go (no k) r = absurd (omega (arith, skip_lines_past (suc i) a (omega arith)))

  pub readable_here : (a : ℕ) → a < length t → T (readable_from? t a) → T (readable? (line_at t a))
  unfolding all_readable?
  readable_here a h r = ((both (readable? (line_at t a)) (readable_from? t (next_line t a))).0 (rw (lines_at t a h) at r)).0

  pub readable_next : (a : ℕ) → a < length t → T (readable_from? t a) → T (readable_from? t (next_line t a))
  unfolding all_readable?
  readable_next a h r = ((both (readable? (line_at t a)) (readable_from? t (next_line t a))).0 (rw (lines_at t a h) at r)).1

  -- The entries on the lines from a on.
  abbrev pub entries_at : ℕ → List Entry
  entries_at a = entries_from a (lines_of (drop a t))

  pub entries_at_lem : (a : ℕ) → a < length t → entries_at a ≡ entry_of (line_at t a) a ∷ entries_at (next_line t a)
  unfolding entries_from
  entries_at_lem a h =
      rw (lines_at t a h)
      (ap (λ (n : ℕ). entry_of (line_at t a) a ∷ entries_from (a + n + 1) (lines_of (drop (next_line t a) t))) (line_length a))

  pub entries_past : (a : ℕ) → length t ≤ a → entries_at a ≡ []
  unfolding entries_from
  entries_past a h = rw (lines_past t a h)

  pub entry_there : (i a : ℕ) (d : Entry) → skip_lines i t a < length t
      → (i < length (entries_at a)) × (get_or (entries_at a) i d ≡ entry_of (line_at t (skip_lines i t a)) (skip_lines i t a))
  entry_there zero a d h = rw (skip_lines_zero a) (go (rw (skip_lines_zero a) at h))
    where
      go : a < length t → (0 < length (entries_at a)) × (get_or (entries_at a) 0 d ≡ entry_of (line_at t a) a)
      go k = rw (entries_at_lem a k) (omega arith, refl)
  entry_there (suc i) a d h = go (dec_lt a (length t)) (entry_there i (next_line t a) d)
    where
      There : ℕ → ℕ → Type 0
      There i a = (i < length (entries_at a)) × (get_or (entries_at a) i d ≡ entry_of (line_at t (skip_lines i t a)) (skip_lines i t a))

      go : Dec (a < length t) → (skip_lines i t (next_line t a) < length t → There i (next_line t a)) → There (suc i) a
      go (yes k) r =
          let s = r (rw (skip_lines_more i a k) at h) in
          rw (skip_lines_more i a k, entries_at_lem a k) (omega arith, s.1)
      go (no k) r = absurd (omega (arith, skip_lines_past (suc i) a (omega arith)))

  pub entry_none : (i a : ℕ) → length t ≤ skip_lines i t a → length (entries_at a) ≤ i
  entry_none zero a h = rw (entries_past a (rw (skip_lines_zero a) at h)) (omega arith)
  entry_none (suc i) a h = go (dec_lt a (length t)) (entry_none i (next_line t a))
    where
      go : Dec (a < length t) → (length t ≤ skip_lines i t (next_line t a) → length (entries_at (next_line t a)) ≤ i) → length (entries_at a) ≤ suc i
      go (yes k) r =
          let s = r (rw (skip_lines_more i a k) at h) in
          rw (entries_at_lem a k) (omega arith)
      go (no k) r = rw (entries_past a (omega arith)) (omega arith)

  pub entry_number_lem : (i : ℕ) (d : Entry) → record_at t i < length t → get_or (entries_of t) i d ≡ entry_of (line_at t (record_at t i)) (record_at t i)
  entry_number_lem i d h = (entry_there i (records_at t) d h).1

  pub entries_iff : (i : ℕ) → (i < length (entries_of t)) ↔ (record_at t i < length t)
  entries_iff i = (λ h. go h (dec_lt (record_at t i) (length t)), λ h. (entry_there i (records_at t) (entry_of [] 0) h).0)
    where
      go : i < length (entries_of t) → Dec (record_at t i < length t) → record_at t i < length t
      go h (yes k) = k
      go h (no k) = absurd (omega (arith, entry_none i (records_at t) (omega arith)))

pub entry_is : (l : List ℕ) (a : ℕ) {p : Pos} {r k end m n : ℕ} {bases alt g : List ℕ}
    → p ≡ pos_on l → r ≡ a + field_at 3 l → bases ≡ field 3 l → k ≡ a + field_at 4 l → alt ≡ field 4 l → end ≡ until COMMA alt
    → m ≡ length alt - (end + 1) → n ≡ alt_count alt → g ≡ genotype_on l
    → ◌≡◌ {A = Entry} record {
      pos = p;
      reference = part r (length bases);
      first = part k end;
      second = part (k + end + 1) m;
      alts = n;
      copy0 = copy0 g;
      copy1 = copy1 g;
    } (entry_of l a)
entry_is l a e1 e2 e3 e4 e5 e6 e7 e8 e9 = cc

-- a line off which an entry can be read has ten fields and a genotype
pub readable_ten : (l : List ℕ) → T (readable? l) → T (ten_fields? l)
readable_ten l t = ((both (ten_fields? l) (not (genotype_wrong? l))).0 t).0

pub readable_right : (l : List ℕ) → T (readable? l) → genotype_wrong? l ≡ false
readable_right l t = is_false (genotype_wrong? l) (T_not (genotype_wrong? l) ((both (ten_fields? l) (not (genotype_wrong? l))).0 t).1)
