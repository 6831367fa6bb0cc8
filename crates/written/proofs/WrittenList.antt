-- The list written for an accepted list of a reference.
--     Read, Wrote              a record's line on which no row holds; a line that was written
--     record_part, record_lines, all_read     the records of the list
--     all_wrote, text_written, written_lines_lem  what is written of them
--     written_not_longer       the written text is not longer than the text read
--     written_accepted         it is an accepted list of the same reference and name
--     written_twice            writing it again gives it unchanged
-- Assumes nothing.
use mathlib.Core.Bool.{false, not}
use mathlib.Core.List.{List, [], ◌∷◌, ◌++◌}
use mathlib.Core.Path.{◌≡◌, refl, sym, ap, subst, ◌∙◌}
use Prim.Native.Nat.{ℕ, ◌+◌, ◌-◌, ◌≤◌, ◌<◌}
use native.Mathlib.Omega.{arith}
use borrow.Author.Tests.{eqb-true, not-false, eq-eqb, le-ltb}
use lib.Dec.{eqb, ltb, lit<}
use lib.ListN.{length, get_or, take, drop, length-append}
use lib.Seq.{take_at, drop_at}
use Rattle.bases.specs.declared.place.Pos.{Pos}
use Rattle.fields.specs.Pos.{no_pos}
use Rattle.bases.specs.Reference.{Bases}
use Rattle.bases.proofs.TestLaws.{neither}
use Rattle.fields.specs.Bytes.{LF}
use Rattle.vcf.specs.Entry.{records_at}
use Rattle.vcf.specs.List.{lines_of, longest_text, text_wrong?, above, judge_text}
use Rattle.records.specs.Record.{most_records, pos_on, record_rows}
use Rattle.vcf.proofs.AcceptedLaws.{Records, RecordsFrom, accepted_records, accepted_few_lines}
use Rattle.vcf.proofs.JudgeLaws.{accepted_zero, text_fits}
use Rattle.vcf.proofs.ListLaws.{judge_end_above, text_right}
use Rattle.records.proofs.RecordLineLaws.{RecordLine, record_line}
use Rattle.bases.proofs.FirstLaws.{NoneHolds}
use Rattle.written.specs.Lines.{All, Ordered}
use Rattle.written.specs.Written.{new_pos, written_line, written_lines, text_of, written_text}
use Rattle.written.proofs.HeaderLaws.{header_of, records_of, header_split, header_bytes_lem, Kept, header_kept}
use Rattle.written.proofs.OrderLaws.{written_ordered, written_all, written_count, written_bytes, written_same}
use Rattle.written.proofs.TextLaws.{all_append, all_left, all_right, all_map, lines_free, text_none, text_append, lines_text, text_lines, text_ends}
use Rattle.written.proofs.WithoutLaws.{Without}
use Rattle.written.proofs.WrittenAgain.{written_free, written_again}
use Rattle.written.proofs.WrittenLine.{written_short, written_pos}
use Rattle.written.proofs.WrittenRows.{written_rows}

module _ (reference name : List ℕ) (ok : Bases reference) where
  -- A record's line on which no row holds.
  pub record Read (l : List ℕ) : Type 0 where
    pub free : Without LF l
    pub line : RecordLine reference l
    pub rows : (n : ℕ) (before : Pos) → n < most_records → before.0 ≤ (new_pos reference l).0 → NoneHolds (record_rows reference name n before (written_line reference l))

  -- A line that was written: no row holds on it where it stands in order, and it is written as it stands.
  pub record Wrote (m : List ℕ) : Type 0 where
    pub free : Without LF m
    pub rows : (n : ℕ) (before : Pos) → n < most_records → before.0 ≤ (pos_on m).0 → NoneHolds (record_rows reference name n before m)
    pub again : written_line reference m ≡ m

  wrote : (l : List ℕ) → Read l → Wrote (written_line reference l)
  wrote l r =
      let good = ok in
      let fits = ok.short in
      let pos = written_pos reference l good r.free r.line fits in
      let new = record_line reference name 0 no_pos (written_line reference l) (r.rows 0 no_pos (lit< tt) (omega arith)) in
      record {
        free = written_free reference l good r.free r.line;
        rows = λ n before h k. r.rows n before h (rw (ap (λ (p : Pos). p.0) pos) at k);
        again = written_again reference l good r.free r.line fits new;
      }

  read_all : (records : ℕ) (last : Pos) (ls : List (List ℕ)) → All (Without LF) ls → Records reference name records last ls → All Read ls
  read_all records last [] f h = tt
  read_all records last (l ∷ ls) f h = (
    record {
      free = f.0;
      line = record_line reference name records last l h.0;
      rows = written_rows reference name l records last ok f.0 h.0;
    },
    read_all (records + 1) (pos_on l) ls f.1 h.1,
  )

  wrote_records : (n : ℕ) (before : Pos) (ms : List (List ℕ)) → All Wrote ms → Ordered before ms → n + length ms ≤ most_records → Records reference name n before ms
  wrote_records n before [] h o k = tt
  wrote_records n before (m ∷ ms) h o k = (h.0.rows n before (omega arith) o.0, wrote_records (n + 1) (pos_on m) ms h.1 o.1 (omega arith))

  module _ (t : List ℕ) (accepted : (judge_text reference name t).number ≡ 0) where
    -- The lines above the records, the records, and what is written of them.
    abbrev hs : List (List ℕ)
    hs = header_of (lines_of t)

    abbrev rs : List (List ℕ)
    rs = records_of (lines_of t)

    abbrev ws : List (List ℕ)
    ws = written_lines reference [] rs

    right : text_wrong? t ≡ false
    right = (accepted_zero reference name t accepted).fits

    whole : text_of (lines_of t) ≡ t
    whole =
        let e = (neither (ltb longest_text (length t)) (not (eqb (get_or t (length t - 1) 0) LF)) right).1 in
        text_lines t (eqb-true (get_or t (length t - 1) 0) LF (not-false (eqb (get_or t (length t - 1) 0) LF) e))

    parts : t ≡ text_of hs ++ text_of rs
    parts = sym whole ∙ ap text_of (header_split (lines_of t)) ∙ text_append hs rs

    all_free : All (Without LF) (hs ++ rs)
    all_free = subst (All (Without LF)) (header_split (lines_of t)) (lines_free t)

    pub header_part : take (records_at t) t ≡ text_of hs
    header_part = ap (take (records_at t)) parts ∙ take_at (text_of hs) (text_of rs) (records_at t) (sym (header_bytes_lem (lines_of t)))

    pub record_part : drop (records_at t) t ≡ text_of rs
    record_part = ap (drop (records_at t)) parts ∙ drop_at (text_of hs) (text_of rs) (records_at t) (sym (header_bytes_lem (lines_of t)))

    pub record_lines : lines_of (drop (records_at t) t) ≡ rs
    record_lines = ap lines_of record_part ∙ lines_text rs (all_right (Without LF) hs rs all_free)

    clear : RecordsFrom reference name t (records_at t)
    clear = accepted_records reference name t accepted

    records : Records reference name clear.records clear.last rs
    records = subst (Records reference name clear.records clear.last) record_lines clear.clear

    pub all_read : All Read rs
    all_read = read_all clear.records clear.last rs (all_right (Without LF) hs rs all_free) records

    pub all_wrote : All Wrote ws
    all_wrote = written_all reference Wrote Read wrote [] rs tt all_read

    wrote_clear : Records reference name 0 no_pos ws
    wrote_clear = wrote_records 0 no_pos ws all_wrote (written_ordered reference [] rs tt)
        (omega (arith, ap length record_lines, accepted_few_lines reference name t accepted, written_count reference [] rs))

    pub text_written : written_text reference t ≡ text_of (hs ++ ws)
    unfolding written_text
    text_written = rw (header_part, record_lines) (sym (text_append hs ws))

    pub written_not_longer : length (written_text reference t) ≤ length t
    written_not_longer =
        let short = all_map Read (λ l. length (written_line reference l) ≤ length l) (λ l r. written_short reference l ok r.free r.line) rs all_read in
        omega (
          arith,
          ap length text_written,
          ap length (text_append hs ws),
          length-append (text_of hs) (text_of ws),
          ap length parts,
          length-append (text_of hs) (text_of rs),
          written_bytes reference [] rs short,
          ap length text_none,
        )

    lines_written : lines_of (written_text reference t) ≡ hs ++ ws
    lines_written =
        ap lines_of text_written
        ∙ lines_text (hs ++ ws) (all_append (Without LF) hs ws (all_left (Without LF) hs rs all_free) (all_map Wrote (Without LF) (λ m w. w.free) ws all_wrote))

    kept : Kept reference name 1 hs ws
    kept = header_kept reference name 1 (lines_of t) ws (rw (text_right reference name t right) at accepted) wrote_clear

    written_right : text_wrong? (written_text reference t) ≡ false
    written_right =
        let w = written_text reference t in
        let some : hs ++ ws ≡ [] → ⊥ = λ e. let f = rw (e, judge_end_above reference name above 1 refl) at kept.judged in omega arith in
        let last : get_or w (length w - 1) 0 ≡ LF = ap (λ (x : List ℕ). get_or x (length x - 1) 0) text_written ∙ text_ends (hs ++ ws) some in
        rw (le-ltb longest_text (length w) (omega (arith, written_not_longer, text_fits t right)), eq-eqb (get_or w (length w - 1) 0) LF last)

    pub written_accepted : (judge_text reference name (written_text reference t)).number ≡ 0
    written_accepted = rw (text_right reference name (written_text reference t) written_right, lines_written) kept.judged

  pub written_lines_lem : (t : List ℕ) (accepted : (judge_text reference name t).number ≡ 0)
      → lines_of (drop (records_at (written_text reference t)) (written_text reference t)) ≡ written_lines reference [] (records_of (lines_of t))
  written_lines_lem t accepted =
      record_lines (written_text reference t) (written_accepted t accepted) ∙ ap records_of (lines_written t accepted) ∙ (kept t accepted).records

  pub written_twice : (t : List ℕ) → (judge_text reference name t).number ≡ 0 → written_text reference (written_text reference t) ≡ written_text reference t
  written_twice t accepted =
      let w = written_text reference t in
      let hs = header_of (lines_of t) in
      let ws = written_lines reference [] (records_of (lines_of t)) in
      let k = kept t accepted in
      let lines = lines_written t accepted in
      let header : header_of (lines_of w) ≡ hs = ap header_of lines ∙ k.header in
      let rest : records_of (lines_of w) ≡ ws = ap records_of lines ∙ k.records in
      let same : written_lines reference [] ws ≡ ws =
      written_same reference [] ws (all_map Wrote (λ m. written_line reference m ≡ m) (λ m h. h.again) ws (all_wrote t accepted)) (written_ordered reference [] (records_of (lines_of t)) tt) in
      text_written w (written_accepted t accepted) ∙ rw (header, rest, same) (sym (text_written t accepted))
