-- Laws of the lines above the records.
--     header_of, records_of             the lines above the records; the records
--     header_split, header_bytes_lem      the lines are those two; how many bytes the first take
--     Kept, header_kept               lines that are accepted stay so with other records, as long as no row holds on those
--     records_judged                  records on which no row holds are accepted
-- Assumes nothing.
use mathlib.Core.Bool.{Bool, true, false}
use mathlib.Core.List.{List, [], ◌∷◌, ◌++◌}
use mathlib.Core.Path.{◌≡◌, refl, ap}
use Prim.Native.Nat.{ℕ, ◌+◌}
use native.Mathlib.Decide.{ℕ_discrete}
use native.Mathlib.Omega.{arith}
use lib.ListN.{length}
use Rattle.bases.specs.declared.place.Pos.{Pos}
use Rattle.fields.specs.Pos.{no_pos}
use Rattle.bases.specs.Pick.{pick}
use Rattle.vcf.specs.Entry.{header_bytes}
use Rattle.fields.specs.Header.{header_line?}
use Rattle.vcf.specs.List.{above, below_at, next_stage, line_rows, judge_lines}
use Rattle.records.specs.Record.{pos_on, record_rows}
use Rattle.records.specs.declared.row.LineFault.{LineFault}
use Rattle.records.specs.Row.{first_row}
use Rattle.vcf.proofs.AcceptedLaws.{Records}
use Rattle.vcf.proofs.ListLaws.{next_header, next_column, judge_stop, judge_more, judge_end_above, judge_end_below}
use Rattle.records.proofs.RowLaws.{first_row_none}
use Rattle.written.specs.Written.{text_of}
use Rattle.written.proofs.TextLaws.{text_cons_length}

unfoldable pub header_of : List (List ℕ) → List (List ℕ)
header_of [] = []
header_of (l ∷ ls) = let more = header_of ls in l ∷ pick (header_line? l) more []

unfoldable pub records_of : List (List ℕ) → List (List ℕ)
records_of [] = []
records_of (l ∷ ls) = let more = records_of ls in pick (header_line? l) more ls

pub header_split : (ls : List (List ℕ)) → ls ≡ header_of ls ++ records_of ls
unfolding header_of records_of
header_split [] = refl
header_split (l ∷ ls) = go (header_line? l) (header_split ls)
  where
    go : (t : Bool) → ls ≡ header_of ls ++ records_of ls → l ∷ ls ≡ (l ∷ pick t (header_of ls) []) ++ pick t (records_of ls) ls
    go true r = ap (λ (z : List (List ℕ)). l ∷ z) r
    go false r = refl

pub header_bytes_lem : (ls : List (List ℕ)) → header_bytes ls ≡ length (text_of (header_of ls))
unfolding header_bytes header_of text_of
header_bytes_lem [] = refl
header_bytes_lem (l ∷ ls) = go (header_line? l) (header_bytes_lem ls)
  where
    go : (t : Bool) → header_bytes ls ≡ length (text_of (header_of ls)) → length l + 1 + pick t (header_bytes ls) 0 ≡ length (text_of (l ∷ pick t (header_of ls) []))
    go true r = omega (arith, text_cons_length l (header_of ls))
    go false r = omega (arith, text_cons_length l [])

module _ (reference name : List ℕ) where
  pub records_judged : (records : ℕ) (last : Pos) (n : ℕ) (ls : List (List ℕ)) → Records reference name records last ls → (judge_lines reference name (below_at records last) n ls).number ≡ 0
  records_judged records last n [] h = rw (judge_end_below reference name (below_at records last) n refl)
  records_judged records last n (l ∷ ls) h =
      rw (judge_more reference name (below_at records last) n l ls (ap (λ (f : LineFault). f.number) (first_row_none (record_rows reference name records last l) h.0)))
      (records_judged (records + 1) (pos_on l) (n + 1) ls h.1)

  -- Lines above the records, with these records behind them.
  pub record Kept (n : ℕ) (hs rs : List (List ℕ)) : Type 0 where
    pub judged : (judge_lines reference name above n (hs ++ rs)).number ≡ 0
    pub header : header_of (hs ++ rs) ≡ hs
    pub records : records_of (hs ++ rs) ≡ rs

  kept_cons : (n : ℕ) (l : List ℕ) (ls rs : List (List ℕ)) → (first_row (line_rows reference name above n l)).number ≡ 0 → (judge_lines reference name (next_stage above l) (n + 1) ls).number ≡ 0
      → ((judge_lines reference name above (n + 1) ls).number ≡ 0 → Kept (n + 1) (header_of ls) rs) → Records reference name 0 no_pos rs → Kept n (header_of (l ∷ ls)) rs
  unfolding header_of records_of
  kept_cons n l ls rs z e more h = go (header_line? l) refl
    where
      go : (t : Bool) → header_line? l ≡ t → Kept n (l ∷ pick t (header_of ls) []) rs
      go true b =
          let k = more (rw (next_header above l refl b) at e) in
          record {
            judged = rw (judge_more reference name above n l (header_of ls ++ rs) z, next_header above l refl b) k.judged;
            header = rw b (ap (λ (y : List (List ℕ)). l ∷ y) k.header);
            records = rw b k.records;
          }
      go false b =
          record {
            judged = rw (judge_more reference name above n l rs z, next_column above l refl b) (records_judged 0 no_pos (n + 1) rs h);
            header = rw b;
            records = rw b;
          }

  pub header_kept : (n : ℕ) (ls rs : List (List ℕ)) → (judge_lines reference name above n ls).number ≡ 0 → Records reference name 0 no_pos rs → Kept n (header_of ls) rs
  header_kept n [] rs e h = absurd (let f = rw (judge_end_above reference name above n refl) at e in omega arith)
  header_kept n (l ∷ ls) rs e h = go (ℕ_discrete (first_row (line_rows reference name above n l)).number 0) (λ k. header_kept (n + 1) ls rs k h)
    where
      go : Dec ((first_row (line_rows reference name above n l)).number ≡ 0) → ((judge_lines reference name above (n + 1) ls).number ≡ 0 → Kept (n + 1) (header_of ls) rs) → Kept n (header_of (l ∷ ls)) rs
      go (yes z) more = kept_cons n l ls rs z (rw (judge_more reference name above n l ls z) at e) more h
      go (no z) more = absurd (z (rw (judge_stop reference name above n l ls z) at e))
