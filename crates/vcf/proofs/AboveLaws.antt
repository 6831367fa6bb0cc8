-- Laws of the lines above the records, and of the line that an entry stands on.
--     above_few         no more lines stand above the records than the text has bytes
--     above_bytes       they take no more bytes than the text has with an LF at its end
--     above_lines       behind them the lines are those of the records
--     line_there        the line some lines on
--     entry_line_lem        entry i stands on the i-th line behind those above the records
-- Assumes nothing.
use mathlib.Core.Bool.{Bool, true, false}
use mathlib.Core.List.{List, [], ◌∷◌}
use mathlib.Core.Path.{◌≡◌, refl, sym, ap, ◌∙◌}
use Prim.Native.Nat.{ℕ, zero, suc, ◌+◌, ◌-◌, ◌≤◌, ◌<◌}
use native.Mathlib.Decide.{dec_lt}
use native.Mathlib.Omega.{arith}
use lib.Dec.{eqb}
use lib.ListN.{length, get_or, drop}
use lib.Seq.{get_or-drop}
use Rattle.bases.specs.Pick.{pick}
use Rattle.vcf.specs.declared.entry.Entry.{Entry}
use Rattle.vcf.specs.Entry.{line_at, next_line, entry_of, header_bytes, records_at, header_lines, lines_above, entries_of, skip_lines, record_at}
use Rattle.fields.specs.Header.{header_line?}
use Rattle.fields.specs.Bytes.{LF}
use Rattle.vcf.specs.List.{onto, lines_of}
use Rattle.vcf.proofs.EntryLaws.{header_stop, header_more, header_past, above_stop, above_more, above_past, skip_lines_zero, skip_lines_past, skip_lines_more, entry_number_lem, entries_iff}
use Rattle.vcf.proofs.JudgeLaws.{lines_few}
use Rattle.vcf.proofs.ListLaws.{lines_at}

above_le : (ls : List (List ℕ)) → header_lines ls ≤ length ls
unfolding header_lines
above_le [] = omega arith
above_le (l ∷ ls) = go (header_line? l) (above_le ls)
  where
    go : (t : Bool) → header_lines ls ≤ length ls → 1 + pick t (header_lines ls) 0 ≤ suc (length ls)
    go true h = omega arith
    go false h = omega arith

pub above_few : (t : List ℕ) → lines_above t ≤ length t
above_few t = omega (arith, above_le (lines_of t), lines_few t)

-- How many bytes lines take with an LF behind each.
abbrev bytes_with_ends : List (List ℕ) → ℕ
bytes_with_ends [] = 0
bytes_with_ends (l ∷ ls) = length l + 1 + bytes_with_ends ls

lines_bytes : (t : List ℕ) → bytes_with_ends (lines_of t) ≤ length t + 1
unfolding lines_of
lines_bytes [] = omega arith
lines_bytes (b ∷ bs) = go (eqb b LF) (lines_of bs) (lines_bytes bs)
  where
    go : (t : Bool) (ls : List (List ℕ)) → bytes_with_ends ls ≤ length bs + 1 → bytes_with_ends (pick t ([] ∷ ls) (onto b ls)) ≤ suc (length bs) + 1
    go true ls h = omega arith
    go false [] h = omega arith
    go false (l ∷ ls) h = omega arith

header_bytes_le : (ls : List (List ℕ)) → header_bytes ls ≤ bytes_with_ends ls
unfolding header_bytes
header_bytes_le [] = omega arith
header_bytes_le (l ∷ ls) = go (header_line? l) (header_bytes_le ls)
  where
    go : (t : Bool) → header_bytes ls ≤ bytes_with_ends ls → length l + 1 + pick t (header_bytes ls) 0 ≤ length l + 1 + bytes_with_ends ls
    go true h = omega arith
    go false h = omega arith

pub above_bytes : (t : List ℕ) → records_at t ≤ length t + 1
above_bytes t = omega (arith, header_bytes_le (lines_of t), lines_bytes t)

module _ (t : List ℕ) where
  above_end : (a : ℕ) → length t ≤ a → lines_of (drop (a + header_bytes (lines_of (drop a t))) t) ≡ drop (header_lines (lines_of (drop a t))) (lines_of (drop a t))
  above_end a p =
      let z : a + header_bytes (lines_of (drop a t)) ≡ a = omega (arith, header_past t a p) in
      rw (z, above_past t a p)

  -- from a on
  above_from : (fuel a : ℕ) → length t - a ≤ fuel → lines_of (drop (a + header_bytes (lines_of (drop a t))) t) ≡ drop (header_lines (lines_of (drop a t))) (lines_of (drop a t))
  above_from zero a h =
      let p : length t ≤ a = omega arith in
      above_end a p
  above_from (suc fuel) a h = go (dec_lt a (length t)) (header_line? (line_at t a)) refl (above_from fuel (next_line t a) (omega arith))
    where
      Above : ℕ → Type 0
      Above a = lines_of (drop (a + header_bytes (lines_of (drop a t))) t) ≡ drop (header_lines (lines_of (drop a t))) (lines_of (drop a t))

      go : Dec (a < length t) → (b : Bool) → header_line? (line_at t a) ≡ b → Above (next_line t a) → Above a
      go (no k) b e r = above_end a (omega arith)
      go (yes k) true e r =
          let one : 1 + header_lines (lines_of (drop (next_line t a) t)) ≡ suc (header_lines (lines_of (drop (next_line t a) t))) = omega arith in
          rw (header_more t a k e, above_more t a k e, one, lines_at t a k) r
      go (yes k) false e r = rw (header_stop t a k e, above_stop t a k e, lines_at t a k)

  pub above_lines : lines_of (drop (records_at t) t) ≡ drop (lines_above t) (lines_of t)
  above_lines =
      let e : 0 + records_at t ≡ records_at t = omega arith in
      rw e at (above_from (length t) 0 (omega arith))

  pub line_there : (i a : ℕ) → skip_lines i t a < length t → get_or (lines_of (drop a t)) i [] ≡ line_at t (skip_lines i t a)
  line_there zero a h = rw (skip_lines_zero t a) (go (rw (skip_lines_zero t a) at h))
    where
      go : a < length t → get_or (lines_of (drop a t)) 0 [] ≡ line_at t a
      go k = rw (lines_at t a k)
  line_there (suc i) a h = go (dec_lt a (length t)) (line_there i (next_line t a))
    where
      go : Dec (a < length t) → (skip_lines i t (next_line t a) < length t → get_or (lines_of (drop (next_line t a) t)) i [] ≡ line_at t (skip_lines i t (next_line t a)))
          → get_or (lines_of (drop a t)) (suc i) [] ≡ line_at t (skip_lines (suc i) t a)
      go (yes k) r = rw (skip_lines_more t i a k, lines_at t a k) (r (rw (skip_lines_more t i a k) at h))
      go (no k) r = absurd (omega (arith, skip_lines_past t (suc i) a (omega arith)))

  pub entry_line_lem : (i : ℕ) (d : Entry) → i < length (entries_of t) → get_or (entries_of t) i d ≡ entry_of (get_or (lines_of t) (lines_above t + i) []) (record_at t i)
  entry_line_lem i d h =
      let k = (entries_iff t i).0 h in
      let l : get_or (lines_of t) (lines_above t + i) [] ≡ line_at t (record_at t i) =
      sym (get_or-drop (lines_above t) (lines_of t) i []) ∙ ap (λ (ls : List (List ℕ)). get_or ls i []) (sym above_lines) ∙ line_there i (records_at t) k in
      entry_number_lem t i d k ∙ ap (λ (x : List ℕ). entry_of x (record_at t i)) (sym l)
