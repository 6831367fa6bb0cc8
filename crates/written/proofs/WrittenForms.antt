-- What is read of a written line: the normal form of the entry read. The written lines stand by new POS, equal POS in the order read.
--     line_form, line_form_lem      the entry on a line, which is the entry there in a text
--     put_read, in_order         the records read, by new POS, equal POS in the order read
--     lines_in_order           the written records are those lines, each written
--     written_normal           each record's line is written as its normal form: the same donor, ALT by ALT
--     normal_line_form         which is what the closed form gives
-- Assumes nothing.
use mathlib.Core.Bool.{Bool, true, false}
use mathlib.Core.List.{List, [], ◌∷◌, map}
use mathlib.Core.Path.{◌≡◌, refl, sym, ap, ◌∙◌}
use Prim.Native.Nat.{ℕ, ◌+◌, ◌≤◌}
use native.Mathlib.Omega.{arith}
use lib.Dec.{T, eqb, ltb, lit<}
use lib.ListN.{length, take, drop}
use Rattle.fields.specs.Pos.{no_pos}
use Rattle.bases.specs.declared.place.Pos.{Pos}
use Rattle.bases.specs.Letter.{bases_of}
use Rattle.bases.specs.Pick.{pick}
use Rattle.bases.specs.Reference.{Bases}
use Rattle.bases.proofs.PartLaws.{part_part}
use Rattle.fields.specs.Allele.{alt_count}
use Rattle.fields.specs.Bytes.{COMMA, until}
use Rattle.vcf.specs.Entry.{bytes_of, entry_of}
use Rattle.fields.specs.Field.{field, field_at}
use Rattle.vcf.specs.List.{lines_of, judge_text}
use Rattle.records.specs.Record.{pos_on}
use Rattle.records.proofs.RecordLineLaws.{record_line}
use Rattle.normal.specs.Form.{Form, NormalForm}
use Rattle.normal.specs.Cut.{normal_of}
use Rattle.normal.specs.Spelled.{form_of, Within, Stands, form_spelled}
use Rattle.written.specs.Lines.{All}
use Rattle.written.specs.Written.{new_on, new_pos, written_line, put_line, written_lines}
use Rattle.written.proofs.HeaderLaws.{records_of}
use Rattle.normal.proofs.NormalEntry.{normal_entry_form}
use Rattle.written.proofs.RecordEntryLaws.{line_stands, line_normal}
use Rattle.written.proofs.TextLaws.{all_map}
use Rattle.written.proofs.WrittenAgain.{alts_same, same_form, written_form}
use Rattle.written.proofs.WrittenLine.{written_pos}
use Rattle.written.proofs.WrittenList.{Read, all_read}

-- What the entry on a line spells.
abbrev pub line_form : List ℕ → List ℕ → Form
line_form reference l = form_of reference l (entry_of l 0)

-- The line l stands at a in the text t.
module _ (t : List ℕ) (a : ℕ) (l : List ℕ) (there : take (length l) (drop a t) ≡ l) where
  pub bytes_in : (p q s n : ℕ) → q ≡ a + p → s ≡ p → p + n ≤ length l → take n (drop q t) ≡ take n (drop s l)
  bytes_in p q s n e f h = rw (e, f) (sym (part_part t a (length l) p n h) ∙ ap (λ (x : List ℕ). take n (drop p x)) there)

  pub line_form_lem : (reference : List ℕ) → Stands reference l (entry_of l 0) → form_of reference t (entry_of l a) ≡ line_form reference l
  line_form_lem reference st = same_form refl refl (alts_same (eqb (alt_count (field 4 l)) 2) first (second (eqb (alt_count (field 4 l)) 2) st.second))
    where
      first : bases_of (bytes_of t (entry_of l a).first) ≡ bases_of (bytes_of l (entry_of l 0).first)
      first = ap bases_of (bytes_in (field_at 4 l) (a + field_at 4 l) (0 + field_at 4 l) (until COMMA (field 4 l)) refl (omega arith) (omega (arith, st.first.1)))

      second : (u : Bool) → Within l (pick u (entry_of l 0).second (entry_of l 0).first) → T u → bases_of (bytes_of t (entry_of l a).second) ≡ bases_of (bytes_of l (entry_of l 0).second)
      second true w v =
          ap bases_of (bytes_in (field_at 4 l + until COMMA (field 4 l) + 1) (entry_of l a).second.at (entry_of l 0).second.at (entry_of l 0).second.len (omega arith) (omega arith)
          (omega (arith, w.1)))
      second false w v = absurd v

module _ (reference : List ℕ) where
  -- A record read, put among records by new POS: behind each whose new POS is not above its own.
  unfoldable pub put_read : List ℕ → List (List ℕ) → List (List ℕ)
  put_read l [] = l ∷ []
  put_read l (m ∷ ms) = let more = put_read l ms in pick (ltb (new_pos reference l).0 (new_pos reference m).0) (l ∷ m ∷ ms) (m ∷ more)

  -- The records read, by new POS, equal POS in the order read.
  unfoldable pub in_order : List (List ℕ) → List (List ℕ) → List (List ℕ)
  in_order done [] = done
  in_order done (l ∷ ls) = in_order (put_read l done) ls

  put_read_all : (P : List ℕ → Type 0) (l : List ℕ) (ms : List (List ℕ)) → P l → All P ms → All P (put_read l ms)
  unfolding put_read
  put_read_all P l [] h k = (h, tt)
  put_read_all P l (m ∷ ms) h k = go (ltb (new_pos reference l).0 (new_pos reference m).0) (put_read_all P l ms h k.1)
    where
      go : (u : Bool) → All P (put_read l ms) → All P (pick u (l ∷ m ∷ ms) (m ∷ put_read l ms))
      go true r = (h, k)
      go false r = (k.0, r)

  -- A line is written at its new POS.
  abbrev At : List ℕ → Type 0
  At l = pos_on (written_line reference l) ≡ new_pos reference l

  put_map : (l : List ℕ) (ms : List (List ℕ)) → At l → All At ms → put_line (written_line reference l) (map (written_line reference) ms) ≡ map (written_line reference) (put_read l ms)
  unfolding put_line put_read
  put_map l [] h k = refl
  put_map l (m ∷ ms) h k = rw (ap (λ (p : Pos). p.0) h, ap (λ (p : Pos). p.0) k.0) (go (ltb (new_pos reference l).0 (new_pos reference m).0) (put_map l ms h k.1))
    where
      go : (u : Bool) → put_line (written_line reference l) (map (written_line reference) ms) ≡ map (written_line reference) (put_read l ms)
          → pick u (written_line reference l ∷ written_line reference m ∷ map (written_line reference) ms) (written_line reference m ∷ put_line (written_line reference l) (map (written_line reference) ms))
          ≡ map (written_line reference) (pick u (l ∷ m ∷ ms) (m ∷ put_read l ms))
      go true r = refl
      go false r = ap (λ (z : List (List ℕ)). written_line reference m ∷ z) r

  pub written_in_order : (done ls : List (List ℕ)) → All At done → All At ls → written_lines reference (map (written_line reference) done) ls ≡ map (written_line reference) (in_order done ls)
  unfolding written_lines in_order
  written_in_order done [] h k = refl
  written_in_order done (l ∷ ls) h k = rw (put_map l done k.0 h) (written_in_order (put_read l done) ls (put_read_all At l done k.0 h) k.1)

module _ (reference name : List ℕ) (ok : Bases reference) where
  pub read_stands : (l : List ℕ) → Read reference name ok l → Stands reference l (entry_of l 0)
  read_stands l r = line_stands reference l ok r.free r.line

  written_line_form : (l : List ℕ) → Read reference name ok l → line_form reference (written_line reference l) ≡ form_spelled reference l (alt_count (field 4 l)) (new_on reference l)
  written_line_form l r =
      written_form reference l ok r.free r.line ok.short
      (record_line reference name 0 no_pos (written_line reference l) (r.rows 0 no_pos (lit< tt) (omega arith)))

  pub written_normal : (l : List ℕ) → Read reference name ok l → NormalForm reference (line_form reference l) (line_form reference (written_line reference l))
  written_normal l r = rw (written_line_form l r) (line_normal reference l ok r.free r.line)

  pub normal_line_form : (l : List ℕ) → Read reference name ok l → line_form reference (written_line reference l) ≡ normal_of reference (line_form reference l)
  normal_line_form l r = written_line_form l r ∙ normal_entry_form reference l (entry_of l 0) (read_stands l r)

  module _ (t : List ℕ) (accepted : (judge_text reference name t).number ≡ 0) where
    abbrev rs : List (List ℕ)
    rs = records_of (lines_of t)

    pub lines_in_order : written_lines reference [] rs ≡ map (written_line reference) (in_order reference [] rs)
    lines_in_order =
        let read = all_read reference name ok t accepted in
        let at = all_map (Read reference name ok) (At reference) (λ l r. written_pos reference l ok r.free r.line ok.short) rs read in
        written_in_order reference [] rs tt at
