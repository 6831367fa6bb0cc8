-- POS of a record, read where it stands in the text: what is behind the line does not matter.
--     pos_inside     the field begins within the text
--     pos_field      it is the line's field
-- Assumes nothing.
use mathlib.Core.Bool.{not}
use mathlib.Core.List.{List, ◌++◌}
use mathlib.Core.Path.{◌≡◌, refl, sym, ap, ◌∙◌}
use Prim.Native.Nat.{ℕ, ◌+◌, ◌≤◌, ◌<◌}
use native.Mathlib.Nat.{zero-add}
use native.Mathlib.Omega.{arith}
use lib.Dec.{T}
use lib.ListN.{length, take, drop, length-drop, take-append-drop}
use lib.Seq.{drop-drop, drop-append-le, take-append-le}
use Rattle.bases.proofs.TestLaws.{both}
use Rattle.fields.specs.Bytes.{LF, TAB, until}
use Rattle.vcf.specs.Entry.{line_at, readable_from?}
use Rattle.fields.specs.Field.{skip, field_at, field_from, field, ten_fields?}
use Rattle.records.specs.Record.{genotype_wrong?}
use Rattle.fields.proofs.BytesLaws.{until_front}
use Rattle.vcf.proofs.EntryLaws.{line_within, readable_here}
use Rattle.fields.proofs.FieldLaws.{field_within}

module _ (t : List ℕ) (a : ℕ) (h : a < length t) (r : T (readable_from? t a)) where
  abbrev l : List ℕ
  l = line_at t a

  -- what stands behind the line, its LF first
  abbrev rest : List ℕ
  rest = drop (until LF (drop a t)) (drop a t)

  split : drop a t ≡ line_at t a ++ drop (until LF (drop a t)) (drop a t)
  split = sym (take-append-drop (until LF (drop a t)) (drop a t))

  ten : T (ten_fields? (line_at t a))
  ten = ((both (ten_fields? l) (not (genotype_wrong? l))).0 (readable_here t a h r)).0

  one : field_at 1 (line_at t a) ≡ until TAB (line_at t a) + 1
  unfolding skip
  one = ap (λ (n : ℕ). n + 1) (zero-add (until TAB l))

  two : field_at 2 (line_at t a) ≡ field_at 1 (line_at t a) + until TAB (drop (field_at 1 (line_at t a)) (line_at t a)) + 1
  unfolding skip
  two = refl

  from : a + until TAB (drop a t) + 1 ≡ a + field_at 1 (line_at t a)
  from =
      let e : until TAB (drop a t) ≡ until TAB l = ap (until TAB) split ∙ until_front TAB l rest (omega (arith, one, field_within l 1 ten (omega arith))) in
      omega (arith, e, one)

  pub pos_inside : a + until TAB (drop a t) + 1 ≤ length t
  pos_inside = omega (arith, from, field_within l 1 ten (omega arith), line_within t a (omega arith))

  pub pos_field : field_from t (a + until TAB (drop a t) + 1) ≡ field 1 (line_at t a)
  pos_field =
      let p = field_at 1 l in
      let inside = field_within l 1 ten (omega arith) in
      let behind : drop (a + p) t ≡ drop p l ++ rest = sym (drop-drop p a t) ∙ ap (drop p) split ∙ drop-append-le p l rest (omega arith) in
      let ends : until TAB (drop p l) < length (drop p l) = omega (arith, two, field_within l 2 ten (omega arith), length-drop p l) in
      ap (field_from t) from
      ∙ ap (λ (d : List ℕ). take (until TAB d) d) behind
      ∙ ap (λ (n : ℕ). take n (drop p l ++ rest)) (until_front TAB (drop p l) rest ends)
      ∙ take-append-le (until TAB (drop p l)) (drop p l) rest (omega arith)
