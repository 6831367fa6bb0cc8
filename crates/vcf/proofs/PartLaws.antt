-- The parts of an entry are parts of its text: they end within it, and they hold the bytes of REF and the ALTs of the entry's line.
--     field_end                        a field ends within the text
--     field_part                       a part of a field is a part of the text
--     reference_within, reference_bytes, first_within, first_bytes, second_within, second_bytes
--                                      REF, the first ALT and the second
--     second_empty                     where there is one ALT, the second part is empty
-- Assumes nothing.
use mathlib.Core.Bool.{false}
use mathlib.Core.List.{List}
use mathlib.Core.Path.{◌≡◌, sym, ◌∙◌}
use Prim.Native.Nat.{ℕ, ◌+◌, ◌-◌, ◌≤◌, ◌<◌}
use native.Mathlib.Omega.{arith}
use borrow.Author.Tests.{ltb-false}
use lib.Dec.{T, ltb→lt, lit<}
use lib.ListN.{length, take, drop}
use lib.Seq.{take-length}
use Rattle.bases.proofs.PartLaws.{tail_part, part_part}
use Rattle.fields.specs.Allele.{first_alt, two_alts?, second_alt}
use Rattle.fields.specs.Bytes.{LF, TAB, COMMA, until}
use Rattle.vcf.specs.Entry.{line_at, bytes_of, entry_of}
use Rattle.fields.specs.Field.{field_at, field, ten_fields?}
use Rattle.fields.proofs.BytesLaws.{until_le}
use Rattle.vcf.proofs.EntryLaws.{line_length, line_within}
use Rattle.fields.proofs.FieldLaws.{until_within, field_length, field_within}

-- The line at a has ten fields.
module _ (t : List ℕ) (a : ℕ) (inside : a ≤ length t) (ten : T (ten_fields? (line_at t a))) where
  pub field_end : (k : ℕ) → k < 10 → a + field_at k (line_at t a) + length (field k (line_at t a)) ≤ length t
  field_end k h =
      let l = line_at t a in
      omega (arith, field_length l (field_at k l), field_within l k ten h, until_within TAB l (field_at k l), line_within t a inside)

  pub field_part : (k m n p : ℕ) → k < 10 → m + n ≤ length (field k (line_at t a)) → p ≡ a + field_at k (line_at t a) + m
      → take n (drop p t) ≡ take n (drop m (field k (line_at t a)))
  field_part k m n p h e q =
      let l = line_at t a in
      let b = field_at k l in
      let long = field_length l b in
      let fits : b + m + n ≤ until LF (drop a t) = omega (arith, field_within l k ten h, until_within TAB l b, line_length t a) in
      let there : p ≡ a + (b + m) = omega arith in
      rw there (sym (part_part l b (until TAB (drop b l)) m n (omega arith) ∙ part_part t a (until LF (drop a t)) (b + m) n fits))

  pub reference_within : (entry_of (line_at t a) a).reference.at + (entry_of (line_at t a) a).reference.len ≤ length t
  reference_within = field_end 3 (lit< tt)

  pub first_within : (entry_of (line_at t a) a).first.at + (entry_of (line_at t a) a).first.len ≤ length t
  first_within = omega (arith, field_end 4 (lit< tt), until_le COMMA (field 4 (line_at t a)))

  pub second_within : T (two_alts? (field 4 (line_at t a))) → (entry_of (line_at t a) a).second.at + (entry_of (line_at t a) a).second.len ≤ length t
  second_within two =
      let f = field 4 (line_at t a) in
      omega (arith, field_end 4 (lit< tt), ltb→lt (until COMMA f) (length f) two)

  pub reference_bytes : bytes_of t (entry_of (line_at t a) a).reference ≡ field 3 (line_at t a)
  reference_bytes =
      let f = field 3 (line_at t a) in
      field_part 3 0 (length f) (entry_of (line_at t a) a).reference.at (lit< tt) (omega arith) (omega arith) ∙ take-length f

  pub first_bytes : bytes_of t (entry_of (line_at t a) a).first ≡ first_alt (field 4 (line_at t a))
  first_bytes =
      let f = field 4 (line_at t a) in
      field_part 4 0 (until COMMA f) (entry_of (line_at t a) a).first.at (lit< tt) (omega (arith, until_le COMMA f)) (omega arith)

  pub second_bytes : T (two_alts? (field 4 (line_at t a))) → bytes_of t (entry_of (line_at t a) a).second ≡ second_alt (field 4 (line_at t a))
  second_bytes two =
      let f = field 4 (line_at t a) in
      let q = until COMMA f + 1 in
      field_part 4 q (length f - q) (entry_of (line_at t a) a).second.at (lit< tt) (omega (arith, ltb→lt (until COMMA f) (length f) two)) (omega arith) ∙ tail_part f q

pub second_empty : (l : List ℕ) (a : ℕ) → two_alts? (field 4 l) ≡ false → (entry_of l a).second.len ≡ 0
second_empty l a e = omega (arith, ltb-false (until COMMA (field 4 l)) (length (field 4 l)) e)
