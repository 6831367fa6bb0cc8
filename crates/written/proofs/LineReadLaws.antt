-- Laws of the parts that a line of ten fields is written in: where those begin and end that are written as they stand, as they are read.
--     FrontRead, front_read     up to POS, and from the end of the old POS up to REF
--     BackRead, back_read       from the end of ALT on
--     back_length               how long the parts from REF on are together
-- Assumes nothing.
use mathlib.Core.List.{List, [], ◌∷◌, ◌++◌}
use mathlib.Core.Path.{◌≡◌, ◌∙◌}
use Prim.Native.Nat.{ℕ, ◌+◌, ◌-◌, ◌≤◌}
use native.Mathlib.Omega.{arith}
use lib.Dec.{T}
use lib.ListN.{length, take, drop, length-append}
use Rattle.bases.specs.Stretch.{stretch}
use Rattle.bases.proofs.PartLaws.{tail_part}
use Rattle.fields.specs.declared.field.Fields.{Fields}
use Rattle.fields.specs.Bytes.{LF, TAB, until}
use Rattle.fields.specs.Field.{ten_fields?, field_end, field_at, fields_of}
use Rattle.fields.proofs.FieldLaws.{read}
use Rattle.normal.specs.declared.entry.NormalEntry.{NormalEntry}
use Rattle.written.specs.Put.{back_with}
use Rattle.written.specs.Written.{alts_spelled}
use Rattle.written.proofs.FieldThenLaws.{front_bounds}

module _ (l : List ℕ) (t : T (ten_fields? l)) (f : Fields) (e : f ≡ fields_of l) where
  pub record FrontRead (end : ℕ) : Type 0 where
    pub pos : f.pos ≤ length l
    pub within : end ≤ f.reference
    pub reference : f.reference ≤ length l
    pub head : take f.pos l ≡ take (field_at 1 l) l
    pub middle : take (f.reference - end) (drop end l) ≡ take (field_at 3 l - field_end l (field_at 1 l)) (drop (field_end l (field_at 1 l)) l)

  pub front_read : (end : ℕ) → end ≡ f.pos + until TAB (drop f.pos l) → FrontRead end
  front_read end h =
      let g = read l f e in
      let b = front_bounds l t in
      let p = g.pos in
      let r = g.reference in
      let n : end ≡ field_end l (field_at 1 l) = h ∙ rw p in
      record {
        pos = omega (arith, b.pos, p);
        within = omega (arith, b.end, n, r);
        reference = omega (arith, b.ref, r);
        head = rw p;
        middle = rw (n, r);
      }

  pub record BackRead (rest : ℕ) : Type 0 where
    pub within : rest ≤ length l
    pub tail : take (length l - rest) (drop rest l) ≡ drop (field_end l (field_at 4 l)) l

  pub back_read : (rest : ℕ) → rest ≡ f.alt + until TAB (drop f.alt l) → BackRead rest
  back_read rest h =
      let a = (read l f e).alt in
      let n : rest ≡ field_end l (field_at 4 l) = h ∙ rw a in
      record { within = omega (arith, (front_bounds l t).alt, n); tail = rw n (tail_part l (field_end l (field_at 4 l))) }

pub back_length : (reference l : List ℕ) (alts : ℕ) (n : NormalEntry)
    → length (back_with reference l alts n)
    ≡ length (stretch reference n.start.0 n.span) + 1 + length (alts_spelled reference l alts n) + length (drop (field_end l (field_at 4 l)) l) + 1
back_length reference l alts n =
    let ref = stretch reference n.start.0 n.span in
    let new = alts_spelled reference l alts n in
    let rest = drop (field_end l (field_at 4 l)) l in
    omega (
      arith,
      length-append ref (TAB ∷ []),
      length-append (ref ++ (TAB ∷ [])) new,
      length-append (ref ++ (TAB ∷ []) ++ new) rest,
      length-append (ref ++ (TAB ∷ []) ++ new ++ rest) (LF ∷ []),
    )
