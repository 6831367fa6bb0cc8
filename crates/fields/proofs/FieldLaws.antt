-- Laws of fields.
--     until_within, field_length        a byte is found within what is left of the line; a field is as long as that
--     skip_zero, skip_more, skip_add    no field on, one, and some behind others
--     field_on                          a field so many fields behind another
--     full_zero, full_stop, full_more   no field left; an empty field; one field on
--     full_within, field_within         each field of a full line begins within the line
--     Read, read, fields_are            where the fields that are read begin
-- Assumes nothing.
use mathlib.Core.Bool.{false, ◌&&◌}
use mathlib.Core.List.{List}
use mathlib.Core.Path.{◌≡◌, refl, ap, ◌∙◌}
use Prim.Native.Nat.{ℕ, zero, suc, ◌+◌, ◌-◌, ◌≤◌, ◌<◌}
use native.Mathlib.Nat.{not-suc-le-zero, le_of_suc-le-suc, zero-add, suc-add}
use native.Mathlib.Omega.{arith}
use borrow.Author.Tests.{lt-ltb, le-ltb}
use lib.Dec.{T, ltb, eqb, ltb→lt}
use lib.ListN.{length, drop, length-drop}
use lib.Seq.{length-take-le}
use Rattle.bases.proofs.TestLaws.{both}
use Rattle.fields.specs.Bytes.{TAB, until}
use Rattle.fields.specs.declared.field.Fields.{Fields}
use Rattle.fields.specs.Field.{field_end, skip, field_at, field_from, full?, ten_fields?, fields_of}
use Rattle.fields.proofs.BytesLaws.{until_le}

pub until_within : (x : ℕ) (l : List ℕ) (a : ℕ) → until x (drop a l) ≤ length l - a
until_within x l a = rw (← length-drop a l) (until_le x (drop a l))

pub field_length : (l : List ℕ) (a : ℕ) → length (field_from l a) ≡ until TAB (drop a l)
field_length l a = length-take-le (until TAB (drop a l)) (drop a l) (until_le TAB (drop a l))

pub skip_more : (k : ℕ) (l : List ℕ) (a : ℕ) → 0 < k → skip k l a ≡ skip (k - 1) l (field_end l a + 1)
unfolding skip
skip_more zero l a h = absurd (not-suc-le-zero h)
skip_more (suc k) l a h = let e : suc k - 1 ≡ k = omega arith in rw e

pub skip_zero : (l : List ℕ) (a : ℕ) → skip 0 l a ≡ a
unfolding skip
skip_zero l a = refl

pub skip_add : (j k : ℕ) (l : List ℕ) (a : ℕ) → skip k l (skip j l a) ≡ skip (j + k) l a
unfolding skip
skip_add zero k l a = rw zero-add
skip_add (suc j) k l a = rw suc-add (skip_add j k l (field_end l a + 1))

pub field_on : (j k : ℕ) (l : List ℕ) {a b : ℕ} → a ≡ field_at j l → b ≡ skip k l a → b ≡ field_at (j + k) l
field_on j k l e h = h ∙ ap (skip k l) e ∙ skip_add j k l 0

pub full_zero : (l : List ℕ) (a : ℕ) → full? 0 l a ≡ eqb a (length l + 1)
unfolding full?
full_zero l a = refl

full_at : (n : ℕ) (l : List ℕ) (a : ℕ) → 0 < n → full? n l a ≡ ltb a (field_end l a) && full? (n - 1) l (field_end l a + 1)
unfolding full?
full_at zero l a h = absurd (not-suc-le-zero h)
full_at (suc n) l a h = let e : suc n - 1 ≡ n = omega arith in rw e

pub full_stop : (n : ℕ) (l : List ℕ) (a : ℕ) → 0 < n → field_end l a ≤ a → full? n l a ≡ false
full_stop n l a h k = full_at n l a h ∙ rw (le-ltb _ _ k)

pub full_more : (n : ℕ) (l : List ℕ) (a : ℕ) → 0 < n → a < field_end l a → full? n l a ≡ full? (n - 1) l (field_end l a + 1)
full_more n l a h k = full_at n l a h ∙ rw (lt-ltb _ _ k)

pub full_within : (n : ℕ) (l : List ℕ) (a j : ℕ) → T (full? n l a) → j < n → skip j l a < length l
unfolding full? skip
full_within zero l a j t h = absurd (not-suc-le-zero h)
full_within (suc n) l a zero t h =
    let k : a < field_end l a = ltb→lt a (field_end l a) ((both (ltb a (field_end l a)) (full? n l (field_end l a + 1))).0 t).0 in
    omega (arith, until_within TAB l a)
full_within (suc n) l a (suc j) t h =
    full_within n l (field_end l a + 1) j ((both (ltb a (field_end l a)) (full? n l (field_end l a + 1))).0 t).1 (le_of_suc-le-suc h)

pub field_within : (l : List ℕ) (k : ℕ) → T (ten_fields? l) → k < 10 → field_at k l < length l
field_within l k t h = full_within 10 l 0 k t h

-- The fields that are read, of a line that has ten: where each begins.
pub record Read (l : List ℕ) (f : Fields) : Type 0 where
  pub pos : f.pos ≡ field_at 1 l
  pub reference : f.reference ≡ field_at 3 l
  pub alt : f.alt ≡ field_at 4 l
  pub format : f.format ≡ field_at 8 l
  pub sample : f.sample ≡ field_at 9 l

pub read : (l : List ℕ) (f : Fields) → f ≡ fields_of l → Read l f
read l f e =
    record {
      pos = ap (λ (g : Fields). g.pos) e;
      reference = ap (λ (g : Fields). g.reference) e;
      alt = ap (λ (g : Fields). g.alt) e;
      format = ap (λ (g : Fields). g.format) e;
      sample = ap (λ (g : Fields). g.sample) e;
    }

pub fields_are : (l : List ℕ) {p r a f s : ℕ} → p ≡ field_at 1 l → r ≡ field_at 3 l → a ≡ field_at 4 l → f ≡ field_at 8 l → s ≡ field_at 9 l
    → ◌≡◌ {A = Fields} record { pos = p; reference = r; alt = a; format = f; sample = s } (fields_of l)
fields_are l e1 e3 e4 e8 e9 = cc
