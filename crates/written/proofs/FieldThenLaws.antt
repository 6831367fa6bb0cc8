-- Laws of a line, field by field.
--     skip_behind, full_behind                 fields behind a front
--     field_here, field_next, full_next, rest_next   the first field of a line and those behind it
--     field_some, record_length                a field of a line with ten is not empty; how long a record's line is
--     Front, front_bounds                      where the fields up to REF begin and end, and where ALT ends
--     line_split, line_record                  a line, by its first field; by its first five
--     field_0 .. field_4, field_more, rest_5, ten_fields   the fields of a record's line
-- Assumes nothing.
use mathlib.Core.List.{List, [], ◌∷◌, ◌++◌}
use mathlib.Core.Path.{◌≡◌, refl, sym, ap, ◌∙◌}
use Prim.Native.Nat.{ℕ, zero, suc, ◌+◌, ◌≤◌, ◌<◌}
use native.Mathlib.Decide.{dec_lt, ℕ_discrete}
use native.Mathlib.Nat.{not-suc-le-zero, le_of_suc-le-suc}
use native.Mathlib.Omega.{arith}
use borrow.Author.Tests.{lt-ltb, le-ltb, eq-eqb, ne_eqb}
use lib.Dec.{T, eqb, ltb, ltb→lt, lit<}
use lib.ListN.{length, drop, length-append, length-drop}
use lib.Seq.{append_snoc, drop-append-add, take_at, drop-drop}
use Rattle.bases.proofs.TestLaws.{is_false, both}
use Rattle.fields.specs.Bytes.{TAB, until}
use Rattle.fields.specs.Field.{field_end, skip, field_at, field_from, field, full?, ten_fields?}
use Rattle.fields.proofs.FieldLaws.{field_within, field_length}
use Rattle.written.specs.Written.{field_then, record_of}
use Rattle.written.proofs.WithoutLaws.{Without, until_found, until_split}

end_behind : (p r : List ℕ) (a : ℕ) → field_end (p ++ r) (length p + a) ≡ length p + field_end r a
end_behind p r a = rw (drop-append-add p r a) (omega arith)

pub skip_behind : (k : ℕ) (p r : List ℕ) (a : ℕ) → skip k (p ++ r) (length p + a) ≡ length p + skip k r a
unfolding skip
skip_behind zero p r a = refl
skip_behind (suc k) p r a =
    let e : field_end (p ++ r) (length p + a) + 1 ≡ length p + (field_end r a + 1) = omega (arith, end_behind p r a) in
    rw e (skip_behind k p r (field_end r a + 1))

-- two tests that say the same
eq_alike : (a b c d : ℕ) → (a ≡ b → c ≡ d) → (c ≡ d → a ≡ b) → eqb a b ≡ eqb c d
eq_alike a b c d to of = go (ℕ_discrete a b)
  where
    go : Dec (a ≡ b) → eqb a b ≡ eqb c d
    go (yes e) = eq-eqb a b e ∙ sym (eq-eqb c d (to e))
    go (no n) = ne_eqb a b n ∙ sym (ne_eqb c d (λ e. n (of e)))

lt_alike : (a b c d : ℕ) → (a < b → c < d) → (c < d → a < b) → ltb a b ≡ ltb c d
lt_alike a b c d to of = go (dec_lt a b)
  where
    go : Dec (a < b) → ltb a b ≡ ltb c d
    go (yes e) = lt-ltb a b e ∙ sym (lt-ltb c d (to e))
    go (no n) = le-ltb a b (omega arith) ∙ sym (is_false (ltb c d) (λ t. n (of (ltb→lt c d t))))

pub full_behind : (n : ℕ) (p r : List ℕ) (a : ℕ) → full? n (p ++ r) (length p + a) ≡ full? n r a
unfolding full?
full_behind zero p r a =
    let l = length-append p r in
    eq_alike (length p + a) (length (p ++ r) + 1) a (length r + 1) (λ e. omega arith) (λ e. omega arith)
full_behind (suc n) p r a =
    let e : field_end (p ++ r) (length p + a) + 1 ≡ length p + (field_end r a + 1) = omega (arith, end_behind p r a) in
    let here : ltb (length p + a) (field_end (p ++ r) (length p + a)) ≡ ltb a (field_end r a) =
    lt_alike (length p + a) (field_end (p ++ r) (length p + a)) a (field_end r a) (λ h. omega (arith, end_behind p r a)) (λ h. omega (arith, end_behind p r a)) in
    rw (here, e, full_behind n p r (field_end r a + 1))

module _ (f rest : List ℕ) (w : Without TAB f) where
  then_snoc : f ++ (TAB ∷ []) ++ rest ≡ field_then f rest
  then_snoc = append_snoc f TAB rest

  then_end : field_end (field_then f rest) 0 ≡ length f
  then_end = rw (until_found TAB f rest w) (omega arith)

  pub at_next : (k : ℕ) → field_at (suc k) (field_then f rest) ≡ length (f ++ (TAB ∷ [])) + field_at k rest
  unfolding skip
  at_next k =
      let e : field_end (field_then f rest) 0 + 1 ≡ length (f ++ (TAB ∷ [])) + 0 = omega (arith, then_end, length-append f (TAB ∷ [])) in
      rw (e, ← then_snoc) (skip_behind k (f ++ (TAB ∷ [])) rest 0)

  pub field_here : field 0 (field_then f rest) ≡ f
  unfolding skip
  field_here = rw (until_found TAB f rest w) (take_at f (TAB ∷ rest) (length f) refl)

  pub rest_next : (k : ℕ) → drop (field_at (suc k) (field_then f rest)) (field_then f rest) ≡ drop (field_at k rest) rest
  rest_next k = rw (at_next k, ← then_snoc) (drop-append-add (f ++ (TAB ∷ [])) rest (field_at k rest))

  pub field_next : (k : ℕ) → field (suc k) (field_then f rest) ≡ field k rest
  field_next k = rw (rest_next k)

  pub full_next : (n : ℕ) → 1 ≤ length f → full? (suc n) (field_then f rest) 0 ≡ full? n rest 0
  unfolding full?
  full_next n h =
      let e : field_end (field_then f rest) 0 + 1 ≡ length (f ++ (TAB ∷ [])) + 0 = omega (arith, then_end, length-append f (TAB ∷ [])) in
      rw (lt-ltb 0 (field_end (field_then f rest) 0) (omega (arith, then_end)), e, ← then_snoc) (full_behind n (f ++ (TAB ∷ [])) rest 0)

pub line_split : (l : List ℕ) (a : ℕ) → field_end l a < length l → drop a l ≡ field_then (field_from l a) (drop (field_end l a + 1) l)
line_split l a h =
    let u = until TAB (drop a l) in
    let e : field_end l a + 1 ≡ a + (u + 1) = omega arith in
    rw (e, ← drop-drop (u + 1) a l) (until_split TAB (drop a l) (rw length-drop (omega arith)))

pub line_record : (l : List ℕ) → T (ten_fields? l) → l ≡ record_of (field 0 l) (field 1 l) (field 2 l) (field 3 l) (field 4 l) (drop (field_at 5 l) l)
unfolding skip
line_record l t =
    let w : (k : ℕ) → k < 10 → field_at k l < length l = λ k h. field_within l k t h in
    line_split l 0 (omega (arith, w 1 (lit< tt)))
    ∙ ap (field_then (field 0 l)) (line_split l (field_at 1 l) (omega (arith, w 2 (lit< tt)))
    ∙ ap (field_then (field 1 l)) (line_split l (field_at 2 l) (omega (arith, w 3 (lit< tt)))
    ∙ ap (field_then (field 2 l)) (line_split l (field_at 3 l) (omega (arith, w 4 (lit< tt)))
    ∙ ap (field_then (field 3 l)) (line_split l (field_at 4 l) (omega (arith, w 5 (lit< tt)))))))

full_some : (n : ℕ) (l : List ℕ) (a j : ℕ) → T (full? n l a) → j < n → skip j l a < field_end l (skip j l a)
unfolding full? skip
full_some zero l a j t h = absurd (not-suc-le-zero h)
full_some (suc n) l a zero t h = ltb→lt a (field_end l a) ((both (ltb a (field_end l a)) (full? n l (field_end l a + 1))).0 t).0
full_some (suc n) l a (suc j) t h =
    full_some n l (field_end l a + 1) j ((both (ltb a (field_end l a)) (full? n l (field_end l a + 1))).0 t).1 (le_of_suc-le-suc h)

pub field_some : (l : List ℕ) (k : ℕ) → T (ten_fields? l) → k < 10 → 1 ≤ length (field k l)
field_some l k t h = omega (arith, full_some 10 l 0 k t h, field_length l (field_at k l))

pub record_length : (a b c d e r : List ℕ) → length (record_of a b c d e r) ≡ length a + length b + length c + length d + length e + length r + 5
record_length a b c d e r =
    omega (
      arith,
      length-append a (TAB ∷ field_then b (field_then c (field_then d (field_then e r)))),
      length-append b (TAB ∷ field_then c (field_then d (field_then e r))),
      length-append c (TAB ∷ field_then d (field_then e r)),
      length-append d (TAB ∷ field_then e r),
      length-append e (TAB ∷ r),
    )

-- Where the fields up to REF begin and end, and where ALT ends.
pub record Front (l : List ℕ) : Type 0 where
  pub pos : field_at 1 l ≤ length l
  pub end : field_end l (field_at 1 l) ≤ field_at 3 l
  pub ref : field_at 3 l ≤ length l
  pub alt : field_end l (field_at 4 l) ≤ length l

pub front_bounds : (l : List ℕ) → T (ten_fields? l) → Front l
unfolding skip
front_bounds l t =
    let a = field_within l 1 t (lit< tt) in
    let b = field_within l 3 t (lit< tt) in
    let d = field_within l 5 t (lit< tt) in
    record { pos = omega arith; end = omega arith; ref = omega arith; alt = omega arith }

-- A record's line, by its fields.
module _ (a b c d e r : List ℕ) (wa : Without TAB a) (wb : Without TAB b) (wc : Without TAB c) (wd : Without TAB d) (we : Without TAB e) where
  abbrev m4 : List ℕ
  m4 = field_then e r

  abbrev m3 : List ℕ
  m3 = field_then d m4

  abbrev m2 : List ℕ
  m2 = field_then c m3

  abbrev m1 : List ℕ
  m1 = field_then b m2

  pub field_0 : field 0 (record_of a b c d e r) ≡ a
  field_0 = field_here a m1 wa

  pub field_1 : field 1 (record_of a b c d e r) ≡ b
  field_1 = field_next a m1 wa 0 ∙ field_here b m2 wb

  pub field_2 : field 2 (record_of a b c d e r) ≡ c
  field_2 = field_next a m1 wa 1 ∙ field_next b m2 wb 0 ∙ field_here c m3 wc

  pub field_3 : field 3 (record_of a b c d e r) ≡ d
  field_3 = field_next a m1 wa 2 ∙ field_next b m2 wb 1 ∙ field_next c m3 wc 0 ∙ field_here d m4 wd

  pub field_4 : field 4 (record_of a b c d e r) ≡ e
  field_4 = field_next a m1 wa 3 ∙ field_next b m2 wb 2 ∙ field_next c m3 wc 1 ∙ field_next d m4 wd 0 ∙ field_here e r we

  pub field_more : (k : ℕ) → field (suc (suc (suc (suc (suc k))))) (record_of a b c d e r) ≡ field k r
  field_more k =
      field_next a m1 wa (suc (suc (suc (suc k)))) ∙ field_next b m2 wb (suc (suc (suc k))) ∙ field_next c m3 wc (suc (suc k))
      ∙ field_next d m4 wd (suc k) ∙ field_next e r we k

  pub rest_5 : drop (field_at 5 (record_of a b c d e r)) (record_of a b c d e r) ≡ r
  unfolding skip
  rest_5 = rest_next a m1 wa 4 ∙ rest_next b m2 wb 3 ∙ rest_next c m3 wc 2 ∙ rest_next d m4 wd 1 ∙ rest_next e r we 0

  pub ten_fields : 1 ≤ length a → 1 ≤ length b → 1 ≤ length c → 1 ≤ length d → 1 ≤ length e → ten_fields? (record_of a b c d e r) ≡ full? 5 r 0
  ten_fields ha hb hc hd he =
      full_next a m1 wa 9 ha ∙ full_next b m2 wb 8 hb ∙ full_next c m3 wc 7 hc ∙ full_next d m4 wd 6 hd ∙ full_next e r we 5 he
