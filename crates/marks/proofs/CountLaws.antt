-- Laws of counts.
--     one_le                       at most one
--     how_many_le, how_many_append   no more than there are marks; of two lists of marks together
--     count_more, count_next       the counts with one mark more; behind one more of the first marks
--     own_le, own_next             a list's marks are no more than the entries; behind one more of the first entries
--     counts_next                  so are the six counts
--     own_append, own_join         a list's marks in two runs joined, and how many of them pass a test
--     own_all                      each of the marks is of list 1 or of list 2
--     totals_all                   so the totals are what all the marks count
--     counts_marks                 more marks than entries
--     count_few, counts_few        no count is above the most entries
--     count_none, counts_none      the counts of no marks are those with zeros
-- Assumes nothing.
use mathlib.Core.Bool.{Bool, true, false, beq}
use mathlib.Core.List.{List, [], ◌∷◌, ◌++◌, append-nil}
use mathlib.Core.Path.{◌≡◌, refl, sym, ap, ◌∙◌}
use Prim.Native.Nat.{ℕ, zero, suc, ◌+◌, ◌≤◌, ◌<◌}
use native.Mathlib.Numerals.{add-one}
use native.Mathlib.Omega.{arith}
use lib.ListN.{length, get_or, take}
use lib.Seq.{length-take-le, take-suc}
use Rattle.donors.specs.Rules.{list1, list2, put_if}
use Rattle.clusters.specs.declared.item.Item.{Item}
use Rattle.marks.specs.declared.count.Count.{Count}
use Rattle.marks.specs.declared.count.Counts.{Counts}
use Rattle.marks.specs.Counts.{one, matched?, unmatched?, undecided?, how_many, count_all, add_mark, own_marks, counts_of, add_entry, totals, most_entries, Few}

pub one_le : (t : Bool) → one t ≤ 1
one_le true = omega arith
one_le false = omega arith

module _ (p : ℕ → Bool) where
  pub how_many_le : (ms : List ℕ) → how_many p ms ≤ length ms
  unfolding how_many
  how_many_le [] = omega arith
  how_many_le (m ∷ ms) = omega (arith, how_many_le ms, one_le (p m))

  how_many_append : (ms ns : List ℕ) → how_many p (ms ++ ns) ≡ how_many p ms + how_many p ns
  unfolding how_many
  how_many_append [] ns = omega arith
  how_many_append (m ∷ ms) ns = omega (arith, how_many_append ms ns)

  how_many_more : (ms : List ℕ) (m : ℕ) → how_many p (ms ++ (m ∷ [])) ≡ how_many p ms + one (p m)
  unfolding how_many
  how_many_more ms m =
      let e : how_many p (m ∷ []) ≡ one (p m) = omega arith in
      how_many_append ms (m ∷ []) ∙ ap (λ (n : ℕ). how_many p ms + n) e

  own_more : (side : Bool) (m n : ℕ) (own1 own2 : List ℕ) → how_many p own1 + how_many p own2 ≡ n
      → how_many p (put_if (beq list1 side) m own1) + how_many p (put_if (beq list2 side) m own2) ≡ one (p m) + n
  unfolding how_many
  own_more true m n own1 own2 e = omega arith
  own_more false m n own1 own2 e = omega arith

  own_all : (is : List Item) (ms : List ℕ) → length is ≤ length ms
      → how_many p (own_marks list1 is ms) + how_many p (own_marks list2 is ms) ≡ how_many p (take (length is) ms)
  unfolding how_many own_marks
  own_all [] ms h = refl
  own_all (i ∷ is) [] h = absurd (omega arith)
  own_all (i ∷ is) (m ∷ ms) h = own_more i.side m (how_many p (take (length is) ms)) (own_marks list1 is ms) (own_marks list2 is ms) (own_all is ms (omega arith))

count_more : (ms : List ℕ) (m : ℕ) → count_all (ms ++ (m ∷ [])) ≡ add_mark (count_all ms) m
count_more ms m = cc (how_many_more matched? ms m, how_many_more unmatched? ms m, how_many_more undecided? ms m)

-- Behind the first i marks, one mark more.
pub count_next : (ms : List ℕ) (i : ℕ) → i < length ms → count_all (take (i + 1) ms) ≡ add_mark (count_all (take i ms)) (get_or ms i 0)
count_next ms i h = rw (add-one i, take-suc ms i 0 h) (count_more (take i ms) (get_or ms i 0))

put_append : (t : Bool) (m : ℕ) (ms ns : List ℕ) → put_if t m ms ++ ns ≡ put_if t m (ms ++ ns)
put_append true m ms ns = refl
put_append false m ms ns = refl

-- The entries of two runs and their marks, joined.
own_append : (side : Bool) (is js : List Item) (ms ns : List ℕ) → length is ≡ length ms → own_marks side (is ++ js) (ms ++ ns) ≡ own_marks side is ms ++ own_marks side js ns
unfolding own_marks
own_append side [] js [] ns h = refl
own_append side [] js (m ∷ ms) ns h = absurd (omega arith)
own_append side (i ∷ is) js [] ns h = absurd (omega arith)
own_append side (i ∷ is) js (m ∷ ms) ns h =
    ap (put_if (beq side i.side) m) (own_append side is js ms ns (omega arith)) ∙ sym (put_append (beq side i.side) m (own_marks side is ms) (own_marks side js ns))

pub own_join : (p : ℕ → Bool) (side : Bool) (is js : List Item) (ms ns : List ℕ) → length is ≡ length ms
    → how_many p (own_marks side (is ++ js) (ms ++ ns)) ≡ how_many p (own_marks side is ms) + how_many p (own_marks side js ns)
own_join p side is js ms ns h = ap (how_many p) (own_append side is js ms ns h) ∙ how_many_append p (own_marks side is ms) (own_marks side js ns)

-- Behind the first i entries, one entry more; d stands for none.
own_next : (side : Bool) (is : List Item) (ms : List ℕ) (i : ℕ) (d : Item) → i < length is → i < length ms
    → own_marks side (take (suc i) is) ms ≡ own_marks side (take i is) ms ++ put_if (beq side (get_or is i d).side) (get_or ms i 0) []
unfolding own_marks
own_next side [] ms i d h k = absurd (omega arith)
own_next side (x ∷ is) [] i d h k = absurd (omega arith)
own_next side (x ∷ is) (m ∷ ms) zero d h k = refl
own_next side (x ∷ is) (m ∷ ms) (suc i) d h k =
    ap (put_if (beq side x.side) m) (own_next side is ms i d (omega arith) (omega arith))
    ∙ sym (put_append (beq side x.side) m (own_marks side (take i is) ms) (put_if (beq side (get_or is i d).side) (get_or ms i 0) []))

pub counts_next : (is : List Item) (ms : List ℕ) (i : ℕ) (d : Item) → i < length is → i < length ms
    → counts_of (take (i + 1) is) ms ≡ add_entry (counts_of (take i is) ms) (get_or is i d).side (get_or ms i 0)
counts_next is ms i d h k = rw (add-one i) (go (get_or is i d).side (own_next list1 is ms i d h k) (own_next list2 is ms i d h k))
  where
    go : (side : Bool)
        → own_marks list1 (take (suc i) is) ms ≡ own_marks list1 (take i is) ms ++ put_if (beq list1 side) (get_or ms i 0) []
        → own_marks list2 (take (suc i) is) ms ≡ own_marks list2 (take i is) ms ++ put_if (beq list2 side) (get_or ms i 0) []
        → counts_of (take (suc i) is) ms ≡ add_entry (counts_of (take i is) ms) side (get_or ms i 0)
    go true e f = rw (e, f, append-nil (own_marks list2 (take i is) ms), count_more (own_marks list1 (take i is) ms) (get_or ms i 0))
    go false e f = rw (e, f, append-nil (own_marks list1 (take i is) ms), count_more (own_marks list2 (take i is) ms) (get_or ms i 0))

pub totals_all : (is : List Item) (ms : List ℕ) → length is ≤ length ms → totals (counts_of is ms) ≡ count_all (take (length is) ms)
totals_all is ms h = cc (own_all matched? is ms h, own_all unmatched? is ms h, own_all undecided? is ms h)

own_marks_lem : (side : Bool) (is : List Item) (ms more : List ℕ) → length is ≤ length ms → own_marks side is (ms ++ more) ≡ own_marks side is ms
unfolding own_marks
own_marks_lem side [] ms more h = refl
own_marks_lem side (i ∷ is) [] more h = absurd (omega arith)
own_marks_lem side (i ∷ is) (m ∷ ms) more h = ap (put_if (beq side i.side) m) (own_marks_lem side is ms more (omega arith))

pub counts_marks : (is : List Item) (ms more : List ℕ) → length is ≤ length ms → counts_of is (ms ++ more) ≡ counts_of is ms
counts_marks is ms more h = rw (own_marks_lem list1 is ms more h, own_marks_lem list2 is ms more h)

own_le : (side : Bool) (is : List Item) (ms : List ℕ) → length (own_marks side is ms) ≤ length is
unfolding own_marks
own_le side [] ms = omega arith
own_le side (i ∷ is) [] = omega arith
own_le side (i ∷ is) (m ∷ ms) = go (beq side i.side) (own_le side is ms)
  where
    go : (t : Bool) → length (own_marks side is ms) ≤ length is → length (put_if t m (own_marks side is ms)) ≤ suc (length is)
    go true h = omega arith
    go false h = omega arith

marks_few : (ms : List ℕ) → length ms ≤ most_entries → Few (count_all ms)
marks_few ms k = record {
  matched = omega (arith, how_many_le matched? ms);
  unmatched = omega (arith, how_many_le unmatched? ms);
  undecided = omega (arith, how_many_le undecided? ms);
}

pub count_few : (ms : List ℕ) (n : ℕ) → n ≤ length ms → n ≤ most_entries → Few (count_all (take n ms))
count_few ms n h k = marks_few (take n ms) (omega (arith, length-take-le n ms h))

pub counts_few : (is : List Item) (ms : List ℕ) → length is ≤ most_entries → Few (counts_of is ms).first × Few (counts_of is ms).second
counts_few is ms k = (
  marks_few (own_marks list1 is ms) (omega (arith, own_le list1 is ms)),
  marks_few (own_marks list2 is ms) (omega (arith, own_le list2 is ms)),
)

-- All three counts are 0.
abbrev pub Zeros : Count → Type 0
Zeros c = (c.matched ≡ 0) × ((c.unmatched ≡ 0) × (c.undecided ≡ 0))

pub count_none : (c : Count) → Zeros c → c ≡ count_all []
unfolding how_many
count_none c z = made c.matched c.unmatched c.undecided z.0 z.1.0 z.1.1
  where
    made : (m u d : ℕ) → m ≡ 0 → u ≡ 0 → d ≡ 0 → record { matched = m; unmatched = u; undecided = d } ≡ count_all []
    made m u d e f g = rw (e, f, g)

pub counts_none : (c : Counts) (ms : List ℕ) → Zeros c.first × Zeros c.second → c ≡ counts_of [] ms
unfolding own_marks
counts_none c ms z = made c.first c.second (count_none c.first z.0) (count_none c.second z.1)
  where
    made : (a b : Count) → a ≡ count_all [] → b ≡ count_all [] → ◌≡◌ {A = Counts} record { first = a; second = b } record { first = count_all []; second = count_all [] }
    made a b e f = rw (e, f)
