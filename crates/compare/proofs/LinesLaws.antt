-- Laws of the lines of entries.
--     lines_few                             the most bytes that they have
--     lines_next, lines_split               the line of the next entry, and those behind it; the lines of the next cluster, and those behind
--                                           it
--     lines_marks                           more marks than entries
--     lines_part                            no more marks than clusters' numbers are looked at
--     Left                                  what is left to write
--     Putting                               the walk over a cluster's entries behind k of them
--     putting_begin, putting_left, putting_more, putting_end
--                                           before the first; an entry is left; behind one entry more; behind the last
-- Assumes nothing.
use mathlib.Core.Bool.{false}
use mathlib.Core.List.{List, [], ◌∷◌, ◌++◌, append_assoc}
use mathlib.Core.Path.{◌≡◌, refl, sym, ap, ◌∙◌}
use Prim.Native.Nat.{ℕ, zero, suc, ◌+◌, ◌-◌, ◌*◌, ◌≤◌, ◌<◌}
use native.Mathlib.Omega.{arith}
use lib.ListN.{length, get_or, take, drop, replicate, length-append}
use lib.Seq.{drop-cons}
use Rattle.bases.specs.declared.put.Writer.{Writer}
use Rattle.bases.specs.Wrote.{HasRoom, Wrote}
use Rattle.bases.proofs.WroteLaws.{wrote_none, wrote_more}
use Rattle.clusters.specs.declared.heads.Heads.{Heads}
use Rattle.clusters.specs.declared.item.Item.{Item}
use Rattle.clusters.specs.Heads.{Readable, items_from, done?, next_item, moved, passed}
use Rattle.clusters.proofs.HeadsLaws.{items_some, items_step, readable_moved, passed_next}
use Rattle.compare.specs.Printed.{entry_line, entry_lines, line_most}
use Rattle.compare.proofs.PrintedLaws.{line_few}

pub lines_few : (ks : List ℕ) (is : List Item) (ms : List ℕ) → length (entry_lines ks is ms) ≤ line_most * length ks
unfolding entry_lines
lines_few [] is ms = omega arith
lines_few (k ∷ ks) [] ms = omega arith
lines_few (k ∷ ks) (i ∷ is) [] = omega arith
lines_few (k ∷ ks) (i ∷ is) (m ∷ ms) =
    omega (
      arith,
      length-append (entry_line i.side i.entry.pos k m) (entry_lines ks is ms),
      line_few i.side i.entry.pos k m,
      lines_few ks is ms,
    )

lines_cons : (k : ℕ) (ks : List ℕ) (i : Item) (is : List Item) (m : ℕ) (ms : List ℕ)
    → entry_lines (k ∷ ks) (i ∷ is) (m ∷ ms) ≡ entry_line i.side i.entry.pos k m ++ entry_lines ks is ms
unfolding entry_lines
lines_cons k ks i is m ms = refl

pub lines_next : (n cluster : ℕ) (i : Item) (is : List Item) (ms : List ℕ) (j : ℕ) → j < length ms
    → entry_lines (replicate (suc n) cluster) (i ∷ is) (drop j ms)
    ≡ entry_line i.side i.entry.pos cluster (get_or ms j 0) ++ entry_lines (replicate n cluster) is (drop (suc j) ms)
lines_next n cluster i is ms j h = rw (drop-cons ms j 0 h) (lines_cons cluster (replicate n cluster) i is (get_or ms j 0) (drop (suc j) ms))

pub lines_split : (n k : ℕ) (ks : List ℕ) (is : List Item) (ms : List ℕ) → n ≤ length is → n ≤ length ms
    → entry_lines (replicate n k ++ ks) is ms ≡ entry_lines (replicate n k) is ms ++ entry_lines ks (drop n is) (drop n ms)
unfolding entry_lines
lines_split zero k ks is ms h l = refl
lines_split (suc n) k ks [] ms h l = absurd (omega arith)
lines_split (suc n) k ks (i ∷ is) [] h l = absurd (omega arith)
lines_split (suc n) k ks (i ∷ is) (m ∷ ms) h l =
    ap (λ (z : List ℕ). entry_line i.side i.entry.pos k m ++ z) (lines_split n k ks is ms (omega arith) (omega arith))
    ∙ sym (append_assoc (entry_line i.side i.entry.pos k m) (entry_lines (replicate n k) is ms) (entry_lines ks (drop n is) (drop n ms)))

-- What stands behind the marks of the entries is not looked at.
pub lines_marks : (ks : List ℕ) (is : List Item) (ms more : List ℕ) → length is ≤ length ms → entry_lines ks is (ms ++ more) ≡ entry_lines ks is ms
unfolding entry_lines
lines_marks [] is ms more h = refl
lines_marks (k ∷ ks) [] ms more h = refl
lines_marks (k ∷ ks) (i ∷ is) [] more h = absurd (omega arith)
lines_marks (k ∷ ks) (i ∷ is) (m ∷ ms) more h = ap (λ (z : List ℕ). entry_line i.side i.entry.pos k m ++ z) (lines_marks ks is ms more (omega arith))

pub lines_part : (n k : ℕ) (is : List Item) (ms : List ℕ) → entry_lines (replicate n k) is (take n ms) ≡ entry_lines (replicate n k) is ms
unfolding entry_lines
lines_part zero k is ms = refl
lines_part (suc n) k [] ms = refl
lines_part (suc n) k (i ∷ is) [] = refl
lines_part (suc n) k (i ∷ is) (m ∷ ms) = ap (λ (z : List ℕ). entry_line i.side i.entry.pos k m ++ z) (lines_part n k is ms)

-- Where `rest` is written from w on, all of `text` is written from o on.
abbrev pub Left : Writer → List ℕ → Writer → List ℕ → Type 0
Left o text w rest = (n : Writer) → Wrote w rest n → Wrote o text n

-- The lines of the n entries from the cursors on, the first of which is entry j.
abbrev cluster_lines : List ℕ → List ℕ → List ℕ → ℕ → ℕ → Heads → ℕ → List ℕ
cluster_lines first second marks cluster n h j = entry_lines (replicate n cluster) (items_from first second h) (drop j marks)

pub record Putting (first second marks : List ℕ) (cluster : ℕ) (start : Heads) (o : Writer) (h : Heads) (k : ℕ) (w : Writer) : Type 0 where
  pub inside : k ≤ length marks
  pub few : length marks - k ≤ length (items_from first second h)
  pub heads : h ≡ passed first second k start
  pub readable : Readable first second h
  pub room : HasRoom w (line_most * (length marks - k))
  pub left : Left o (cluster_lines first second marks cluster (length marks) start 0) w (cluster_lines first second marks cluster (length marks - k) h k)

module _ (first second marks : List ℕ) (cluster : ℕ) (start : Heads) (o : Writer) where
  pub putting_begin : Readable first second start → length marks ≤ length (items_from first second start) → HasRoom o (line_most * length marks)
      → Putting first second marks cluster start o start 0 o
  unfolding passed
  putting_begin r l m =
      let e : length marks - 0 ≡ length marks = omega arith in
      record { inside = omega arith; few = omega arith; heads = refl; readable = r; room = omega arith; left = rw e (λ n v. v) }

  module _ (h : Heads) (k : ℕ) (w : Writer) (p : Putting first second marks cluster start o h k w) where
    pub putting_end : length marks ≤ k
        → (h ≡ passed first second (length marks) start) × Wrote o (cluster_lines first second marks cluster (length marks) start 0) w
    unfolding entry_lines
    putting_end l =
        let e : k ≡ length marks = omega (arith, p.inside) in
        let z : length marks - k ≡ 0 = omega arith in
        (p.heads ∙ ap (λ (n : ℕ). passed first second n start) e, (rw z at p.left) w (wrote_none w))

    module _ (less : k < length marks) where
      pub putting_left : done? first second h ≡ false
      putting_left = items_some first second h (omega (arith, p.few))

      pub putting_more : (e : Writer)
          → Wrote w (entry_line (next_item first second h).side (next_item first second h).entry.pos cluster (get_or marks k 0)) e
          → Putting first second marks cluster start o (moved first second h (next_item first second h).side) (k + 1) e
      putting_more e v =
          let s = items_step first second h putting_left in
          let x = next_item first second h in
          let b = moved first second h x.side in
          let n : length marks - k ≡ suc (length marks - (k + 1)) = omega arith in
          let j : k + 1 ≡ suc k = omega arith in
          let line = line_few x.side x.entry.pos cluster (get_or marks k 0) in
          let lines : cluster_lines first second marks cluster (length marks - k) h k
          ≡ entry_line x.side x.entry.pos cluster (get_or marks k 0) ++ cluster_lines first second marks cluster (length marks - (k + 1)) b (k + 1) =
          rw (n, s.split, j) (lines_next (length marks - suc k) cluster x (items_from first second b) marks k (omega arith)) in
          let left : Left o (cluster_lines first second marks cluster (length marks) start 0) w
          (entry_line x.side x.entry.pos cluster (get_or marks k 0) ++ cluster_lines first second marks cluster (length marks - (k + 1)) b (k + 1)) = rw lines at p.left in
          record {
            inside = omega arith;
            few = omega (arith, ap length s.split, p.few);
            heads = rw p.heads (sym (passed_next first second k start));
            readable = readable_moved first second h p.readable x.side s.inside;
            room = omega (arith, line, p.room, v.at, v.long);
            left = λ m u. left m (wrote_more (omega (arith, p.room)) v u);
          }
