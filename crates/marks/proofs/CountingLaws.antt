-- Laws of the walk that counts, entry after entry: `left` are the entries that are left, before which there are i, and `given` the marks that
-- are left.
--     Counting                         behind i entries, what is counted are these
--     counting_begin, counting_few     so it is at the start; no count is above the most entries
--     counting_more                    so it is behind one more entry
--     counting_end                     where no entry is left, or no mark, all entries are counted
-- Assumes nothing.
use mathlib.Core.List.{List, ◌∷◌}
use mathlib.Core.Logic.{◌⊎◌, ⊎_elim}
use mathlib.Core.Path.{◌≡◌, sym, ap, ◌∙◌}
use Prim.Native.Nat.{ℕ, ◌+◌, ◌≤◌, ◌<◌}
use native.Mathlib.Omega.{arith}
use lib.ListN.{length, get_or, take, drop, length-drop}
use lib.Seq.{length-take-le, take_all, get_or-drop, drop-drop}
use Rattle.marks.specs.declared.count.Counts.{Counts}
use Rattle.clusters.specs.declared.item.Item.{Item}
use Rattle.marks.specs.Counts.{counts_of, add_entry, most_entries, Few}
use Rattle.marks.proofs.CountLaws.{counts_next, counts_few, Zeros, counts_none}

pub record Counting (all : List Item) (marks : List ℕ) (c : Counts) (left : List Item) (given : List ℕ) (i : ℕ) : Type 0 where
  pub inside : i ≤ length all
  pub entries : left ≡ drop i all
  pub lent : given ≡ drop i marks
  pub counted : c ≡ counts_of (take i all) marks

module _ (all : List Item) (marks : List ℕ) where
  pub counting_begin : (c : Counts) → Zeros c.first × Zeros c.second → {left : List Item} {given : List ℕ} → left ≡ all → given ≡ marks → Counting all marks c left given 0
  counting_begin c z e f = record { inside = omega arith; entries = e; lent = f; counted = counts_none c marks z }

  module _ {c : Counts} {left : List Item} {given : List ℕ} {i : ℕ} (w : Counting all marks c left given i) where
    pub counting_few : length all ≤ most_entries → Few c.first × Few c.second
    counting_few k = rw w.counted (counts_few (take i all) marks (omega (arith, length-take-le i all w.inside, w.inside)))

    pub counting_end : length all ≤ length marks → length left ≡ 0 ⊎ length given ≡ 0 → c ≡ counts_of all marks
    counting_end k e = w.counted ∙ ap (λ (is : List Item). counts_of is marks) (take_all i all (⊎_elim first second e))
      where
        first : length left ≡ 0 → length all ≤ i
        first n = omega (arith, n, ap length w.entries, length-drop i all)

        second : length given ≡ 0 → length all ≤ i
        second n = omega (arith, n, ap length w.lent, length-drop i marks, k)

    module _ {x : Item} {m : ℕ} {others : List Item} {ms : List ℕ} (e : left ≡ x ∷ others) (f : given ≡ m ∷ ms) where
      pub counting_more : {n : ℕ} → n ≡ i + 1 → Counting all marks (add_entry c x.side m) others ms n
      counting_more en =
          let z : i + 0 ≡ i = omega arith in
          let a : x ≡ get_or all i x = ap (λ (is : List Item). get_or is 0 x) (sym e ∙ w.entries) ∙ get_or-drop i all 0 x ∙ ap (λ (n : ℕ). get_or all n x) z in
          let b : m ≡ get_or marks i 0 = ap (λ (l : List ℕ). get_or l 0 0) (sym f ∙ w.lent) ∙ get_or-drop i marks 0 0 ∙ ap (λ (n : ℕ). get_or marks n 0) z in
          let some : i < length all = omega (arith, ap length w.entries, ap length e, length-drop i all) in
          let marked : i < length marks = omega (arith, ap length w.lent, ap length f, length-drop i marks) in
          rw en record {
            inside = omega (arith, some);
            entries = ap (drop 1) (sym e ∙ w.entries) ∙ drop-drop 1 i all;
            lent = ap (drop 1) (sym f ∙ w.lent) ∙ drop-drop 1 i marks;
            counted = ap (λ (d : Counts). add_entry d x.side m) w.counted ∙ rw (← b) at (rw (← a) at (sym (counts_next all marks i x some marked)));
          }
