-- Laws of the whole text.
--     numbers_next                          the numbers of the next cluster's entries, and those behind them
--     text_marks                            more marks than entries
--     Printing                              the walk over the clusters behind k of them
--     printing_begin, printing_fits, printing_marked, printing_part, printing_more, printing_end, printing_all
--                                           behind the heading; the next cluster's entries are there; behind one cluster more; behind the
--                                           last: the total line is left, and every entry is passed
-- Assumes nothing.
use mathlib.Core.List.{List, ◌++◌, append_assoc}
use mathlib.Core.Path.{◌≡◌, ap, ◌∙◌}
use Prim.Native.Nat.{ℕ, ◌+◌, ◌-◌, ◌*◌, ◌≤◌, ◌<◌}
use native.Mathlib.Numerals.{add-one}
use native.Mathlib.Omega.{arith}
use lib.ListN.{length, get_or, take, drop, replicate, length-append, length-drop, length-replicate}
use lib.Seq.{drop-cons, drop-drop, drop-length, length-take-le}
use Rattle.bases.specs.declared.put.Writer.{Writer}
use Rattle.bases.specs.Wrote.{HasRoom, Wrote}
use Rattle.bases.proofs.WroteLaws.{wrote_more}
use Rattle.marks.specs.declared.count.Counts.{Counts}
use Rattle.clusters.specs.declared.heads.Heads.{Heads}
use Rattle.clusters.specs.declared.item.Item.{Item}
use Rattle.clusters.specs.declared.plan.Cluster.{Cluster}
use Rattle.marks.specs.Counts.{counts_of, totals}
use Rattle.clusters.specs.Heads.{Readable, start_heads, items_from, passed}
use Rattle.clusters.specs.Merged.{merged_items}
use Rattle.marks.proofs.CountLaws.{counts_marks}
use Rattle.clusters.proofs.HeadsLaws.{passed_items}
use Rattle.listed.specs.Listed.{numbers_from}
use Rattle.told.specs.declared.marked.Marked.{Marked}
use Rattle.compare.specs.Makes.{Makes}
use Rattle.compare.specs.Printed.{heading, entry_lines, line_most, total_line, total_most, text_most, printed_text}
use Rattle.compare.proofs.LinesLaws.{lines_few, lines_split, lines_marks, lines_part, Left}
use Rattle.compare.proofs.ReadLaws.{readable_passed}

numbers_next : (plan : List Cluster) (k : ℕ) (d : Cluster) → k < length plan
    → numbers_from k (drop k plan) ≡ replicate (get_or plan k d).count k ++ numbers_from (k + 1) (drop (k + 1) plan)
unfolding numbers_from
numbers_next plan k d h = rw (drop-cons plan k d h, add-one k)

pub text_marks : (plan : List Cluster) (is : List Item) (ms more : List ℕ) (score : ℕ) → length is ≤ length ms
    → printed_text plan is (ms ++ more) score ≡ printed_text plan is ms score
text_marks plan is ms more score h =
    ap (λ (l : List ℕ). heading ++ l ++ total_line (totals (counts_of is (ms ++ more))) score) (lines_marks (numbers_from 0 plan) is ms more h)
    ∙ ap (λ (c : Counts). heading ++ entry_lines (numbers_from 0 plan) is ms ++ total_line (totals c) score) (counts_marks is ms more h)

-- The plan's first records, as many as there are clusters; and where the text begins.
module _ (first second marks : List ℕ) (m : Marked) (o : Writer) where
  abbrev records : List Cluster
  records = take m.clusters m.plan

  abbrev total : List ℕ
  total = total_line (totals (counts_of (merged_items first second) marks)) m.score

  -- The lines of the entries behind k clusters, the first of which is entry i; and the whole text.
  abbrev lines_left : Heads → ℕ → ℕ → List ℕ
  lines_left h i k = entry_lines (numbers_from k (drop k records)) (items_from first second h) (drop i marks)

  abbrev text : List ℕ
  text = printed_text records (merged_items first second) marks m.score

  pub record Printing (h : Heads) (i k : ℕ) (w : Writer) : Type 0 where
    pub inside : k ≤ m.clusters
    pub readable : Readable first second h
    pub numbers : length (numbers_from k (drop k records)) ≡ length (items_from first second h)
    pub passed : i + length (items_from first second h) ≡ length (merged_items first second)
    pub room : HasRoom w (line_most * length (items_from first second h) + total_most)
    pub left : Left o text w (lines_left h i k ++ total)

  pub printing_begin : Makes first second m marks → HasRoom o text_most → (w : Writer) → Wrote o heading w → Printing (start_heads first second) 0 0 w
  printing_begin q f w v =
      record {
        inside = omega arith;
        readable = q.readable;
        numbers = q.numbered;
        passed = omega arith;
        room = omega (arith, q.few_entries, f, v.at, v.long);
        left = λ n u. wrote_more (omega (arith, f)) v u;
      }

  module _ (all : m.clusters ≤ length m.plan) (h : Heads) (i k : ℕ) (w : Writer) (p : Printing h i k w) where
    many : length records ≡ m.clusters
    many = length-take-le m.clusters m.plan all

    pub printing_end : length records ≤ k → Left o text w total
    unfolding numbers_from entry_lines
    printing_end l =
        let e : k ≡ length records = omega (arith, p.inside, many) in
        rw (e, drop-length records) at p.left

    pub printing_all : length records ≤ k → i ≡ length (merged_items first second)
    unfolding numbers_from
    printing_all l =
        let e : k ≡ length records = omega (arith, p.inside, many) in
        let none : 0 ≡ length (items_from first second h) = rw (e, drop-length records) at p.numbers in
        omega (arith, none, p.passed)

    module _ (less : k < length records) (d : Cluster) where
      -- the next cluster's number of entries
      abbrev count : ℕ
      count = (get_or records k d).count

      -- the numbers of the clusters behind it
      abbrev later : List ℕ
      later = numbers_from (k + 1) (drop (k + 1) records)

      split : numbers_from k (drop k records) ≡ replicate count k ++ later
      split = numbers_next records k d less

      sum : count + length later ≡ length (items_from first second h)
      sum = omega (arith, ap length split, length-append (replicate count k) later, length-replicate count k, p.numbers)

      pub printing_fits : (get_or records k d).count ≤ length (items_from first second h)
      printing_fits = omega (arith, sum)

      more : length (merged_items first second) ≤ length marks → (e : Writer) → Wrote w (entry_lines (replicate count k) (items_from first second h) (drop i marks)) e
          → Printing (passed first second count h) (i + count) (k + 1) e
      more f e v =
          let is = items_from first second h in
          let next = passed_items first second count h printing_fits in
          let few = length-drop count is in
          let mine = entry_lines (replicate count k) is (drop i marks) in
          let after = lines_left (passed first second count h) (i + count) (k + 1) in
          let long = lines_few (replicate count k) is (drop i marks) in
          let lines : lines_left h i k ≡ mine ++ after =
          rw (split, next, ← drop-drop count i marks)
          (lines_split count k later is (drop i marks) printing_fits (omega (arith, length-drop i marks, p.passed, sum))) in
          let rest : lines_left h i k ++ total ≡ mine ++ (after ++ total) = ap (λ (z : List ℕ). z ++ total) lines ∙ append_assoc mine after total in
          let left : Left o text w (mine ++ (after ++ total)) = rw rest at p.left in
          record {
            inside = omega (arith, many);
            readable = readable_passed first second count h p.readable printing_fits;
            numbers = omega (arith, ap length next, few, sum);
            passed = omega (arith, ap length next, few, p.passed, sum);
            room = omega (arith, ap length next, few, long, length-replicate count k, v.at, v.long, p.room, sum);
            left = λ n u. left n (wrote_more (omega (arith, p.room)) v u);
          }

      -- the marks of its entries
      abbrev part : List ℕ
      part = take (i + count - i) (drop i marks)

      pub printing_marked : length (merged_items first second) ≤ length marks → i + (get_or records k d).count ≤ length marks
      printing_marked f = omega (arith, p.passed, sum, f)

      pub printing_part : length (merged_items first second) ≤ length marks
          → length (take (i + (get_or records k d).count - i) (drop i marks)) ≡ (get_or records k d).count
      printing_part f =
          let e : i + count - i ≡ count = omega arith in
          rw e (length-take-le count (drop i marks) (omega (arith, length-drop i marks, printing_marked f)))

      pub printing_more : length (merged_items first second) ≤ length marks → (e : Writer)
          → Wrote w (entry_lines (replicate (length part) k) (items_from first second h) part) e
          → Printing (passed first second (length part) h) (i + (get_or records k d).count) (k + 1) e
      printing_more f e v =
          let n = printing_part f in
          let c : i + count - i ≡ count = omega arith in
          let same : entry_lines (replicate (length part) k) (items_from first second h) part ≡ entry_lines (replicate count k) (items_from first second h) (drop i marks) =
          rw (n, c) (lines_part count k (items_from first second h) (drop i marks)) in
          rw n (more f e (rw same at v))
