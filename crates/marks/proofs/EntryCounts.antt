-- Where every entry has a mark, the three counts of a list add up to its entries.
--     Marked, all_marked_lem        each byte is a mark; so it is where every cluster is marked
--     sum_marked                each mark is counted once
--     own_kept, own_marked      a list's marks are as many as its entries, and marks where all are
--     counts_entries            so the counts of a list add up to its entries
-- Assumes nothing.
use mathlib.Core.Bool.{Bool, true, false, beq}
use mathlib.Core.List.{List, [], ◌∷◌, ◌++◌, map}
use mathlib.Core.Path.{◌≡◌, refl, ap, ◌∙◌}
use Prim.Native.Nat.{ℕ, zero, suc, ◌+◌, ◌≤◌}
use native.Mathlib.Decide.{ℕ_discrete}
use native.Mathlib.Omega.{arith}
use borrow.Author.Tests.{ne_eqb}
use lib.Dec.{T}
use lib.ListN.{length, take, replicate}
use Rattle.bases.specs.Pick.{pick}
use Rattle.donors.specs.Apart.{All}
use Rattle.donors.specs.Choice.{Choice, plus, minus, out, Variant}
use Rattle.donors.specs.Rules.{list1, list2, put_if}
use Rattle.matching.specs.Answer.{byte_of}
use Rattle.matching.specs.Card.{card_best}
use Rattle.matching.specs.Cut.{join}
use Rattle.vcf.specs.declared.entry.Entry.{Entry}
use Rattle.clusters.specs.declared.item.Item.{Item}
use Rattle.marks.specs.Counts.{matched?, unmatched?, undecided?, mark?, one, how_many, count_all, sum_of, own_marks, counts_of}
use Rattle.marks.specs.Marks.{QUESTION, decided?, marks_of, all_marks}
use Rattle.clusters.specs.Merged.{item_of, merged_entries}
use Rattle.clusters.proofs.CardClusters.{map_length, merged_first, merged_second}
use Rattle.clusters.proofs.MergedLaws.{keep}

-- Each of these bytes is a mark.
abbrev pub Marked : List ℕ → Type 0
Marked ms = All (λ (m : ℕ). T (mark? m)) ms

marked_append : (ms ns : List ℕ) → Marked ms → Marked ns → Marked (ms ++ ns)
marked_append [] ns u v = v
marked_append (m ∷ ms) ns u v = (u.0, marked_append ms ns u.1 v)

marked_bytes : (φ : List Choice) → Marked (map byte_of φ)
marked_bytes [] = tt
marked_bytes (plus ∷ φ) = (tt, marked_bytes φ)
marked_bytes (minus ∷ φ) = (tt, marked_bytes φ)
marked_bytes (out ∷ φ) = (tt, marked_bytes φ)

marked_question : (n : ℕ) → Marked (replicate n QUESTION)
marked_question zero = tt
marked_question (suc n) = (tt, marked_question n)

pub all_marked_lem : (reference : List ℕ) (cs : List (List Variant)) → Marked (all_marks reference cs)
unfolding join
all_marked_lem reference [] = tt
all_marked_lem reference (c ∷ cs) = marked_append (marks_of reference c) (all_marks reference cs) (go (decided? c)) (all_marked_lem reference cs)
  where
    go : (t : Bool) → Marked (pick t (map byte_of (card_best reference c)) (replicate (length c) QUESTION))
    go true = marked_bytes (card_best reference c)
    go false = marked_question (length c)

-- A mark is counted once.
mark_once : (m : ℕ) → T (mark? m) → one (matched? m) + one (unmatched? m) + one (undecided? m) ≡ 1
mark_once m = go (ℕ_discrete m 43) (ℕ_discrete m 45) (ℕ_discrete m 48) (ℕ_discrete m 63)
  where
    go : Dec (m ≡ 43) → Dec (m ≡ 45) → Dec (m ≡ 48) → Dec (m ≡ 63) → T (mark? m) → one (matched? m) + one (unmatched? m) + one (undecided? m) ≡ 1
    go (yes e) b c d h = rw e
    go (no a) (yes e) c d h = rw e
    go (no a) (no b) (yes e) d h = rw e
    go (no a) (no b) (no c) (yes e) h = rw e
    go (no a) (no b) (no c) (no d) h = absurd (rw (ne_eqb m 43 a, ne_eqb m 45 b, ne_eqb m 48 c, ne_eqb m 63 d) at h)

pub sum_marked : (ms : List ℕ) → Marked ms → sum_of (count_all ms) ≡ length ms
unfolding how_many
sum_marked [] u = refl
sum_marked (m ∷ ms) u = omega (arith, mark_once m u.0, sum_marked ms u.1)

module _ (side : Bool) where
  -- The entries of the list.
  abbrev pub own : List Item → List Item
  own is = keep (λ (i : Item). beq side i.side) is

  own_kept : (is : List Item) (ms : List ℕ) → length is ≤ length ms → length (own_marks side is ms) ≡ length (own is)
  unfolding own_marks keep
  own_kept [] ms h = refl
  own_kept (i ∷ is) [] h = absurd (omega arith)
  own_kept (i ∷ is) (m ∷ ms) h = go (beq side i.side) (own_kept is ms (omega arith))
    where
      go : (t : Bool) → length (own_marks side is ms) ≡ length (own is) → length (put_if t m (own_marks side is ms)) ≡ length (put_if t i (own is))
      go true e = ap suc e
      go false e = e

  own_marked : (is : List Item) (ms : List ℕ) → Marked (take (length is) ms) → Marked (own_marks side is ms)
  unfolding own_marks
  own_marked [] ms u = tt
  own_marked (i ∷ is) [] u = tt
  own_marked (i ∷ is) (m ∷ ms) u = go (beq side i.side) (own_marked is ms u.1)
    where
      go : (t : Bool) → Marked (own_marks side is ms) → Marked (put_if t m (own_marks side is ms))
      go true v = (u.0, v)
      go false v = v

  own_sum : (is : List Item) (ms : List ℕ) → length is ≤ length ms → Marked (take (length is) ms)
      → sum_of (count_all (own_marks side is ms)) ≡ length (own is)
  own_sum is ms h u = sum_marked (own_marks side is ms) (own_marked is ms u) ∙ own_kept is ms h

pub counts_entries : (es fs : List Entry) (ms : List ℕ) → length (merged_entries es fs) ≤ length ms → Marked (take (length (merged_entries es fs)) ms)
    → (sum_of (counts_of (merged_entries es fs) ms).first ≡ length es) × (sum_of (counts_of (merged_entries es fs) ms).second ≡ length fs)
counts_entries es fs ms h u = (
  own_sum list1 (merged_entries es fs) ms h u ∙ ap length (merged_first es fs) ∙ map_length (item_of list1) es,
  own_sum list2 (merged_entries es fs) ms h u ∙ ap length (merged_second es fs) ∙ map_length (item_of list2) fs,
)
