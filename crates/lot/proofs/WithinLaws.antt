-- A run that is made of what the call `count` answers is not too large, whatever the bytes of its marks are: row 31 is not told of it.
--     mark_le, sum_le      a byte is counted at most once, so the three counts are at most the bytes
--     own_fit              a list's marks are no more than its entries
--     lists_within         the three counts of a list are at most its entries
--     counted_within       what `count` answers does not exceed 512 in a list
--     runs_within          so none of the runs is too large
-- Assumes nothing.
use mathlib.Core.Bool.{Bool, true, false, beq}
use mathlib.Core.List.{List, [], ◌∷◌}
use mathlib.Core.Path.{◌≡◌, refl, ap}
use Prim.Native.Nat.{ℕ, ◌+◌, ◌≤◌}
use native.Mathlib.Decide.{ℕ_discrete}
use native.Mathlib.Omega.{arith}
use borrow.Author.Tests.{eqb-true, ne_eqb}
use lib.Dec.{eqb, ltb}
use lib.ListN.{length}
use Rattle.bases.specs.Letter.{bases_of}
use Rattle.bases.specs.Pick.{pick}
use Rattle.card.specs.declared.refusal.Refusal.{Refusal}
use Rattle.card.specs.Answer.{refused_answer}
use Rattle.card.specs.Count.{counted_of, no_counts, count_refusal, counted}
use Rattle.card.specs.Refusal.{least_room}
use Rattle.card.proofs.ListsLaws.{lists_read}
use Rattle.marks.specs.declared.count.Counts.{Counts}
use Rattle.clusters.specs.declared.item.Item.{Item}
use Rattle.marks.specs.Counts.{one, matched?, unmatched?, undecided?, how_many, count_all, sum_of, own_marks, counts_of}
use Rattle.clusters.specs.Merged.{item_of, merged_entries, merged_items}
use Rattle.clusters.proofs.CardClusters.{map_length, merged_first, merged_second}
use Rattle.marks.proofs.CountLaws.{one_le}
use Rattle.clusters.proofs.MergedLaws.{keep}
use Rattle.donors.specs.Rules.{list1, list2, put_if}
use Rattle.vcf.specs.declared.entry.Entry.{Entry}
use Rattle.vcf.specs.Entry.{entries_of}
use Rattle.vcf.proofs.AcceptedLaws.{accepted_few}
use Rattle.lot.specs.Control.{Control, runs_of}
use Rattle.lot.specs.Run.{run_of, large?, any_large?}
use Rattle.lot.proofs.RunLaws.{within_small}

mark_le : (m : ℕ) → one (matched? m) + one (unmatched? m) + one (undecided? m) ≤ 1
mark_le m = go (ℕ_discrete m 43) (ℕ_discrete m 45) (ℕ_discrete m 48)
  where
    go : Dec (m ≡ 43) → Dec (m ≡ 45) → Dec (m ≡ 48) → one (matched? m) + one (unmatched? m) + one (undecided? m) ≤ 1
    go (yes e) b c = rw e (omega arith)
    go (no a) (yes e) c = rw e (omega arith)
    go (no a) (no b) (yes e) = rw e (omega arith)
    go (no a) (no b) (no c) = rw (ne_eqb m 43 a, ne_eqb m 45 b, ne_eqb m 48 c) (omega (arith, one_le (undecided? m)))

sum_le : (ms : List ℕ) → sum_of (count_all ms) ≤ length ms
unfolding how_many
sum_le [] = omega arith
sum_le (m ∷ ms) = omega (arith, mark_le m, sum_le ms)

own_fit : (side : Bool) (is : List Item) (ms : List ℕ) → length (own_marks side is ms) ≤ length (keep (λ (i : Item). beq side i.side) is)
unfolding own_marks keep
own_fit side [] ms = omega arith
own_fit side (i ∷ is) [] = omega arith
own_fit side (i ∷ is) (m ∷ ms) = go (beq side i.side) (own_fit side is ms)
  where
    own : List Item
    own = keep (λ (i : Item). beq side i.side) is

    go : (t : Bool) → length (own_marks side is ms) ≤ length own → length (put_if t m (own_marks side is ms)) ≤ length (put_if t i own)
    go true h = omega arith
    go false h = h

lists_within : (es fs : List Entry) (ms : List ℕ)
    → (sum_of (counts_of (merged_entries es fs) ms).first ≤ length es) × (sum_of (counts_of (merged_entries es fs) ms).second ≤ length fs)
lists_within es fs ms =
    let is = merged_entries es fs in (
      omega (arith, sum_le (own_marks list1 is ms), own_fit list1 is ms, ap length (merged_first es fs), map_length (item_of list1) es),
      omega (arith, sum_le (own_marks list2 is ms), own_fit list2 is ms, ap length (merged_second es fs), map_length (item_of list2) fs),
    )

module _ (reference name first second marks : List ℕ) where
  -- why nothing is counted, and the counts
  abbrev refused : Refusal
  refused = count_refusal reference name first second marks

  abbrev counts : Counts
  counts = counts_of (merged_items first second) marks

  pub counted_within : large? (run_of (counted reference name first second marks)) ≡ false
  counted_within = go (eqb refused.number 0) refl
    where
      go : (t : Bool) → eqb refused.number 0 ≡ t → large? (run_of (counted_of (refused_answer refused) (pick t counts no_counts))) ≡ false
      go true e =
          let r = lists_read reference name first (ltb (length marks) least_room) second (eqb-true refused.number 0 e) in
          let w = lists_within (entries_of first) (entries_of second) marks in
          within_small (run_of (counted_of (refused_answer refused) counts))
          (omega (arith, w.0, accepted_few (bases_of reference) name first r.0.accepted))
          (omega (arith, w.1, accepted_few (bases_of reference) name second r.1))
      go false e = refl

pub runs_within : (cs : List Control) → any_large? (runs_of cs) ≡ false
unfolding any_large?
runs_within [] = refl
runs_within (c ∷ cs) = rw (counted_within c.reference c.name c.first c.second c.marks) (runs_within cs)
