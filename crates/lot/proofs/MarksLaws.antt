-- Where each run's counts are those that the call `count` answers for its marks, each total equals the count over the marks of all runs
-- joined.
--     run_join         the six counts of two control runs joined
--     run_of_marks     the run made of what `count` answers has the counts of its entries' marks
--     total_of_marks   of all runs joined
--     lot_of_marks     so are the totals of the lot, which is answered: it has 1 to 256 runs, and none of them is too large
-- Assumes nothing.
use mathlib.Core.Bool.{true≢false}
use mathlib.Core.List.{List, [], ◌∷◌, ◌++◌}
use mathlib.Core.Logic.{⊎_elim}
use mathlib.Core.Path.{◌≡◌, refl, sym, ap, ◌∙◌}
use Prim.Native.Nat.{ℕ, ◌≤◌}
use native.Mathlib.Omega.{arith}
use lib.ListN.{length, drop, take-append-drop}
use lib.Seq.{length-take-le}
use Rattle.card.proofs.CountLaws.{count_given, count_room}
use Rattle.clusters.proofs.CardClusters.{map_length}
use Rattle.marks.proofs.CountLaws.{own_join, counts_marks}
use Rattle.clusters.specs.declared.item.Item.{Item}
use Rattle.marks.specs.Counts.{matched?, unmatched?, undecided?, how_many, own_marks, counts_of}
use Rattle.donors.specs.Rules.{list1, list2}
use Rattle.lot.specs.declared.run.Run.{Run}
use Rattle.lot.specs.Control.{Control, counted_for, AllCounted, runs_of, entries_in, marks_in, joined_entries, joined_marks, run_with}
use Rattle.lot.specs.Lot.{given_lot, lot_of}
use Rattle.lot.specs.Run.{most_runs, run_of, both_runs, total_of}
use Rattle.lot.proofs.RefusalLaws.{any_large_iff, lot_answered_iff}
use Rattle.lot.proofs.WithinLaws.{runs_within}

run_join : (is js : List Item) (ms ns : List ℕ) → length is ≡ length ms
    → run_with (counts_of (is ++ js) (ms ++ ns)) ≡ both_runs (run_with (counts_of is ms)) (run_with (counts_of js ns))
run_join is js ms ns h = λ i. record {
  matched1 = own_join matched? list1 is js ms ns h i;
  unmatched1 = own_join unmatched? list1 is js ms ns h i;
  undecided1 = own_join undecided? list1 is js ms ns h i;
  matched2 = own_join matched? list2 is js ms ns h i;
  unmatched2 = own_join unmatched? list2 is js ms ns h i;
  undecided2 = own_join undecided? list2 is js ms ns h i;
}

module _ (c : Control) (z : (counted_for c).number ≡ 0) where
  each : length (entries_in c) ≡ length (marks_in c)
  each = sym (length-take-le (length (entries_in c)) c.marks (count_room c.reference c.name c.first c.second c.marks z))

  run_of_marks : run_of (counted_for c) ≡ run_with (counts_of (entries_in c) (marks_in c))
  run_of_marks =
      ap run_of (count_given c.reference c.name c.first c.second c.marks z)
      ∙ ap (λ (ms : List ℕ). run_with (counts_of (entries_in c) ms)) (sym (take-append-drop (length (entries_in c)) c.marks))
      ∙ ap run_with (counts_marks (entries_in c) (marks_in c) (drop (length (entries_in c)) c.marks) (omega (arith, each)))

total_of_marks : (cs : List Control) → AllCounted cs → total_of (runs_of cs) ≡ run_with (counts_of (joined_entries cs) (joined_marks cs))
unfolding total_of joined_entries joined_marks own_marks how_many
total_of_marks [] a = refl
total_of_marks (c ∷ cs) a =
    ap (λ (r : Run). both_runs r (total_of (runs_of cs))) (run_of_marks c a.0)
    ∙ ap (both_runs (run_with (counts_of (entries_in c) (marks_in c)))) (total_of_marks cs a.1)
    ∙ sym (run_join (entries_in c) (joined_entries cs) (marks_in c) (joined_marks cs) (each c a.0))

pub lot_of_marks : (cs : List Control) → AllCounted cs → 1 ≤ length cs → length cs ≤ most_runs
    → lot_of (runs_of cs) ≡ given_lot (run_with (counts_of (joined_entries cs) (joined_marks cs)))
lot_of_marks cs a some few =
    let n = map_length (λ (c : Control). run_of (counted_for c)) cs in
    (lot_answered_iff (runs_of cs)).1 (⊎_elim (λ e. absurd (omega (arith, n, e))) (λ h. absurd (omega (arith, n, h))), λ h. true≢false (sym ((any_large_iff (runs_of cs)).1 h) ∙ runs_within cs))
    ∙ ap given_lot (total_of_marks cs a)
