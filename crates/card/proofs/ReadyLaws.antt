-- What is so of lists that are read, as far as the clusters' functions lean on it.
--     Answerable, lists_answerable     where no row of the lists holds
--     rooms_answerable                 the same of a call that is lent a plan and marks: both have the least room
-- Assumes nothing.
use mathlib.Core.Bool.{Bool, false}
use mathlib.Core.List.{List}
use mathlib.Core.Path.{◌≡◌, sym, ◌∙◌}
use Prim.Native.Nat.{ℕ, ◌≤◌}
use native.Mathlib.Omega.{arith}
use borrow.Author.Tests.{ltb-false}
use lib.Dec.{ltb}
use lib.ListN.{length}
use Rattle.bases.specs.Letter.{bases_of}
use Rattle.bases.specs.Reference.{longest_reference}
use Rattle.bases.proofs.ReferenceLaws.{reference_bases}
use Rattle.bases.proofs.TestLaws.{of_true, neither}
use Rattle.clusters.specs.Heads.{Ready, start_heads}
use Rattle.clusters.specs.Item.{variant}
use Rattle.marks.specs.Marks.{clusters_of, total_score}
use Rattle.clusters.specs.Merged.{merged_items}
use Rattle.clusters.specs.Plan.{plan_of}
use Rattle.clusters.proofs.CardClusters.{clusters_plain, map_length}
use Rattle.clusters.proofs.NextLaws.{accepted_ready}
use Rattle.card.specs.Mark.{small_room?}
use Rattle.card.specs.Refusal.{first_refusal, least_room, lists_checks}
use Rattle.card.proofs.ClusterMarks.{whole_long, entries_most, plan_few}
use Rattle.card.proofs.ListsLaws.{lists_read}
use Rattle.card.proofs.ScoreLaws.{total_score_lem}

-- A walk over both lists can begin, plan and marks of the least size hold what there is, and the score is a small number.
pub record Answerable (reference first second : List ℕ) : Type 0 where
  pub ready : Ready reference first second (start_heads first second)
  pub short : length reference ≤ longest_reference
  pub entries : length (merged_items first second) ≤ least_room
  pub clusters : length (plan_of reference first second) ≤ least_room
  pub score : total_score reference (clusters_of reference first second) ≤ least_room

pub lists_answerable : (reference name first second : List ℕ) (small : Bool) → (first_refusal (lists_checks reference name first second small)).number ≡ 0 → Answerable (bases_of reference) first second
    × (small ≡ false)
lists_answerable reference name first second small z =
    let r = lists_read reference name first small second z in
    let most = entries_most (bases_of reference) name first second r.0.accepted r.1 in (
      record {
        ready = accepted_ready (bases_of reference) name first second r.0.accepted r.1;
        short = (reference_bases reference (of_true r.0.right)).short;
        entries = omega (arith, map_length (variant (bases_of reference) first second) (merged_items first second), most);
        clusters = plan_few (bases_of reference) name first second r.0.accepted r.1;
        score = omega (
          arith,
          total_score_lem (bases_of reference) (clusters_of (bases_of reference) first second) (clusters_plain (bases_of reference) first second),
          whole_long
              (bases_of reference) name first second r.0.accepted r.1,
          most,
        );
      },
      r.0.roomy,
    )

-- Of two lengths that are lent, `small` tells whether one is too small.
pub rooms_answerable : (reference name first second : List ℕ) (plan marks : ℕ) (small : Bool) → small ≡ small_room? plan marks
    → (first_refusal (lists_checks reference name first second small)).number ≡ 0
    → Answerable (bases_of reference) first second × (least_room ≤ plan) × (least_room ≤ marks)
rooms_answerable reference name first second plan marks small e z =
    let can = lists_answerable reference name first second small z in
    let room = neither (ltb plan least_room) (ltb marks least_room) (sym e ∙ can.1) in
    (can.0, ltb-false plan least_room room.0, ltb-false marks least_room room.1)
