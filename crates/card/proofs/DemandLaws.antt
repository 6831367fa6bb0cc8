-- Demand 3, proved: whatever the order, repeats and refusals of the calls, once each cluster has been answered every entry of both lists
-- has the mark that the demand gives it, and so the marks are the same.
--     calls_long, calls_others, calls_kept, calls_asked     what several calls leave, byte by byte
--     demand_3           the mark of each entry, once each cluster has been answered
--     demand_3_same      the marks are then the same, whatever the calls
-- Assumes nothing.
use mathlib.Core.List.{List, [], ◌∷◌}
use mathlib.Core.Logic.{inl, inr}
use mathlib.Core.Path.{◌≡◌, refl, ◌∙◌}
use Prim.Native.Nat.{ℕ, ◌≤◌}
use native.Mathlib.Omega.{arith}
use lib.ListN.{length, get_or}
use Rattle.bases.specs.Letter.{bases_of}
use Rattle.marks.specs.Marks.{clusters_of, all_marks}
use Rattle.clusters.specs.Merged.{merged_variants}
use Rattle.clusters.proofs.CardClusters.{clusters_best, clusters_pair}
use Rattle.donors.specs.Apart.{All}
use Rattle.matching.specs.BestOf.{Some}
use Rattle.matching.specs.Card.{card_best}
use Rattle.vcf.specs.List.{judge_text}
use Rattle.card.specs.Demand.{Call, after, after_all, Allowed, Answers, EachAnswered, LiesIn, EntriesMarked}
use Rattle.card.proofs.AfterLaws.{after_long, after_others, after_entry, after_asked}
use Rattle.card.proofs.EntryLaws.{lies_somewhere, entry_marked, marked_same}

module _ (reference name first second : List ℕ) (accepted1 : (judge_text (bases_of reference) name first).number ≡ 0) (accepted2 : (judge_text (bases_of reference) name second).number ≡ 0) where
  abbrev AllAllowed : ℕ → List Call → Type 0
  AllAllowed n calls = All (Allowed reference name first second n) calls

  -- What is allowed of the calls that are left, after one.
  left : (c : Call) (calls : List Call) (marks : List ℕ) → AllAllowed (length marks) (c ∷ calls) → AllAllowed (length (after marks c)) calls
  left c calls marks a = rw (after_long reference name first second accepted1 accepted2 marks c a.0) a.1

  calls_long : (calls : List Call) (marks : List ℕ) → AllAllowed (length marks) calls → length (after_all marks calls) ≡ length marks
  unfolding after_all
  calls_long [] marks a = refl
  calls_long (c ∷ calls) marks a =
      calls_long calls (after marks c) (left c calls marks a) ∙ after_long reference name first second accepted1 accepted2 marks c a.0

  calls_others : (calls : List Call) (marks : List ℕ) → AllAllowed (length marks) calls → (e : ℕ) → length (merged_variants (bases_of reference) first second) ≤ e
      → get_or (after_all marks calls) e 0 ≡ get_or marks e 0
  unfolding after_all
  calls_others [] marks a e h = refl
  calls_others (c ∷ calls) marks a e h =
      calls_others calls (after marks c) (left c calls marks a) e h ∙ after_others reference name first second accepted1 accepted2 marks c a.0 e h

  -- The mark of entry e is that which its cluster has.
  abbrev Right : ℕ → List ℕ → Type 0
  Right e marks = get_or marks e 0 ≡ get_or (all_marks (bases_of reference) (clusters_of (bases_of reference) first second)) e 0

  calls_kept : (e : ℕ) (calls : List Call) (marks : List ℕ) → AllAllowed (length marks) calls → Right e marks → Right e (after_all marks calls)
  unfolding after_all
  calls_kept e [] marks a r = r
  calls_kept e (c ∷ calls) marks a r =
      calls_kept e calls (after marks c) (left c calls marks a) (after_entry reference name first second accepted1 accepted2 marks c a.0 e r)

  calls_asked : (k e : ℕ) → LiesIn (bases_of reference) first second k e → (calls : List Call) (marks : List ℕ) → AllAllowed (length marks) calls → Some (Answers reference name first second k) calls
      → Right e (after_all marks calls)
  unfolding after_all
  calls_asked k e l [] marks a s = absurd s
  calls_asked k e l (c ∷ calls) marks a (inl s) =
      calls_kept e calls (after marks c) (left c calls marks a) (after_asked reference name first second accepted1 accepted2 marks c a.0 k e l s)
  calls_asked k e l (c ∷ calls) marks a (inr s) = calls_asked k e l calls (after marks c) (left c calls marks a) s

  pub demand_3 : (calls : List Call) (marks : List ℕ) → All (Allowed reference name first second (length marks)) calls → EachAnswered reference name first second calls
      → EntriesMarked (bases_of reference) first second marks (after_all marks calls)
  demand_3 calls marks a each = record {
    pair = card_best (bases_of reference) (merged_variants (bases_of reference) first second);
    is_best = rw (clusters_best (bases_of reference) name first second accepted1 accepted2) (clusters_pair (bases_of reference) name first second accepted1 accepted2).0;
    entries = λ e h.
        let (k, l) = lies_somewhere (bases_of reference) name first second accepted1 accepted2 e h in
        entry_marked (bases_of reference) name first second accepted1 accepted2 (after_all marks calls) k e l (calls_asked k e l calls marks a (each k (omega (arith, l.there))));
    others = λ e behind. calls_others calls marks a e (omega arith);
    long = calls_long calls marks a;
  }

  pub demand_3_same : (marks : List ℕ) (calls others : List Call) → All (Allowed reference name first second (length marks)) calls → EachAnswered reference name first second calls
      → All (Allowed reference name first second (length marks)) others → EachAnswered reference name first second others
      → after_all marks calls ≡ after_all marks others
  demand_3_same marks calls others a each b all =
      marked_same (bases_of reference) name first second accepted1 accepted2 marks (after_all marks calls) (after_all marks others) (demand_3 calls marks a each) (demand_3 others marks b all)
