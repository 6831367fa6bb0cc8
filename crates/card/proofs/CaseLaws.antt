-- Two references that differ only in the case of their bases: each call gives the same answer and leaves the same of what it is lent, and
-- of an allele the same part is shown. Only its bytes are those that were lent.
--     only_case                     bytes that differ only in case spell the same bases
--     plan_case, entries_case, mark_case, all_case, count_case, normal_case
--                                   what the call answers, and what it leaves
--     allele_case, shown_case       why an allele is not shown, and where what is shown stands
-- Assumes nothing.
use mathlib.Core.List.{List, [], ◌∷◌}
use mathlib.Core.Logic.{⊎_elim}
use mathlib.Core.Path.{◌≡◌, refl, sym, ap, ap₂, ◌∙◌}
use Prim.Native.Nat.{ℕ}
use lib.ListN.{length}
use Rattle.bases.specs.Letter.{letter_of, bases_of}
use Rattle.bases.specs.Reference.{is_reference?}
use Rattle.bases.proofs.ReferenceLaws.{reference_case}
use Rattle.clusters.specs.declared.plan.Cluster.{Cluster}
use Rattle.listed.specs.declared.listed.Listed.{Listed}
use Rattle.card.specs.All.{all_answered, all_plan, all_bytes}
use Rattle.card.specs.Allele.{allele_refusal, shown}
use Rattle.card.specs.Case.{OnlyCase}
use Rattle.card.specs.Count.{counted}
use Rattle.card.specs.Entries.{listed, listed_after}
use Rattle.card.specs.Mark.{marked, mark_after}
use Rattle.card.specs.Normal.{written, normal_after}
use Rattle.card.specs.Plan.{planned, plan_after}

pub only_case : (a b : List ℕ) → OnlyCase a b → bases_of a ≡ bases_of b
only_case [] [] h = refl
only_case [] (y ∷ b) h = absurd h
only_case (x ∷ a) [] h = absurd h
only_case (x ∷ a) (y ∷ b) h = ap₂ (λ (z : ℕ) (l : List ℕ). z ∷ l) (⊎_elim (λ e. ap letter_of e) (λ w. w.1) h.0) (only_case a b h.1)

-- The references r and s spell the same bases.
module _ (r s : List ℕ) (same : bases_of r ≡ bases_of s) where
  right : is_reference? r ≡ is_reference? s
  right = sym (reference_case r) ∙ ap is_reference? same ∙ reference_case s

  pub plan_case : (name first second : List ℕ) (plan : List Cluster)
      → (planned r name first second (length plan) ≡ planned s name first second (length plan)) × (plan_after r name first second plan ≡ plan_after s name first second plan)
  plan_case name first second plan = (rw (right, same), rw (right, same))

  pub entries_case : (name first second : List ℕ) (entries : List Listed)
      → (listed r name first second (length entries) ≡ listed s name first second (length entries)) × (listed_after r name first second entries ≡ listed_after s name first second entries)
  entries_case name first second entries = (rw (right, same), rw (right, same))

  pub mark_case : (name first second : List ℕ) (plan : List Cluster) (k : ℕ) (marks : List ℕ)
      → (marked r name first second plan k (length marks) ≡ marked s name first second plan k (length marks))
      × (mark_after r name first second plan k marks ≡ mark_after s name first second plan k marks)
  mark_case name first second plan k marks = (rw (right, same), rw (right, same))

  pub all_case : (name first second : List ℕ) (plan : List Cluster) (marks : List ℕ)
      → (all_answered r name first second (length plan) (length marks) ≡ all_answered s name first second (length plan) (length marks))
      × (all_plan r name first second plan marks ≡ all_plan s name first second plan marks) × (all_bytes r name first second plan marks ≡ all_bytes s name first second plan marks)
  all_case name first second plan marks = (rw (right, same), rw (right, same), rw (right, same))

  pub count_case : (name first second marks : List ℕ) → counted r name first second marks ≡ counted s name first second marks
  count_case name first second marks = rw (right, same)

  pub normal_case : (name text out : List ℕ) → (written r name text (length out) ≡ written s name text (length out)) × (normal_after r name text out ≡ normal_after s name text out)
  normal_case name text out = (rw (right, same), rw (right, same))

  pub allele_case : (name text : List ℕ) (i k : ℕ) → allele_refusal r name text i k ≡ allele_refusal s name text i k
  allele_case name text i k = rw (right, same)

  pub shown_case : (name text : List ℕ) (i k : ℕ) → shown r name text i k ≡ shown s name text i k
  unfolding shown
  shown_case name text i k = rw (right, same)
