-- Each contract of the calls over lent records determines its result, and what it leaves in what it is lent: any two that it allows for
-- the same arguments are equal. `States` says that a relation is what the contract ensures.
-- Assumes nothing.
use mathlib.Core.Path.{◌≡◌, refl, sym, ◌∙◌}
use lib.ListN.{length}
use contract.Lifetimes.{Lfts}
use denote.Triple.Clauses.{AtExit}
use denote.Triple.Entry.{Args, Res}
use Rattle.clusters.proofs.LentDetermines.{Relation, States}
use Rattle.card.specs.All.{all_answered, empty_plan, all_plan, all_bytes}
use Rattle.card.specs.Entries.{listed, listed_after}
use Rattle.card.specs.Plan.{planned, plan_after}
use Rattle.card.specs.Refusal.{least_room}
use Rattle.card.specs.contracts.all.mark_all as mark-all
use Rattle.card.specs.contracts.all.marked_lists as marked-lists
use Rattle.card.specs.contracts.entries.entries as entries
use Rattle.card.specs.contracts.plan.plan as plan

abbrev pub Planned : Relation plan.ended
Planned κs a z e =
    (z ≡ planned a.0.now a.1.0.now a.1.1.0.now a.1.1.1.0.now (length a.1.1.1.1.0.now))
    × (e.1.1.1.1.0.now ≡ plan_after a.0.now a.1.0.now a.1.1.0.now a.1.1.1.0.now a.1.1.1.1.0.now)

pub plan_states : States plan.ended (λ M 𝓤 𝓛. plan.clauses 𝓛) Planned
plan_states M 𝓤 𝓛 mem run κs a g z e = refl

pub plan_determines : (κs : Lfts 5) (a : Args plan.signature κs) (z z' : Res plan.signature κs) (e e' : AtExit plan.ended κs)
    → Planned κs a z e → Planned κs a z' e' → (z ≡ z') × (e.1.1.1.1.0.now ≡ e'.1.1.1.1.0.now)
plan_determines κs a z z' e e' p q = (p.0 ∙ sym q.0, p.1 ∙ sym q.1)

abbrev pub EntriesListed : Relation entries.ended
EntriesListed κs a z e =
    (z ≡ listed a.0.now a.1.0.now a.1.1.0.now a.1.1.1.0.now (length a.1.1.1.1.0.now))
    × (e.1.1.1.1.0.now ≡ listed_after a.0.now a.1.0.now a.1.1.0.now a.1.1.1.0.now a.1.1.1.1.0.now)

pub entries_states : States entries.ended (λ M 𝓤 𝓛. entries.clauses 𝓛) EntriesListed
entries_states M 𝓤 𝓛 mem run κs a g z e = refl

pub entries_determines : (κs : Lfts 5) (a : Args entries.signature κs) (z z' : Res entries.signature κs) (e e' : AtExit entries.ended κs)
    → EntriesListed κs a z e → EntriesListed κs a z' e' → (z ≡ z') × (e.1.1.1.1.0.now ≡ e'.1.1.1.1.0.now)
entries_determines κs a z z' e e' p q = (p.0 ∙ sym q.0, p.1 ∙ sym q.1)

abbrev pub MarkedAll : Relation mark-all.ended
MarkedAll κs a z e =
    (z ≡ all_answered a.0.now a.1.0.now a.1.1.0.now a.1.1.1.0.now (length a.1.1.1.1.0.now) (length a.1.1.1.1.1.0.now))
    × (e.1.1.1.1.0.now ≡ all_plan a.0.now a.1.0.now a.1.1.0.now a.1.1.1.0.now a.1.1.1.1.0.now a.1.1.1.1.1.0.now)
    × (e.1.1.1.1.1.0.now ≡ all_bytes a.0.now a.1.0.now a.1.1.0.now a.1.1.1.0.now a.1.1.1.1.0.now a.1.1.1.1.1.0.now)

pub mark_all_states : States mark-all.ended (λ M 𝓤 𝓛. mark-all.clauses 𝓛) MarkedAll
mark_all_states M 𝓤 𝓛 mem run κs a g z e = refl

pub mark_all_determines : (κs : Lfts 6) (a : Args mark-all.signature κs) (z z' : Res mark-all.signature κs) (e e' : AtExit mark-all.ended κs)
    → MarkedAll κs a z e → MarkedAll κs a z' e' → (z ≡ z') × (e.1.1.1.1.0.now ≡ e'.1.1.1.1.0.now) × (e.1.1.1.1.1.0.now ≡ e'.1.1.1.1.1.0.now)
mark_all_determines κs a z z' e e' p q = (p.0 ∙ sym q.0, p.1 ∙ sym q.1, p.2 ∙ sym q.2)

abbrev pub Marked : Relation marked-lists.ended
Marked κs a z e =
    (z.answer ≡ all_answered a.0.now a.1.0.now a.1.1.0.now a.1.1.1.0.now least_room (length a.1.1.1.1.0.now))
    × (z.plan ≡ all_plan a.0.now a.1.0.now a.1.1.0.now a.1.1.1.0.now empty_plan a.1.1.1.1.0.now)
    × (e.1.1.1.1.0.now ≡ all_bytes a.0.now a.1.0.now a.1.1.0.now a.1.1.1.0.now empty_plan a.1.1.1.1.0.now)

pub marked_lists_states : States marked-lists.ended (λ M 𝓤 𝓛. marked-lists.clauses 𝓛) Marked
marked_lists_states M 𝓤 𝓛 mem run κs a g z e = refl

pub marked_lists_determines : (κs : Lfts 5) (a : Args marked-lists.signature κs) (z z' : Res marked-lists.signature κs) (e e' : AtExit marked-lists.ended κs)
    → Marked κs a z e → Marked κs a z' e' → (z ≡ z') × (e.1.1.1.1.0.now ≡ e'.1.1.1.1.0.now)
marked_lists_determines κs a z z' e e' p q =
    ((λ i. record { answer = (p.0 ∙ sym q.0) i; plan = (p.1 ∙ sym q.1) i }), p.2 ∙ sym q.2)
