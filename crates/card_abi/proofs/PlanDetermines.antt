-- The contract of `card_plan`, which is that of `plan`, determines its result, and what it leaves in the records: any two that it allows
-- for the same arguments are equal.
-- Assumes nothing.
use mathlib.Core.Path.{◌≡◌, refl}
use contract.Lifetimes.{Lfts}
use denote.Triple.Clauses.{AtExit}
use denote.Triple.Entry.{Args, Res}
use Rattle.clusters.proofs.LentDetermines.{States}
use Rattle.card.proofs.CallDetermines.{Planned, plan_determines}
use Rattle.card_abi.specs.contracts.plan.card_plan as card-plan

pub card_plan_states : States card-plan.ended (λ M 𝓤 𝓛. card-plan.clauses 𝓛) Planned
card_plan_states M 𝓤 𝓛 mem run κs a g z e = refl

pub card_plan_determines : (κs : Lfts 5) (a : Args card-plan.signature κs) (z z' : Res card-plan.signature κs) (e e' : AtExit card-plan.ended κs)
    → Planned κs a z e → Planned κs a z' e' → (z ≡ z') × (e.1.1.1.1.0.now ≡ e'.1.1.1.1.0.now)
card_plan_determines = plan_determines
