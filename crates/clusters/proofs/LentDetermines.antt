-- Each contract of the functions over lent records determines its result, and what it leaves in the records: any two that it allows for
-- the same arguments are equal. A contract stands here as a relation of its own, over what the lent records hold before and after:
-- `States` says that a relation is what the contract ensures, as src/ states it, in every model.
-- Assumes nothing.
use mathlib.Core.Path.{◌≡◌, refl, sym, ◌∙◌}
use seplogic.Ra.Ura.{Ura}
use lib.ListN.{length}
use base.Logic.{SProp}
use prog.Memory.{Memory}
use prog.Routine.{Routine}
use types.Logic.{Logic}
use contract.Lifetimes.{Lfts}
use contract.Monad.{Fun, fact}
use denote.Triple.Entry.{Args, Res}
use denote.Triple.Clauses.{Ended, AtExit, Clauses}
use Rattle.bases.specs.Letter.{bases_of}
use Rattle.bases.specs.Put.{put}
use Rattle.clusters.specs.Lent.{is_plan?}
use Rattle.clusters.specs.Plan.{plan_of}
use Rattle.clusters.specs.contracts.plan.fill_plan as fill-plan
use Rattle.clusters.specs.contracts.plan.is_plan as is_plan

-- A relation of the arguments, the result and the parameters at exit.
abbrev pub Relation : Ended → Type 1
Relation T = (κs : Lfts T.signature.lifetimes) → Args T.signature κs → Res T.signature κs → AtExit T κs → Type 0

-- What the contract ensures is the relation.
abbrev pub States : (T : Ended) → ((M : Type 1) (𝓤 : Ura M) (𝓛 : Logic 𝓤) → (Memory → SProp 𝓤) → (Routine → Fun 𝓤) → Clauses 𝓤 T) → Relation T → Type 2
States T contract post =
    (M : Type 1) (𝓤 : Ura M) (𝓛 : Logic 𝓤) (mem : Memory → SProp 𝓤) (run : Routine → Fun 𝓤)
    (κs : Lfts T.signature.lifetimes) (a : Args T.signature κs) (g : (contract M 𝓤 𝓛 mem run κs a).ghost) (z : Res T.signature κs) (e : AtExit T κs)
    → (contract M 𝓤 𝓛 mem run κs a).ensures g z e ≡ fact 𝓤 (post κs a z e)

abbrev pub Filled : Relation fill-plan.ended
Filled κs a z e =
    (z ≡ length (plan_of (bases_of a.0.reference.now) a.0.first.now a.0.second.now))
    × (e.1.0.now ≡ put a.1.0.now 0 (plan_of (bases_of a.0.reference.now) a.0.first.now a.0.second.now))

pub fill_plan_states : States fill-plan.ended (λ M 𝓤 𝓛. fill-plan.clauses 𝓛) Filled
fill_plan_states M 𝓤 𝓛 mem run κs a g z e = refl

pub fill_plan_determines : (κs : Lfts 2) (a : Args fill-plan.signature κs) (z z' : Res fill-plan.signature κs) (e e' : AtExit fill-plan.ended κs)
    → Filled κs a z e → Filled κs a z' e' → (z ≡ z') × (e.1.0.now ≡ e'.1.0.now)
fill_plan_determines κs a z z' e e' p q = (p.0 ∙ sym q.0, p.1 ∙ sym q.1)

abbrev pub Judged : Relation is_plan.ended
Judged κs a z e = z ≡ is_plan? (plan_of (bases_of a.0.reference.now) a.0.first.now a.0.second.now) a.1.0.now

pub is_plan_states : States is_plan.ended (λ M 𝓤 𝓛. is_plan.clauses 𝓛) Judged
is_plan_states M 𝓤 𝓛 mem run κs a g z e = refl

pub is_plan_determines : (κs : Lfts 2) (a : Args is_plan.signature κs) (z z' : Res is_plan.signature κs) (e e' : AtExit is_plan.ended κs) → Judged κs a z e → Judged κs a z' e' → z ≡ z'
is_plan_determines κs a z z' e e' p q = p ∙ sym q
