-- The contract of `mark` determines its answer and the marks that it leaves: any two that it allows for the same arguments are equal.
-- Assumes nothing.
use mathlib.Core.Path.{◌≡◌, refl, sym, ◌∙◌}
use lib.ListN.{length}
use contract.Lifetimes.{Lfts}
use denote.Triple.Entry.{Args, Res}
use denote.Triple.Clauses.{AtExit}
use Rattle.clusters.proofs.LentDetermines.{Relation, States}
use Rattle.card.specs.Mark.{marked, mark_after}
use Rattle.card.specs.contracts.mark.mark as mark

abbrev pub Marked : Relation mark.ended
Marked κs a z e =
    (z ≡ marked a.0.now a.1.0.now a.1.1.0.now a.1.1.1.0.now a.1.1.1.1.0.now a.1.1.1.1.1.0 (length a.1.1.1.1.1.1.0.now))
    × (e.1.1.1.1.1.1.0.now ≡ mark_after a.0.now a.1.0.now a.1.1.0.now a.1.1.1.0.now a.1.1.1.1.0.now a.1.1.1.1.1.0 a.1.1.1.1.1.1.0.now)

pub mark_states : States mark.ended (λ M 𝓤 𝓛. mark.clauses 𝓛) Marked
mark_states M 𝓤 𝓛 mem run κs a g z e = refl

pub mark_determines : (κs : Lfts 6) (a : Args mark.signature κs) (z z' : Res mark.signature κs) (e e' : AtExit mark.ended κs)
    → Marked κs a z e → Marked κs a z' e' → (z ≡ z') × (e.1.1.1.1.1.1.0.now ≡ e'.1.1.1.1.1.1.0.now)
mark_determines κs a z z' e e' p q = (p.0 ∙ sym q.0, p.1 ∙ sym q.1)
