-- The contract of `card_mark` is that of `mark`, and determines its answer and the marks that it leaves: any two that it allows for the
-- same arguments are equal.
-- Assumes nothing.
use mathlib.Core.Path.{◌≡◌, refl}
use contract.Lifetimes.{Lfts}
use denote.Triple.Entry.{Args, Res}
use denote.Triple.Clauses.{AtExit}
use Rattle.clusters.proofs.LentDetermines.{States}
use Rattle.card.proofs.MarkDetermines.{Marked, mark_determines}
use Rattle.card_abi.specs.contracts.mark.card_mark as card-mark

pub card_mark_states : States card-mark.ended (λ M 𝓤 𝓛. card-mark.clauses 𝓛) Marked
card_mark_states M 𝓤 𝓛 mem run κs a g z e = refl

pub card_mark_determines : (κs : Lfts 6) (a : Args card-mark.signature κs) (z z' : Res card-mark.signature κs) (e e' : AtExit card-mark.ended κs)
    → Marked κs a z e → Marked κs a z' e' → (z ≡ z') × (e.1.1.1.1.1.1.0.now ≡ e'.1.1.1.1.1.1.0.now)
card_mark_determines = mark_determines
