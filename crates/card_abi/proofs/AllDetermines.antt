-- The contract of `card_mark_all`, which is that of `mark_all`, determines its answer, and what it leaves in the records and in the
-- marks: any two that it allows for the same arguments are equal.
-- Assumes nothing.
use mathlib.Core.Path.{◌≡◌, refl}
use contract.Lifetimes.{Lfts}
use denote.Triple.Clauses.{AtExit}
use denote.Triple.Entry.{Args, Res}
use Rattle.clusters.proofs.LentDetermines.{States}
use Rattle.card.proofs.CallDetermines.{MarkedAll, mark_all_determines}
use Rattle.card_abi.specs.contracts.all.card_mark_all as card-mark-all

pub card_mark_all_states : States card-mark-all.ended (λ M 𝓤 𝓛. card-mark-all.clauses 𝓛) MarkedAll
card_mark_all_states M 𝓤 𝓛 mem run κs a g z e = refl

pub card_mark_all_determines : (κs : Lfts 6) (a : Args card-mark-all.signature κs) (z z' : Res card-mark-all.signature κs) (e e' : AtExit card-mark-all.ended κs)
    → MarkedAll κs a z e → MarkedAll κs a z' e' → (z ≡ z') × (e.1.1.1.1.0.now ≡ e'.1.1.1.1.0.now) × (e.1.1.1.1.1.0.now ≡ e'.1.1.1.1.1.0.now)
card_mark_all_determines = mark_all_determines
