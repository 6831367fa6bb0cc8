-- The contract of `card_entries`, which is that of `entries`, determines its result, and what it leaves in the records: any two that it
-- allows for the same arguments are equal.
-- Assumes nothing.
use mathlib.Core.Path.{◌≡◌, refl}
use contract.Lifetimes.{Lfts}
use denote.Triple.Clauses.{AtExit}
use denote.Triple.Entry.{Args, Res}
use Rattle.clusters.proofs.LentDetermines.{States}
use Rattle.card.proofs.CallDetermines.{EntriesListed, entries_determines}
use Rattle.card_abi.specs.contracts.entries.card_entries as card-entries

pub card_entries_states : States card-entries.ended (λ M 𝓤 𝓛. card-entries.clauses 𝓛) EntriesListed
card_entries_states M 𝓤 𝓛 mem run κs a g z e = refl

pub card_entries_determines : (κs : Lfts 5) (a : Args card-entries.signature κs) (z z' : Res card-entries.signature κs) (e e' : AtExit card-entries.ended κs)
    → EntriesListed κs a z e → EntriesListed κs a z' e' → (z ≡ z') × (e.1.1.1.1.0.now ≡ e'.1.1.1.1.0.now)
card_entries_determines = entries_determines
