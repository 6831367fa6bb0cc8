-- The contract of the function that fills the records of entries determines its result, and what it leaves in the records (`States`: crate clusters).
-- Assumes nothing.
use mathlib.Core.Path.{◌≡◌, refl, sym, ◌∙◌}
use lib.ListN.{length}
use contract.Lifetimes.{Lfts}
use denote.Triple.Entry.{Args, Res}
use denote.Triple.Clauses.{AtExit}
use Rattle.bases.specs.Letter.{bases_of}
use Rattle.bases.specs.Put.{put}
use Rattle.clusters.proofs.LentDetermines.{Relation, States}
use Rattle.listed.specs.Listed.{listed_of}
use Rattle.listed.specs.contracts.listed.fill_entries as fill-entries

abbrev pub Listed : Relation fill-entries.ended
Listed κs a z e =
    (z ≡ length (listed_of (bases_of a.0.reference.now) a.0.first.now a.0.second.now))
    × (e.1.0.now ≡ put a.1.0.now 0 (listed_of (bases_of a.0.reference.now) a.0.first.now a.0.second.now))

pub fill_entries_states : States fill-entries.ended (λ M 𝓤 𝓛. fill-entries.clauses 𝓛) Listed
fill_entries_states M 𝓤 𝓛 mem run κs a g z e = refl

pub fill_entries_determines : (κs : Lfts 2) (a : Args fill-entries.signature κs) (z z' : Res fill-entries.signature κs) (e e' : AtExit fill-entries.ended κs)
    → Listed κs a z e → Listed κs a z' e' → (z ≡ z') × (e.1.0.now ≡ e'.1.0.now)
fill_entries_determines κs a z z' e e' p q = (p.0 ∙ sym q.0, p.1 ∙ sym q.1)
