-- Each contract determines its result: any two results that it allows for the same arguments are equal. `Post` is the contract as src/
-- states it; of `lot`, which is lent records, `States` says that a relation is what its contract ensures, in every model.
-- Assumes nothing.
use mathlib.Core.Path.{◌≡◌, refl, sym, ◌∙◌}
use contract.Lifetimes.{Lfts}
use denote.Triple.Clauses.{AtExit}
use denote.Triple.Entry.{Args, Res}
use Rattle.bases.proofs.Determines.{OneResult}
use Rattle.clusters.proofs.LentDetermines.{Relation, States}
use Rattle.lot.specs.Lot.{lot_of}
use Rattle.lot.proofs.answer.answer_of.Kinds as answer-of-kinds
use Rattle.lot.proofs.answer.answer_of.Reads as answer-of
use Rattle.lot.specs.contracts.lot.lot as lot
use Rattle.lot.proofs.lot.lot_of_first.Kinds as lot-of-first-kinds
use Rattle.lot.proofs.lot.lot_of_first.Reads as lot-of-first
use Rattle.lot.proofs.run.is_large.Kinds as is-large-kinds
use Rattle.lot.proofs.run.is_large.Reads as is-large
use Rattle.lot.proofs.run.run_of.Kinds as run-of-kinds
use Rattle.lot.proofs.run.run_of.Reads as run_of
use Rattle.lot.proofs.share.share_of.Kinds as share-of-kinds
use Rattle.lot.proofs.share.share_of.Reads as share-of
use Rattle.lot.proofs.sum.add_run.Kinds as add-run-kinds
use Rattle.lot.proofs.sum.add_run.Reads as add-run
use Rattle.lot.proofs.sum.no_sum.Kinds as no-sum-kinds
use Rattle.lot.proofs.sum.no_sum.Reads as no-sum

pub run_of_determines : OneResult 0 run-of-kinds.ps run-of-kinds.r run_of.Post
run_of_determines κs a z z' e e' p q = p ∙ sym q

pub is_large_determines : OneResult 0 is-large-kinds.ps is-large-kinds.r is-large.Post
is_large_determines κs a z z' e e' p q = p ∙ sym q

pub share_of_determines : OneResult 0 share-of-kinds.ps share-of-kinds.r share-of.Post
share_of_determines κs a z z' e e' p q = p ∙ sym q

pub no_sum_determines : OneResult 0 no-sum-kinds.ps no-sum-kinds.r no-sum.Post
no_sum_determines κs a z z' e e' p q = p ∙ sym q

pub add_run_determines : OneResult 0 add-run-kinds.ps add-run-kinds.r add-run.Post
add_run_determines κs a z z' e e' p q = p ∙ sym q

pub answer_of_determines : OneResult 0 answer-of-kinds.ps answer-of-kinds.r answer-of.Post
answer_of_determines κs a z z' e e' p q = p ∙ sym q

pub lot_of_first_determines : OneResult 0 lot-of-first-kinds.ps lot-of-first-kinds.r lot-of-first.Post
lot_of_first_determines κs a z z' e e' p q = p ∙ sym q

abbrev pub Answered : Relation lot.ended
Answered κs a z e = z ≡ lot_of a.0.now

pub lot_states : States lot.ended (λ M 𝓤 𝓛. lot.clauses 𝓛) Answered
lot_states M 𝓤 𝓛 mem run κs a g z e = refl

pub lot_determines : (κs : Lfts 1) (a : Args lot.signature κs) (z z' : Res lot.signature κs) (e e' : AtExit lot.ended κs) → Answered κs a z e → Answered κs a z' e' → z ≡ z'
lot_determines κs a z z' e e' p q = p ∙ sym q
