-- The contract of `normalise_given` determines what it leaves in the room that it is lent, and where its writer stands: any two that it
-- allows for the same arguments are equal. `Post` is the contract as src/ states it. Assumes nothing.
use mathlib.Core.List.{List}
use mathlib.Core.Path.{sym, ◌∙◌}
use Prim.Native.Nat.{ℕ}
use Rattle.bases.proofs.Determines.{OneLeft}
use Rattle.normalise.proofs.list.normalise_given.Kinds as normalise-given-kinds
use Rattle.normalise.proofs.list.normalise_given.Reads as normalise-given

pub normalise_given_determines : OneLeft 3 normalise-given-kinds.ps normalise-given-kinds.r normalise-given.Post ℕ (λ κs e. e.1.1.0.now.at)
normalise_given_determines κs a z z' e e' p q = p.at ∙ sym q.at

pub normalise_given_leaves : OneLeft 3 normalise-given-kinds.ps normalise-given-kinds.r normalise-given.Post (List ℕ) (λ κs e. e.1.1.0.now.room.now)
normalise_given_leaves κs a z z' e e' p q = p.room ∙ sym q.room
