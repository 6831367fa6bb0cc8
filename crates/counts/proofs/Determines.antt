-- Each contract determines what it leaves in the room that it is lent, and where its writer stands: any two that it allows for the same
-- arguments are equal. `Post` is the contract as src/ states it. Assumes nothing.
use mathlib.Core.List.{List}
use mathlib.Core.Path.{sym, ◌∙◌}
use Prim.Native.Nat.{ℕ}
use Rattle.bases.proofs.Determines.{OneLeft}
use Rattle.counts.proofs.counted.count_given.Kinds as count-given-kinds
use Rattle.counts.proofs.counted.count_given.Reads as count_given
use Rattle.counts.proofs.counted.put_counts.Kinds as put-counts-kinds
use Rattle.counts.proofs.counted.put_counts.Reads as put-counts

pub put_counts_determines : OneLeft 2 put-counts-kinds.ps put-counts-kinds.r put-counts.Post ℕ (λ κs e. e.1.0.now.at)
put_counts_determines κs a z z' e e' p q = p.at ∙ sym q.at

pub put_counts_leaves : OneLeft 2 put-counts-kinds.ps put-counts-kinds.r put-counts.Post (List ℕ) (λ κs e. e.1.0.now.room.now)
put_counts_leaves κs a z z' e e' p q = p.room ∙ sym q.room

pub count_given_determines : OneLeft 3 count-given-kinds.ps count-given-kinds.r count_given.Post ℕ (λ κs e. e.1.1.0.now.at)
count_given_determines κs a z z' e e' p q = p.at ∙ sym q.at

pub count_given_leaves : OneLeft 3 count-given-kinds.ps count-given-kinds.r count_given.Post (List ℕ) (λ κs e. e.1.1.0.now.room.now)
count_given_leaves κs a z z' e e' p q = p.room ∙ sym q.room
