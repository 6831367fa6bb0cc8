-- The contract of `mark_files` determines what it answers and the marks that it leaves, and that of `put_refused` what it leaves in the room
-- that it is lent, and where its writer stands: any two that it allows for the same arguments are equal. `Post` is the contract as src/ states it.
-- Assumes nothing.
use mathlib.Core.List.{List}
use mathlib.Core.Path.{sym, ◌∙◌}
use Prim.Native.Nat.{ℕ}
use Rattle.bases.proofs.Determines.{OneResult, OneLeft}
use Rattle.told.proofs.marked.mark_files.Kinds as mark-files-kinds
use Rattle.told.proofs.marked.mark_files.Reads as mark-files
use Rattle.told.proofs.refused.put_refused.Kinds as put-refused-kinds
use Rattle.told.proofs.refused.put_refused.Reads as put-refused

pub mark_files_determines : OneResult 5 mark-files-kinds.ps mark-files-kinds.r mark-files.Post
mark_files_determines κs a z z' e e' p q = p.0 ∙ sym q.0

pub mark_files_leaves : OneLeft 5 mark-files-kinds.ps mark-files-kinds.r mark-files.Post (List ℕ) (λ κs e. e.1.1.1.1.0.now)
mark_files_leaves κs a z z' e e' p q = p.1 ∙ sym q.1

pub put_refused_determines : OneLeft 2 put-refused-kinds.ps put-refused-kinds.r put-refused.Post ℕ (λ κs e. e.1.0.now.at)
put_refused_determines κs a z z' e e' p q = p.at ∙ sym q.at

pub put_refused_leaves : OneLeft 2 put-refused-kinds.ps put-refused-kinds.r put-refused.Post (List ℕ) (λ κs e. e.1.0.now.room.now)
put_refused_leaves κs a z z' e e' p q = p.room ∙ sym q.room
