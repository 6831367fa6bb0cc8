-- Each contract determines its result, and what it leaves in a list that it is lent to write: any two that it allows for the same
-- arguments are equal. `Post` is the contract as src/ states it.
-- Assumes nothing.
use mathlib.Core.List.{List}
use mathlib.Core.Path.{refl, sym, ◌∙◌}
use Prim.Native.Nat.{ℕ}
use Rattle.bases.proofs.Determines.{OneResult, OneLeft}
use Rattle.donors.specs.declared.table.Row.{Row}
use Rattle.marks.proofs.skip.skip_clusters.Kinds as skip-clusters-kinds
use Rattle.marks.proofs.skip.skip_clusters.Reads as skip-clusters
use Rattle.marks.proofs.count.count_all.Kinds as count-all-kinds
use Rattle.marks.proofs.count.count_all.Reads as count-all
use Rattle.marks.proofs.count.count_lists.Kinds as count-lists-kinds
use Rattle.marks.proofs.count.count_lists.Reads as count-lists
use Rattle.marks.proofs.mark.mark_every.Kinds as mark-every-kinds
use Rattle.marks.proofs.mark.mark_every.Reads as mark-every
use Rattle.marks.proofs.mark.mark_one.Kinds as mark-one-kinds
use Rattle.marks.proofs.mark.mark_one.Reads as mark-one
use Rattle.marks.proofs.row.put_rows.Kinds as put-rows-kinds
use Rattle.marks.proofs.row.put_rows.Reads as put-rows

pub skip_clusters_determines : OneResult 1 skip-clusters-kinds.ps skip-clusters-kinds.r skip-clusters.Post
skip_clusters_determines κs a z z' e e' p q = p ∙ sym q

pub count_all_determines : OneResult 1 count-all-kinds.ps count-all-kinds.r count-all.Post
count_all_determines κs a z z' e e' p q = p ∙ sym q

pub count_lists_determines : OneResult 3 count-lists-kinds.ps count-lists-kinds.r count-lists.Post
count_lists_determines κs a z z' e e' p q = p ∙ sym q

pub put_rows_determines : OneResult 3 put-rows-kinds.ps put-rows-kinds.r put-rows.Post
put_rows_determines κs a z z' e e' p q = refl

pub put_rows_leaves : OneLeft 3 put-rows-kinds.ps put-rows-kinds.r put-rows.Post (List Row) (λ κs e. e.1.1.1.1.0.now)
put_rows_leaves κs a z z' e e' p q = p ∙ sym q

pub mark_every_determines : OneResult 2 mark-every-kinds.ps mark-every-kinds.r mark-every.Post
mark_every_determines κs a z z' e e' p q = p.0 ∙ sym q.0

pub mark_every_leaves : OneLeft 2 mark-every-kinds.ps mark-every-kinds.r mark-every.Post (List ℕ) (λ κs e. e.1.0.now)
mark_every_leaves κs a z z' e e' p q = p.1 ∙ sym q.1

pub mark_one_determines : OneResult 2 mark-one-kinds.ps mark-one-kinds.r mark-one.Post
mark_one_determines κs a z z' e e' p q = p.0 ∙ sym q.0

pub mark_one_leaves : OneLeft 2 mark-one-kinds.ps mark-one-kinds.r mark-one.Post (List ℕ) (λ κs e. e.1.1.0.now)
mark_one_leaves κs a z z' e e' p q = p.1 ∙ sym q.1
