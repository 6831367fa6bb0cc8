-- `marks::count::count_lists` meets its contract. Assumes nothing.
use mathlib.Core.Logic.{inl, inr, ⊎_elim}
use Rattle.std.proofs.Common.{ap, [], ◌∷◌, length, arith, rules}
use Rattle.std.proofs.lemmas.List.{length-append}
use Rattle.clusters.specs.Merged.{merged_items}
use Rattle.marks.proofs.CountingLaws.{counting_begin, counting_few, counting_more, counting_end}
use Rattle.marks.proofs.count.count_lists.Goals as goal

pub loop-item-init : goal.loop-item-init
loop-item-init c =
    let a = c.args in
    (search rules, tt, counting_begin (merged_items a.first.now a.second.now) a.marks.now c.default-counts.result c.default-counts.ensures (search rules) (search rules))

pub add_entry-counts-requires : goal.add_entry-counts-requires
add_entry-counts-requires c =
    let a = c.args in
    counting_few (merged_items a.first.now a.second.now) a.marks.now c.loop-item.invariant.2 c.requires.2

pub loop-item-preserved : goal.loop-item-preserved
loop-item-preserved c =
    let a = c.args in
    let s = c.in-Some.ensures.steps in
    let w = counting_more (merged_items a.first.now a.second.now) a.marks.now c.loop-item.invariant.2 s.0 s.1 in
    (search rules, tt, rw c.add_entry-counts.ensures (w (omega (arith, length-append c.loop-item.yielded ((c.in-Some.item, c.in-Some.mark) ∷ [])))))

pub returns : goal.returns
returns c =
    let a = c.args in
    counting_end (merged_items a.first.now a.second.now) a.marks.now c.loop-item.invariant.2 c.requires.1
    (⊎_elim (λ h. inl (ap length h.1.0)) (λ h. inr h.1.0) c.in-None.ensures.steps)
