-- `card::count::count` meets its contract: accepted lists have at most 1,024 entries, so no count is above that. Assumes nothing.
use mathlib.Core.Path.{◌∙◌}
use lib.Dec.{ltb}
use lib.ListN.{length}
use Rattle.bases.specs.Letter.{bases_of}
use Rattle.clusters.specs.Heads.{start_heads}
use Rattle.clusters.specs.Merged.{merged_items}
use Rattle.marks.proofs.CountLaws.{counts_few}
use Rattle.clusters.proofs.HeadsLaws.{ready_readable}
use Rattle.card.specs.Refusal.{least_room}
use Rattle.card.proofs.CountLaws.{count_given, count_room}
use Rattle.card.proofs.ListsLaws.{lists_none}
use Rattle.card.proofs.ReadyLaws.{lists_answerable}
use Rattle.card.proofs.RefusalLaws.{passed_on}
use Rattle.card.proofs.count.count.Goals as goal

pub count_lists-requires : goal.count_lists-requires
count_lists-requires c =
    let a = c.args in
    let r = a.reference.now in
    let name = a.name.now in
    let t1 = a.first.now in
    let t2 = a.second.now in
    let m = a.marks.now in
    let z = passed_on _ _ c.in_default.ensures in
    let k = (lists_answerable r name t1 t2 (ltb (length m) least_room) z).0 in
    (ready_readable (bases_of r) t1 t2 (start_heads t1 t2) k.ready, count_room r name t1 t2 m z, k.entries)

pub give-requires : goal.give-requires
give-requires c =
    let a = c.args in
    let t1 = a.first.now in
    let t2 = a.second.now in
    let m = a.marks.now in
    let z = passed_on _ _ c.in_default.ensures in
    let k = (lists_answerable a.reference.now a.name.now t1 t2 (ltb (length m) least_room) z).0 in
    rw c.count_lists.ensures (counts_few (merged_items t1 t2) m k.entries)

pub returns : goal.returns
returns c =
    let a = c.args in
    let small = ltb (length a.marks.now) least_room in
    let z = passed_on _ _ c.in_default.ensures in
    let none = lists_none a.reference.now a.name.now a.first.now small a.second.now z in
    c.give.ensures ∙ rw (c.count_lists.ensures, count_given a.reference.now a.name.now a.first.now a.second.now a.marks.now z, none)
