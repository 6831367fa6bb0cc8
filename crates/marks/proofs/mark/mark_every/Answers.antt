-- `marks::mark::mark_every` meets its contract: room is made for the search, and the walk goes from the first records on. Assumes nothing.
use Rattle.marks.proofs.mark.mark_every.Goals as goal

pub mark_from-requires : goal.mark_from-requires
mark_from-requires c = let p = c.requires in
    let e = c.start_heads-heads.ensures in
    (record { ready = rw e c.args.lists.ready; short = p.0 }, rw e p.1)

pub returns : goal.returns
returns c = rw c.start_heads-heads.ensures at c.mark_from.ensures
