-- `listed::listed::fill_entries` meets its contract: there are as many records as entries. Assumes nothing.
use Rattle.std.proofs.Common.{◌≤◌, length, arith, rules}
use Rattle.bases.specs.Letter.{bases_of}
use Rattle.clusters.proofs.Filling.{fill_room, fill_more}
use Rattle.listed.specs.Listed.{listed_of}
use Rattle.listed.proofs.ListedLaws.{listed_length}
use Rattle.listed.proofs.listed.fill_entries.Goals as goal

pub bounds-entries-k : goal.bounds-entries-k
bounds-entries-k c =
    let a = c.args in
    let all = listed_of (bases_of a.lists.reference.now) a.lists.first.now a.lists.second.now in
    let room : length all ≤ length a.entries.now = omega (arith, listed_length (bases_of a.lists.reference.now) a.lists.first.now a.lists.second.now) in
    fill_room all a.entries.now c.loop-listed.invariant.2 c.in-Some.ensures.steps room

pub loop-listed-preserved : goal.loop-listed-preserved
loop-listed-preserved c =
    let a = c.args in
    let all = listed_of (bases_of a.lists.reference.now) a.lists.first.now a.lists.second.now in
    let room : length all ≤ length a.entries.now = omega (arith, listed_length (bases_of a.lists.reference.now) a.lists.first.now a.lists.second.now) in
    (search rules, tt, fill_more all a.entries.now c.loop-listed.invariant.2 c.in-Some.ensures.steps room)
