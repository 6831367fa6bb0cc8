-- `listed::listed::all_entries` meets its contract. Assumes nothing.
use Rattle.std.proofs.Common.{sym}
use Rattle.bases.specs.Letter.{bases_of}
use Rattle.listed.proofs.ListingLaws.{going_start}
use Rattle.listed.proofs.StandLaws.{listed_start}
use Rattle.listed.proofs.listed.all_entries.Goals as goal

pub returns : goal.returns
returns c =
    let l = c.args.lists in
    let r = bases_of l.reference.now in
    rw c.start_stand.ensures (going_start r l.first.now l.second.now l.ready, sym (listed_start r l.first.now l.second.now))
