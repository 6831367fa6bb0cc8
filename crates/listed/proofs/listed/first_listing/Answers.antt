-- `listed::listed::first_listing` meets its contract. Assumes nothing.
use Rattle.bases.specs.Letter.{bases_of}
use Rattle.listed.proofs.ListingLaws.{going_start}
use Rattle.listed.proofs.listed.first_listing.Goals as goal

pub listing_from-requires : goal.listing_from-requires
listing_from-requires c =
    rw c.start_stand.ensures (going_start (bases_of c.args.reference.now) c.args.first.now c.args.second.now c.requires)
