-- `next` of a walk over entries meets its contract: the step where it stands is the next entry that is left. Assumes nothing.
use Rattle.std.proofs.Common.{◌≡◌, ◌∙◌, ◌∷◌, ap₂, sym, subst, true, false, rules}
use Rattle.bases.specs.Letter.{bases_of}
use Rattle.clusters.specs.Heads.{done?}
use Rattle.listed.specs.declared.listed.Listed.{Listed}
use Rattle.listed.specs.declared.listed.Stand.{Stand}
use Rattle.listed.specs.Listing.{Going, listed_on}
use Rattle.listed.proofs.ListingLaws.{going_after, listing_done, listing_next}
use Rattle.listed.proofs.StandLaws.{listed_none, listed_next}
use Rattle.listed.proofs.listed.EntriesIterator.next.Goals as goal

pub returns-then-not-listing-clause-steps : goal.returns-then-not-listing-clause-steps
returns-then-not-listing-clause-steps c =
    let w = c.args.self.now in
    let r = bases_of w.lists.reference.now in
    let l = c.listing_from-listing in
    let d : done? w.lists.first.now w.lists.second.now w.stand.heads ≡ true =
    listing_done r w.lists.first.now w.lists.second.now w.stand l.result l.ensures ∙ c.if-not-listing.true in
    let none = listed_none r w.lists.first.now w.lists.second.now w.stand d in
    (none, none)

pub returns-clause-steps : goal.returns-clause-steps
returns-clause-steps c =
    let w = c.args.self.now in
    let r = bases_of w.lists.reference.now in
    let l = c.listing_from-listing in
    let d : done? w.lists.first.now w.lists.second.now w.stand.heads ≡ false =
    listing_done r w.lists.first.now w.lists.second.now w.stand l.result l.ensures ∙ c.if-not-listing.false in
    let m = listing_next r w.lists.first.now w.lists.second.now w.stand l.result l.ensures d in
    listed_next r w.lists.first.now w.lists.second.now w.stand c.requires d
    ∙ sym (ap₂ (λ (l : Listed) (v : Stand). l ∷ listed_on r w.lists.first.now w.lists.second.now v) m.0 m.1)

pub returns-clause-goes : goal.returns-clause-goes
returns-clause-goes c =
    let w = c.args.self.now in
    let r = bases_of w.lists.reference.now in
    let l = c.listing_from-listing in
    let d : done? w.lists.first.now w.lists.second.now w.stand.heads ≡ false =
    listing_done r w.lists.first.now w.lists.second.now w.stand l.result l.ensures ∙ c.if-not-listing.false in
    let m = listing_next r w.lists.first.now w.lists.second.now w.stand l.result l.ensures d in
    let after = going_after r w.lists.first.now w.lists.second.now w.stand c.requires d in
    let goes = subst (λ (v : Stand). Going r w.lists.first.now w.lists.second.now v) (sym m.1) after in
    let steps = returns-clause-steps c in
    search rules
