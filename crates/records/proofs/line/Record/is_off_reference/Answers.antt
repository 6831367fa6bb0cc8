-- `records::line::Record::is_off_reference` meets its contract: REF is too long for what is left of the reference, or is held against it. Assumes nothing.
use mathlib.Core.Bool.{not}
use mathlib.Core.Path.{◌≡◌, ap, ◌∙◌}
use native.Mathlib.Omega.{arith}
use borrow.Author.Tests.{tests}
use lib.ListN.{length}
use Rattle.bases.specs.Letter.{bases_of}
use Rattle.bases.specs.declared.place.Place.{Place}
use Rattle.bases.specs.Place.{place_of}
use Rattle.bases.specs.Same.{agree?}
use Rattle.bases.specs.Stretch.{stretch}
use Rattle.records.proofs.RecordLaws.{off_within}
use Rattle.fields.specs.Field.{field}
use mathlib.Core.Bool.{not}
use Rattle.records.proofs.line.Record.is_off_reference.Goals as goal

pub returns-else-count-from-2 : goal.returns-else-count-from-2
returns-else-count-from-2 c = let r = bases_of c.args.reference.now in
    let a = field 3 c.args.self.now.line.now in
    let e : c.reference-bases.result.now ≡ a = c.reference-bases.ensures in
    let w : c.place_of-from.result.0 ≡ (place_of c.args.pos).0 = ap (λ (p : Place). p.0) c.place_of-from.ensures in
    let same : c.part_agrees.result ≡ agree? (stretch r (place_of c.args.pos).0 (length a)) (stretch (bases_of a) 0 (length a)) = c.part_agrees.ensures ∙ rw (e, w) in
    ap not same ∙ off_within r c.args.pos a (rw (← e) (grind (arith, tests, c.base_count-count.ensures)))
