-- `normal::entry::normal_entry` meets its contract: its numbers are those of the closed form, within bounds that keep every sum and difference in range.
-- Assumes nothing.
use mathlib.Core.Path.{◌≡◌, ap, ◌∙◌}
use native.Mathlib.Omega.{arith}
use Rattle.bases.specs.Letter.{bases_of}
use Rattle.bases.specs.declared.place.Place.{Place}
use Rattle.vcf.specs.declared.entry.Part.{Part}
use Rattle.normal.specs.Spelled.{spelled}
use Rattle.vcf.specs.Entry.{last_alt}
use Rattle.bases.proofs.LetterLaws.{bases_length}
use Rattle.normal.proofs.EntryLaws.{bounds, normal_entry_of}
use Rattle.normal.proofs.entry.normal_entry.Goals as goal

pub entry_cuts-cuts-requires : goal.entry_cuts-cuts-requires
entry_cuts-cuts-requires c = (c.requires, c.place_of-start.ensures)

pub overflow_add-new_start : goal.overflow_add-new_start
overflow_add-new_start c = let k = bounds _ _ _ c.requires _ c.entry_cuts-cuts.ensures in
    omega (arith, bases_length c.args.reference.now, ap (λ (p : Place). p.0) c.place_of-start.ensures)

pub taken_in-requires : goal.taken_in-requires
taken_in-requires c = let k = bounds _ _ _ c.requires _ c.entry_cuts-cuts.ensures in
    omega arith

pub overflow_sub-new_start : goal.overflow_sub-new_start
overflow_sub-new_start c = let k = bounds _ _ _ c.requires _ c.entry_cuts-cuts.ensures in
    omega (arith, ap (λ (p : Place). p.0) c.place_of-start.ensures)

pub overflow_sub-result : goal.overflow_sub-result
overflow_sub-result c = let k = bounds _ _ _ c.requires _ c.entry_cuts-cuts.ensures in
    omega (arith, ap (λ (p : Place). p.0) c.place_of-start.ensures)

pub overflow_sub-result-2 : goal.overflow_sub-result-2
overflow_sub-result-2 c = let k = bounds _ _ _ c.requires _ c.entry_cuts-cuts.ensures in
    omega (arith, ap (λ (p : Place). p.0) c.place_of-start.ensures)

pub spelled_part-requires : goal.spelled_part-requires
spelled_part-requires c = let k = bounds _ _ _ c.requires _ c.entry_cuts-cuts.ensures in
    (omega arith, omega arith, omega arith, omega arith)

pub spelled_part-requires-2 : goal.spelled_part-requires-2
spelled_part-requires-2 c = let k = bounds _ _ _ c.requires _ c.entry_cuts-cuts.ensures in
    let l : c.last_alt.result ≡ last_alt c.args.entry = c.last_alt.ensures in
    let at = ap (λ (p : Part). p.at) l in
    let len = ap (λ (p : Part). p.len) l in
    (omega arith, omega arith, omega arith, omega (arith, c.well_formed))

pub returns : goal.returns
returns c = let x = c.args in
    normal_entry_of (bases_of x.reference.now) x.text.now x.entry c.place_of-start.result c.entry_cuts-cuts.result
    c.taken_in.result c.spelled_part.result c.spelled_part-2.result
    c.place_of-start.ensures c.entry_cuts-cuts.ensures c.taken_in.ensures
    c.spelled_part.ensures
    (c.spelled_part-2.ensures ∙ ap (spelled c.entry_cuts-cuts.result) c.last_alt.ensures)
