-- `normal::entry::entry_cuts` meets its contract: the last ALT stands for the second, and is the first where there is one. Assumes nothing.
use mathlib.Core.Path.{◌≡◌, ap, ◌∙◌}
use native.Mathlib.Omega.{arith}
use lib.ListN.{length}
use Rattle.bases.specs.Letter.{bases_of}
use Rattle.bases.specs.declared.place.Place.{Place}
use Rattle.vcf.specs.declared.entry.Part.{Part}
use Rattle.vcf.specs.Entry.{last_alt}
use Rattle.normal.proofs.EntryLaws.{part_length, entry_cuts_are}
use Rattle.normal.proofs.entry.entry_cuts.Goals as goal

pub bytes-last-requires : goal.bytes-last-requires
bytes-last-requires c = let e = c.args.entry in
    let l : c.last_alt.result ≡ last_alt e = c.last_alt.ensures in
    rw l c.requires.0.second.1

pub cuts_of-requires : goal.cuts_of-requires
cuts_of-requires c = let x = c.args in
    let st = c.requires.0 in
    let e = x.entry in
    let s = ap (λ (p : Place). p.0) c.requires.1 in
    let l : c.last_alt.result ≡ last_alt e = c.last_alt.ensures in
    let b = ap length c.bytes-first.ensures ∙ part_length x.text.now e.first st.first in
    let d = ap length c.bytes-last.ensures ∙ part_length x.text.now c.last_alt.result (rw l st.second) ∙ ap (λ (p : Part). p.len) l in
    (omega arith, omega arith, omega arith, omega arith)

pub returns : goal.returns
returns c = let x = c.args in
    entry_cuts_are (bases_of x.reference.now) x.text.now x.entry c.requires.1
    c.bytes-first.ensures
    c.last_alt.ensures
    c.bytes-last.ensures
    c.cuts_of.ensures
