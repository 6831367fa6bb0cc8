-- `lot_report::table::put_line` meets its contract: the parts of the line are written one behind another. Assumes nothing.
use native.Mathlib.Omega.{arith}
use Rattle.bases.proofs.WroteLaws.{wrote_more}
use Rattle.lines.proofs.FieldLaws.{fields_few}
use Rattle.fields.specs.Bytes.{TAB}
use Rattle.lot_report.specs.Table.{line_text}
use Rattle.lot_report.proofs.ShareLaws.{share_few}
use Rattle.lot_report.proofs.table.put_line.Goals as goal

pub put_fields-requires-2 : goal.put_fields-requires-2
put_fields-requires-2 c = let l = c.args.lot in
    let h = c.requires.0 in
    (h.called, h.matched2, h.undecided2, omega (arith, c.requires.1, fields_few l.truth l.total.matched1 l.total.undecided1 TAB))

pub put_share-requires : goal.put_share-requires
put_share-requires c = let l = c.args.lot in
    let truth = fields_few l.truth l.total.matched1 l.total.undecided1 TAB in
    let called = fields_few l.called l.total.matched2 l.total.undecided2 TAB in
    (c.requires.0.recall, omega (arith, c.requires.1, truth, called))

pub put_share-requires-2 : goal.put_share-requires-2
put_share-requires-2 c = let l = c.args.lot in
    let truth = fields_few l.truth l.total.matched1 l.total.undecided1 TAB in
    let called = fields_few l.called l.total.matched2 l.total.undecided2 TAB in
    (c.requires.0.precision, omega (arith, c.requires.1, truth, called, share_few l.recall TAB))

pub returns : goal.returns
unfolding line_text
returns c = let h = c.requires.1 in
    let two = wrote_more (omega (arith, h)) c.bytes.ensures c.byte.ensures in
    let four = wrote_more (omega (arith, h)) (wrote_more (omega (arith, h)) two c.put_fields.ensures) c.put_fields-2.ensures in
    wrote_more (omega (arith, h)) (wrote_more (omega (arith, h)) four c.put_share.ensures) c.put_share-2.ensures
