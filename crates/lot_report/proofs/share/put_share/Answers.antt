-- `lot_report::share::put_share` meets its contract: where the lower number is zero, `none` is written three times; else the share's parts
-- are, one behind another. Assumes nothing.
use native.Mathlib.Omega.{arith}
use Rattle.bases.proofs.WroteLaws.{wrote_more}
use Rattle.lines.proofs.FieldLaws.{field_few}
use Rattle.fields.specs.Bytes.{TAB}
use Rattle.lot_report.specs.Table.{SLASH}
use Rattle.lot_report.proofs.ShareLaws.{share_none, share_some, percent_few}
use Rattle.lot_report.proofs.share.put_share.Goals as goal

pub returns-then-share-eq0 : goal.returns-then-share-eq0
returns-then-share-eq0 c = rw (share_none c.args.share c.args.end c.if-share-eq0.true) (wrote_more (omega (arith, c.requires.1)) c.bytes.ensures c.byte.ensures)

pub put_field-requires-2 : goal.put_field-requires-2
put_field-requires-2 c = (c.requires.0.bottom, omega (arith, c.requires.1, field_few c.args.share.top SLASH))

pub put_field-requires-3 : goal.put_field-requires-3
put_field-requires-3 c = let b = c.args.share in
    (c.requires.0.ppm c.if-share-eq0.false, omega (arith, c.requires.1, field_few b.top SLASH, field_few b.bottom TAB))

pub put_percent-requires : goal.put_percent-requires
put_percent-requires c = let b = c.args.share in
    (c.requires.0.ppm c.if-share-eq0.false, omega (arith, c.requires.1, field_few b.top SLASH, field_few b.bottom TAB, field_few b.ppm TAB))

pub byte-requires-2 : goal.byte-requires-2
byte-requires-2 c = let b = c.args.share in
    omega (arith, c.requires.1, field_few b.top SLASH, field_few b.bottom TAB, field_few b.ppm TAB, percent_few b.ppm)

pub returns : goal.returns
returns c = let h = c.requires.1 in
    let three = wrote_more (omega (arith, h)) (wrote_more (omega (arith, h)) c.put_field.ensures c.put_field-2.ensures) c.put_field-3.ensures in
    rw (share_some c.args.share c.args.end c.if-share-eq0.false)
    (wrote_more (omega (arith, h)) (wrote_more (omega (arith, h)) three c.put_percent.ensures) c.byte-2.ensures)
