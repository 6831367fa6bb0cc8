-- `written::write::put_front` meets its contract: the bytes before POS, the new POS, and the bytes behind POS up to REF are written, each behind those before.
-- Assumes nothing.
use mathlib.Core.Path.{sym}
use native.Mathlib.Omega.{arith}
use lib.Seq.{length-take-le}
use Rattle.bases.proofs.WroteLaws.{wrote_more}
use Rattle.written.proofs.LineReadLaws.{front_read}
use Rattle.written.proofs.write.put_front.Goals as goal

pub slice_bounds-bytes-end : goal.slice_bounds-bytes-end
slice_bounds-bytes-end c = let i = c.fields_of-fields in
    let g = front_read c.args.line.now c.requires.0 i.result i.ensures c.find-end.result c.find-end.ensures in
    sym (length-take-le i.result.pos c.args.line.now g.pos)

pub slice_bounds-bytes-count : goal.slice_bounds-bytes-count
slice_bounds-bytes-count c = let i = c.fields_of-fields in
    (front_read c.args.line.now c.requires.0 i.result i.ensures c.find-end.result c.find-end.ensures).within

pub slice_bounds-bytes-start : goal.slice_bounds-bytes-start
slice_bounds-bytes-start c = let i = c.fields_of-fields in
    (front_read c.args.line.now c.requires.0 i.result i.ensures c.find-end.result c.find-end.ensures).within

pub slice_bounds-bytes-end-2 : goal.slice_bounds-bytes-end-2
slice_bounds-bytes-end-2 c = let i = c.fields_of-fields in
    (front_read c.args.line.now c.requires.0 i.result i.ensures c.find-end.result c.find-end.ensures).reference

pub returns : goal.returns
returns c = let i = c.fields_of-fields in
    let g = front_read c.args.line.now c.requires.0 i.result i.ensures c.find-end.result c.find-end.ensures in
    wrote_more (omega (arith, c.requires.2)) (wrote_more (omega (arith, c.requires.2)) (rw g.head at c.bytes.ensures) c.put_decimal.ensures) (rw g.middle at c.bytes-2.ensures)
