-- `written::write::put_back` meets its contract: REF, a TAB, the ALTs, the rest of the line and its LF are written, each behind those before. Assumes nothing.
use native.Mathlib.Omega.{arith}
use Rattle.bases.specs.Letter.{bases_of}
use Rattle.bases.proofs.StretchLaws.{stretch_length}
use Rattle.bases.proofs.WroteLaws.{wrote_more}
use Rattle.written.proofs.LineReadLaws.{back_read, back_length}
use Rattle.written.proofs.write.put_back.Goals as goal

pub slice_bounds-bytes-count : goal.slice_bounds-bytes-count
slice_bounds-bytes-count c = (back_read c.args.line.now c.requires.0 c.fields_of.result c.fields_of.ensures c.find-rest.result c.find-rest.ensures).within

pub slice_bounds-bytes-start : goal.slice_bounds-bytes-start
slice_bounds-bytes-start c = (back_read c.args.line.now c.requires.0 c.fields_of.result c.fields_of.ensures c.find-rest.result c.find-rest.ensures).within

pub bytes-requires : goal.bytes-requires
bytes-requires c = let a = c.args in
    let h = c.requires in
    let r = bases_of a.reference.now in
    let g = back_read a.line.now h.0 c.fields_of.result c.fields_of.ensures c.find-rest.result c.find-rest.ensures in
    let x = stretch_length r a.normal.start.0 a.normal.span h.1.0 in
    let p = c.put_stretch.ensures in
    let q = c.byte.ensures in
    let w = c.put_alts.ensures in
    rw g.tail (omega (arith, h.2, back_length r a.line.now a.alts a.normal, x, p.at, p.long, q.at, q.long, w.at, w.long))

pub byte-requires-2 : goal.byte-requires-2
byte-requires-2 c = let a = c.args in
    let h = c.requires in
    let r = bases_of a.reference.now in
    let g = back_read a.line.now h.0 c.fields_of.result c.fields_of.ensures c.find-rest.result c.find-rest.ensures in
    let x = stretch_length r a.normal.start.0 a.normal.span h.1.0 in
    let p = c.put_stretch.ensures in
    let q = c.byte.ensures in
    let w = c.put_alts.ensures in
    let t = rw g.tail at c.bytes.ensures in
    omega (arith, h.2, back_length r a.line.now a.alts a.normal, x, p.at, p.long, q.at, q.long, w.at, w.long, t.at, t.long)

pub returns : goal.returns
returns c = let h = c.requires in
    let g = back_read c.args.line.now h.0 c.fields_of.result c.fields_of.ensures c.find-rest.result c.find-rest.ensures in
    let w2 = wrote_more (omega (arith, h.2)) c.put_stretch.ensures c.byte.ensures in
    let w3 = wrote_more (omega (arith, h.2)) w2 c.put_alts.ensures in
    let w4 = wrote_more (omega (arith, h.2)) w3 (rw g.tail at c.bytes.ensures) in
    wrote_more (omega (arith, h.2)) w4 c.byte-2.ensures
