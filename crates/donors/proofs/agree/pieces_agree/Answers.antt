-- `donors::agree::pieces_agree` meets its contract: four cases, by where the two pieces stand. Where the first stands in its list's text
-- and the second on the reference the two are compared the other way round. Assumes nothing.
use mathlib.Core.Path.{◌∙◌}
use Rattle.bases.proofs.LetterLaws.{bases_length}
use Rattle.bases.proofs.StretchLaws.{agree_turned}
use Rattle.donors.proofs.agree.pieces_agree.Goals as goal

pub parts_agree-requires : goal.parts_agree-requires
parts_agree-requires c = let p = c.requires in
    (rw (c.if-a.true, bases_length) at p.0, rw (c.if-b.true, bases_length) at p.1)

pub returns-then-b : goal.returns-then-b
returns-then-b c = rw (c.if-a.true, c.if-b.true) c.parts_agree.ensures

pub part_agrees-requires : goal.part_agrees-requires
part_agrees-requires c = let p = c.requires in
    (rw c.if-b.false at p.1, rw (c.if-a.true, bases_length) at p.0)

pub returns-then-a : goal.returns-then-a
returns-then-a c = rw (c.if-a.true, c.if-b.false) (c.part_agrees.ensures ∙ agree_turned _ _)

pub part_agrees-requires-then-b-2 : goal.part_agrees-requires-then-b-2
part_agrees-requires-then-b-2 c = let p = c.requires in
    (rw c.if-a.false at p.0, rw (c.if-b-2.true, bases_length) at p.1)

pub returns-then-b-2 : goal.returns-then-b-2
returns-then-b-2 c = rw (c.if-a.false, c.if-b-2.true) c.part_agrees-then-b-2.ensures

pub stretches_agree-requires : goal.stretches_agree-requires
stretches_agree-requires c = let p = c.requires in
    (rw c.if-a.false at p.0, rw c.if-b-2.false at p.1)

pub returns : goal.returns
returns c = rw (c.if-a.false, c.if-b-2.false) c.stretches_agree.ensures
