-- `donors::agree::donors_agree` meets its contract. The loop's invariant: both walks stand well, and what is left of the two donors is
-- equal exactly if the donors are. The measure is how much is left of the two. Assumes nothing.
use mathlib.Core.Path.{sym}
use Prim.Native.Nat.{◌^◌}
use native.Mathlib.Omega.{arith}
use Rattle.bases.proofs.LetterLaws.{bases_length}
use Rattle.donors.proofs.BesideLaws.{beside_start, beside_next, beside_last, beside_none, beside_inside, beside_fits, beside_stop, beside_more, beside_less}
use Rattle.donors.proofs.agree.donors_agree.Goals as goal

pub loop-x-init : goal.loop-x-init
loop-x-init c = rw (c.beginning-a.ensures, c.beginning-b.ensures) (beside_start c.requires.1)

pub with_piece-x-requires : goal.with_piece-x-requires
with_piece-x-requires c = (c.requires.0.few, rw c.base_count-size.ensures c.loop-x.invariant.one.place)

pub with_piece-y-requires : goal.with_piece-y-requires
with_piece-y-requires c = (c.requires.0.few, rw c.base_count-size.ensures c.loop-x.invariant.two.place)

pub returns-then-n-y : goal.returns-then-n-y
returns-then-n-y c =
    let o = beside_next c.base_count-size.ensures c.requires.0 c.loop-x.invariant c.with_piece-x.ensures c.with_piece-y.ensures in
    beside_last o (omega arith) (omega arith)

pub returns-then-m-eq0 : goal.returns-then-m-eq0
returns-then-m-eq0 c =
    let o = beside_next c.base_count-size.ensures c.requires.0 c.loop-x.invariant c.with_piece-x.ensures c.with_piece-y.ensures in
    sym (beside_none o c.min-m.ensures c.else-n-x.either c.if-m-eq0.true)

pub pieces_agree-requires : goal.pieces_agree-requires
pieces_agree-requires c =
    let o = beside_next c.base_count-size.ensures c.requires.0 c.loop-x.invariant c.with_piece-x.ensures c.with_piece-y.ensures in
    beside_inside o c.min-m.ensures

pub returns-then-not-pieces_agree : goal.returns-then-not-pieces_agree
returns-then-not-pieces_agree c =
    let o = beside_next c.base_count-size.ensures c.requires.0 c.loop-x.invariant c.with_piece-x.ensures c.with_piece-y.ensures in
    sym (beside_stop o c.min-m.ensures c.pieces_agree.ensures c.if-not-pieces_agree.true)

pub past-a-requires : goal.past-a-requires
past-a-requires c =
    let o = beside_next c.base_count-size.ensures c.requires.0 c.loop-x.invariant c.with_piece-x.ensures c.with_piece-y.ensures in
    (beside_fits o c.min-m.ensures (2 ^ 64) (rw bases_length (omega arith)) (omega arith) (omega arith)).0

pub past-b-requires : goal.past-b-requires
past-b-requires c =
    let o = beside_next c.base_count-size.ensures c.requires.0 c.loop-x.invariant c.with_piece-x.ensures c.with_piece-y.ensures in
    (beside_fits o c.min-m.ensures (2 ^ 64) (rw bases_length (omega arith)) (omega arith) (omega arith)).1

pub loop-x-smaller : goal.loop-x-smaller
loop-x-smaller c =
    let o = beside_next c.base_count-size.ensures c.requires.0 c.loop-x.invariant c.with_piece-x.ensures c.with_piece-y.ensures in
    beside_less o c.min-m.ensures c.past-a.ensures c.past-b.ensures c.if-m-eq0.false

pub loop-x-preserved : goal.loop-x-preserved
loop-x-preserved c =
    let o = beside_next c.base_count-size.ensures c.requires.0 c.loop-x.invariant c.with_piece-x.ensures c.with_piece-y.ensures in
    beside_more o c.min-m.ensures c.past-a.ensures c.past-b.ensures c.pieces_agree.ensures c.if-not-pieces_agree.false
