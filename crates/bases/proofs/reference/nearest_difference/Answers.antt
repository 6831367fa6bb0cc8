-- `bases::reference::nearest_difference` meets its contract. The loop's invariant: the place is found from `above` up and below `below` down.
-- Assumes nothing.
use mathlib.Core.Bool.{true, false}
use mathlib.Core.Logic.{inl, inr}
use mathlib.Core.Path.{◌≡◌, sym, ◌∙◌}
use Prim.Native.Nat.{◌-◌}
use native.Mathlib.Omega.{arith}
use lib.ListN.{length}
use Rattle.bases.specs.Letter.{bases_of}
use Rattle.bases.specs.Nearest.{differ?}
use Rattle.bases.proofs.NearestLaws.{Past, nearest_above, nearest_past, nearest_end}
use Rattle.bases.proofs.reference.nearest_difference.Goals as goal
use Rattle.bases.proofs.reference.nearest_difference.Goals.{then-above-n+else-differ, else-above-n}

pub returns-then-differ : goal.returns-then-differ
returns-then-differ c = let a = c.args in
    let l = c.loop-below in
    sym (nearest_above a.q (bases_of a.stretch.now) l.above (length a.stretch.now - a.q) l.below (omega arith) (omega arith) (sym c.differ.ensures ∙ c.if-differ.true))
    ∙ l.invariant

pub returns-then-differ-2 : goal.returns-then-differ-2
returns-then-differ-2 c = let a = c.args in
    let s = bases_of a.stretch.now in
    let l = c.loop-below in
    let past : Past a.q s (length a.stretch.now - a.q) l.above c.if-above-n.above = elim c.if-above-n.branch [
      | then-above-n+else-differ w ↦ inl (w.if-above-n.true, sym w.differ.ensures ∙ w.if-differ.false, w.above-is)
      | else-above-n w ↦ inr (w.if-above-n.false, w.above-is)
    ] in
    let d : differ? a.q s (l.below - 1) ≡ true = sym c.differ-in-loop-below.ensures ∙ c.if-differ-2.true in
    sym (nearest_past a.q s l.above (length a.stretch.now - a.q) l.below c.if-above-n.above past (omega arith) ∙ rw d) ∙ l.invariant

pub loop-below-preserved : goal.loop-below-preserved
loop-below-preserved c = let a = c.args in
    let s = bases_of a.stretch.now in
    let l = c.loop-below in
    let past : Past a.q s (length a.stretch.now - a.q) l.above c.if-above-n.above = elim c.if-above-n.branch [
      | then-above-n+else-differ w ↦ inl (w.if-above-n.true, sym w.differ.ensures ∙ w.if-differ.false, w.above-is)
      | else-above-n w ↦ inr (w.if-above-n.false, w.above-is)
    ] in
    let d : differ? a.q s (l.below - 1) ≡ false = sym c.differ-in-loop-below.ensures ∙ c.if-differ-2.false in
    sym (nearest_past a.q s l.above (length a.stretch.now - a.q) l.below c.if-above-n.above past (omega arith) ∙ rw d) ∙ l.invariant

pub returns : goal.returns
returns c = let a = c.args in
    let l = c.loop-below in
    c.first_difference.ensures ∙ sym (nearest_end a.q (bases_of a.stretch.now) l.above (length a.stretch.now - a.q - l.above) l.below (omega arith)) ∙ l.invariant
