-- `next` of a walk over clusters meets its contract: the step at its cursors is the next cluster that is left. Assumes nothing.
use Rattle.std.proofs.Common.{◌≡◌, ◌∙◌, ◌+◌, ◌<◌, ◌^◌, ap, true, false, arith, rules, length}
use Rattle.bases.specs.Letter.{bases_of}
use Rattle.clusters.specs.declared.plan.Walk.{Walk}
use Rattle.clusters.specs.Heads.{Ready, done?, items_from}
use Rattle.clusters.proofs.NextLaws.{count_le, ready_found, records_done, records_next, found_left, walk_done}
use Rattle.clusters.proofs.plan.ClustersIterator.next.Goals as goal

pub returns-then-not-walk-clause-steps : goal.returns-then-not-walk-clause-steps
returns-then-not-walk-clause-steps c =
    let s = c.args.self.now in
    let r = bases_of s.lists.reference.now in
    let w = c.walk_from-walk in
    let d : done? s.lists.first.now s.lists.second.now s.heads ≡ true =
    walk_done r s.lists.first.now s.lists.second.now s.heads s.entry w.result w.ensures ∙ c.if-not-walk.true in
    let e = records_done r s.lists.first.now s.lists.second.now s.heads s.entry d in
    (e, e)

pub overflow_add-self : goal.overflow_add-self
overflow_add-self c =
    let s = c.args.self.now in
    let r = bases_of s.lists.reference.now in
    let w = c.walk_from-walk in
    let d : done? s.lists.first.now s.lists.second.now s.heads ≡ false =
    walk_done r s.lists.first.now s.lists.second.now s.heads s.entry w.result w.ensures ∙ c.if-not-walk.false in
    let n = ap (λ (w : Walk). w.cluster.count) w.ensures in
    record { fits = omega (arith, c.requires.few, n, count_le r s.lists.first.now s.lists.second.now s.heads d) }

pub returns-clause-steps : goal.returns-clause-steps
returns-clause-steps c =
    let s = c.args.self.now in
    let r = bases_of s.lists.reference.now in
    let w = c.walk_from-walk in
    let d : done? s.lists.first.now s.lists.second.now s.heads ≡ false =
    walk_done r s.lists.first.now s.lists.second.now s.heads s.entry w.result w.ensures ∙ c.if-not-walk.false in
    rw w.ensures (records_next r s.lists.first.now s.lists.second.now s.heads d s.entry)

pub returns-clause-goes : goal.returns-clause-goes
returns-clause-goes c =
    let s = c.args.self.now in
    let r = bases_of s.lists.reference.now in
    let w = c.walk_from-walk in
    let d : done? s.lists.first.now s.lists.second.now s.heads ≡ false =
    walk_done r s.lists.first.now s.lists.second.now s.heads s.entry w.result w.ensures ∙ c.if-not-walk.false in
    let steps = returns-clause-steps c in
    let n = ap (λ (w : Walk). w.cluster.count) w.ensures in
    let left = ap (λ (w : Walk). length (items_from s.lists.first.now s.lists.second.now w.heads)) w.ensures in
    let ready : Ready r s.lists.first.now s.lists.second.now w.result.heads =
    rw w.ensures (ready_found r s.lists.first.now s.lists.second.now s.heads d c.requires.ready) in
    let few : s.entry + w.result.cluster.count + length (items_from s.lists.first.now s.lists.second.now w.result.heads) < 2 ^ 32 =
    omega (
      arith,
      c.requires.few,
      n,
      left,
      found_left r s.lists.first.now s.lists.second.now s.heads d,
      count_le r s.lists.first.now s.lists.second.now s.heads d,
    ) in
    search rules
