-- `clusters::plan::walk_from` meets its contract: where a record is left, the next cluster is found. Assumes nothing.
use mathlib.Core.Bool.{false}
use mathlib.Core.Path.{◌≡◌, sym, ap, ◌∙◌}
use native.Mathlib.Omega.{arith}
use Rattle.bases.specs.Letter.{bases_of}
use Rattle.clusters.specs.declared.cluster.Found.{Found}
use Rattle.clusters.specs.Heads.{done?}
use Rattle.clusters.proofs.NextLaws.{count_le, walk_none, walk_found}
use Rattle.clusters.proofs.plan.walk_from.Goals as goal

pub returns-then-is_done : goal.returns-then-is_done
returns-then-is_done c =
    walk_none (bases_of c.args.reference.now) c.args.first.now c.args.second.now c.args.heads c.args.i
    (sym c.is_done.ensures ∙ c.if-is_done.true)

pub next_cluster-found-requires : goal.next_cluster-found-requires
next_cluster-found-requires c = (sym c.is_done.ensures ∙ c.if-is_done.false, c.requires.0)

pub overflow_cast-count : goal.overflow_cast-count
overflow_cast-count c =
    let d : done? c.args.first.now c.args.second.now c.args.heads ≡ false = sym c.is_done.ensures ∙ c.if-is_done.false in
    record {
      fits = omega (
        arith,
        c.requires.1,
        ap (λ (f : Found). f.count) c.next_cluster-found.ensures,
        count_le (bases_of c.args.reference.now) c.args.first.now c.args.second.now
            c.args.heads d,
      );
    }

pub returns : goal.returns
returns c =
    walk_found (bases_of c.args.reference.now) c.args.first.now c.args.second.now c.args.heads c.args.i
    (sym c.is_done.ensures ∙ c.if-is_done.false)
    c.next_cluster-found.result c.next_cluster-found.ensures
