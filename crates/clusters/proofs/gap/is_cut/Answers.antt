-- `clusters::gap::is_cut` meets its contract: behind b a cut is where the gap has no period up to g. Assumes nothing.
use Rattle.std.proofs.Common.{arith}
use Rattle.bases.specs.Letter.{bases_of}
use Rattle.clusters.proofs.GapLaws.{cut_read}
use Rattle.clusters.proofs.gap.is_cut.Goals as goal

pub returns-then-current-start : goal.returns-then-current-start
returns-then-current-start c =
    let a = c.args in
    cut_read (bases_of a.reference.now) a.current a.start (omega arith) (omega arith) c.reach_of.ensures c.has_any_period.ensures
