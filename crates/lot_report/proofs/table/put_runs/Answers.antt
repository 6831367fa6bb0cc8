-- `lot_report::table::put_runs` meets its contract. The loop's invariant: what is left to write are the lines of the runs on the lines that
-- are left (`Listing`, of TableLaws). Assumes nothing.
use mathlib.Core.Path.{ap, ◌∙◌}
use Rattle.vcf.specs.Lines.{lines_left}
use Rattle.lot_report.proofs.TableLaws.{fine_first, listing_begin, listing_room, listing_more, listing_end}
use Rattle.lot_report.proofs.table.put_runs.Goals as goal

pub loop-line-init : goal.loop-line-init
loop-line-init c = rw (ap lines_left c.into_iter-line-iterator.ensures.into_iter_gives ∙ c.lines_of-line-items.ensures)
    (listing_begin c.args.out.now c.args.text.now c.requires.0 c.requires.1)

pub put_run-requires : goal.put_run-requires
put_run-requires c = let w = rw c.in-Some.ensures.steps at c.loop-line.invariant in
    (fine_first _ _ w.fine, listing_room _ _ _ _ _ w)

pub loop-line-preserved : goal.loop-line-preserved
loop-line-preserved c = listing_more _ _ _ _ _ (rw c.in-Some.ensures.steps at c.loop-line.invariant) _ c.put_run.ensures

pub returns : goal.returns
returns c = listing_end _ _ _ (rw c.in-None.ensures.steps.0 at c.loop-line.invariant)
