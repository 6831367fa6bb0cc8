-- `bases::reference::put_stretch` meets its contract: the bases of a part of the reference. Assumes nothing.
use Rattle.bases.proofs.StretchLaws.{slice_bases}
use Rattle.bases.proofs.reference.put_stretch.Goals as goal

pub returns : goal.returns
returns c = rw (← slice_bases c.args.reference.now c.args.a c.args.n) c.bases.ensures
