-- `bases::same::parts_agree` meets its contract: parts of two texts. Assumes nothing.
use mathlib.Core.Path.{◌∙◌}
use Rattle.bases.proofs.StretchLaws.{stretch_slices}
use Rattle.bases.proofs.same.parts_agree.Goals as goal

pub returns : goal.returns
returns c = let a = c.args in
    c.agree.ensures ∙ stretch_slices a.one.now a.two.now a.a a.b a.n
