-- `bases::bytes::same_bytes` meets its contract: `==` finds equal lists equal. Assumes nothing.
use mathlib.Core.Path.{◌∙◌}
use Rattle.bases.proofs.SameLaws.{same_eq}
use Rattle.bases.proofs.bytes.same_bytes.Goals as goal

pub returns : goal.returns
returns c = c.eq.ensures ∙ same_eq c.args.a.now c.args.b.now
