-- `fields::header::is_version_line` meets its contract: `==` finds equal lists equal. Assumes nothing.
use mathlib.Core.Path.{◌∙◌}
use Rattle.bases.proofs.SameLaws.{eq_same}
use Rattle.fields.specs.Bytes.{version_line}
use Rattle.fields.proofs.header.is_version_line.Goals as goal

pub returns : goal.returns
returns c = c.eq.ensures ∙ eq_same version_line c.args.line.now
