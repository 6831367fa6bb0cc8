-- `fields::bytes::begins` meets its contract: the library's test. Assumes nothing.
use mathlib.Core.Path.{◌∙◌}
use Rattle.fields.proofs.BytesLaws.{begins_starts}
use Rattle.fields.proofs.bytes.begins.Goals as goal

pub returns : goal.returns
returns c = c.starts_with.ensures.value ∙ begins_starts c.args.start.now c.args.bytes.now
