-- `records::line::Record::chrom` meets its contract. Assumes nothing.
use mathlib.Core.Path.{ap, sym, ◌∙◌}
use Rattle.fields.specs.Field.{field_from}
use Rattle.fields.proofs.FieldLaws.{skip_zero}
use Rattle.records.proofs.line.Record.chrom.Goals as goal

pub returns : goal.returns
returns c = let l = c.args.self.now.line.now in c.field_from.ensures ∙ ap (field_from l) (sym (skip_zero l 0))
