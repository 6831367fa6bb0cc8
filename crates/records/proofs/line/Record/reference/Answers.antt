-- `records::line::Record::reference` meets its contract: the field is read where it begins. Assumes nothing.
use native.Mathlib.Omega.{arith}
use lib.Dec.{lit<}
use Rattle.bases.proofs.TestLaws.{of_true}
use Rattle.fields.proofs.FieldLaws.{field_within, read}
use Rattle.records.proofs.line.Record.reference.Goals as goal

pub field_from-requires : goal.field_from-requires
field_from-requires c = let r = c.args.self.now in
    omega (arith, (read r.line.now r.fields r.read).reference, field_within r.line.now 3 (of_true r.ten) (lit< tt))
