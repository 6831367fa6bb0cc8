-- `fields::allele::alt_count` meets its contract: there are two where a comma is found before the field's end. Assumes nothing.
use native.Mathlib.Omega.{arith}
use lib.ListN.{length}
use borrow.Author.Tests.{lt-ltb, le-ltb}
use Rattle.fields.specs.Bytes.{COMMA, until}
use Rattle.fields.proofs.allele.alt_count.Goals as goal

pub returns-then-find-field : goal.returns-then-find-field
returns-then-find-field c = let f = c.args.field.now in
    rw (lt-ltb (until COMMA f) (length f) (omega arith))

pub returns-else-find-field : goal.returns-else-find-field
returns-else-find-field c = let f = c.args.field.now in
    rw (le-ltb (until COMMA f) (length f) (omega arith))
