-- `card::normal_text::normal` meets its contract: an accepted list is not longer when it is written, so its length fits 32 bits. Assumes
-- nothing.
use native.Mathlib.Omega.{arith}
use borrow.Author.Tests.{ltb-false}
use lib.Dec.{ltb}
use lib.ListN.{length}
use Rattle.bases.specs.Letter.{bases_of}
use Rattle.bases.proofs.ReferenceLaws.{reference_bases}
use Rattle.bases.proofs.TestLaws.{of_true}
use Rattle.written.proofs.WrittenList.{written_not_longer}
use Rattle.vcf.proofs.JudgeLaws.{accepted_zero, text_fits}
use Rattle.card.proofs.ListsLaws.{list_read}
use Rattle.card.proofs.RefusalLaws.{passed_on}
use Rattle.card.proofs.normal_text.normal.Goals as goal

pub write_list-requires : goal.write_list-requires
write_list-requires c =
    let r = c.args.reference.now in
    let name = c.args.name.now in
    let t = c.args.text.now in
    let d = c.args.out.now in
    let z = passed_on _ _ c.in_default.ensures in
    let read = list_read r name t (ltb (length d) (length t)) z in
    (reference_bases r (of_true read.right), record { name = name; accepted = read.accepted }, ltb-false (length d) (length t) read.roomy)

pub overflow_cast-write_list : goal.overflow_cast-write_list
overflow_cast-write_list c =
    let r = c.args.reference.now in
    let name = c.args.name.now in
    let t = c.args.text.now in
    let d = c.args.out.now in
    let z = passed_on _ _ c.in_default.ensures in
    let read = list_read r name t (ltb (length d) (length t)) z in
    let n = c.write_list.ensures.0 in
    let fits = text_fits t (accepted_zero (bases_of r) name t read.accepted).fits in
    omega (arith, written_not_longer (bases_of r) name (reference_bases r (of_true read.right)) t read.accepted)
