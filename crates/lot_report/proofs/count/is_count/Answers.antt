-- `lot_report::count::is_count` meets its contract: the field's bytes are all digits, and the first of several is no zero. Assumes nothing.
use mathlib.Core.Path.{◌≡◌, ◌∙◌}
use native.Mathlib.Omega.{arith}
use Rattle.std.proofs.Common.{rules}
use Rattle.std.proofs.lemmas.Iterator.{YieldsList-from_slice}
use Rattle.std.proofs.lemmas.Iterator.Search.{all_from_yields_List}
use Rattle.std.specs.List.{list_all}
use Rattle.fields.specs.Pos.{digit?}
use Rattle.lot_report.proofs.CountLaws.{count_zero, count_led}
use Rattle.lot_report.proofs.count.is_count.Goals as goal

pub returns-in-48 : goal.returns-in-48
returns-in-48 c = let f = c.args.field.now in
    c.is_empty.ensures ∙ count_zero f (omega arith) (omega arith)

pub returns-in_default : goal.returns-in_default
returns-in_default c = let f = c.args.field.now in
    let h : c.all.result ≡ list_all digit? f = all_from_yields_List digit? _ _ _ c.all.ensures.ran (YieldsList-from_slice f (cc)) (λ x b q k. search rules) in
    h ∙ count_led f (omega arith) (λ e. omega (arith, e))
