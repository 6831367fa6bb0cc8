-- `bases::bytes::agree` meets its contract: two bytes at a time, until two differ. Assumes nothing.
use Rattle.std.proofs.Common.{rules, ◌≡◌, ℕ}
use mathlib.Core.Path.{◌∙◌}
use Rattle.std.proofs.lemmas.Iterator.{YieldsList-from_slice, YieldsList-from_zip}
use Rattle.std.proofs.lemmas.Iterator.Search.{all_from_yields_List}
use Rattle.std.specs.List.{list_all, zip}
use lib.Dec.{eqb}
use Rattle.bases.proofs.SameLaws.{agree_all}
use Rattle.bases.proofs.bytes.agree.Goals as goal

pub returns : goal.returns
returns c = let test = (λ (p : ℕ × ℕ). eqb p.0 p.1) in
    let h : c.all.result ≡ list_all test (zip c.args.a.now c.args.b.now) = all_from_yields_List test c.all.new.self _ _ c.all.ensures.ran
    (YieldsList-from_zip (YieldsList-from_slice c.args.a.now (cc)) (YieldsList-from_slice c.args.b.now (cc))) (λ x b q k. search rules) in
    h ∙ agree_all _ _
