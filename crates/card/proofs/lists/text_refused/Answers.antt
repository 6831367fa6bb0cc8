-- `card::lists::text_refused` meets its contract: a list's fault has a line and a place that fit 32 bits. Assumes nothing.
use mathlib.Core.Path.{ap}
use native.Mathlib.Omega.{arith}
use Rattle.bases.specs.Letter.{bases_of}
use Rattle.vcf.specs.declared.list.Fault.{Fault}
use Rattle.vcf.proofs.GivenLaws.{judge_place_fits}
use Rattle.vcf.proofs.JudgeLaws.{judge_line_fits}
use Rattle.vcf.proofs.ListLaws.{judged_err}
use Rattle.card.proofs.lists.text_refused.Goals as goal

pub overflow_cast-result : goal.overflow_cast-result
overflow_cast-result c =
    let e = ap (λ (f : Fault). f.line) (judged_err _ _ c.in-Err.ensures).0 in
    omega (arith, judge_line_fits (bases_of c.args.reference.now) c.args.name.now c.args.text.now)

pub overflow_cast-result-in-Err : goal.overflow_cast-result-in-Err
overflow_cast-result-in-Err c =
    let e = ap (λ (f : Fault). f.place) (judged_err _ _ c.in-Err.ensures).0 in
    omega (arith, judge_place_fits (bases_of c.args.reference.now) c.args.name.now c.args.text.now)
