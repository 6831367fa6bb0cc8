-- `vcf::list::judge` meets its contract: what the invariant says, a line at a time. Assumes nothing.
use mathlib.Core.List.{List}
use mathlib.Core.Path.{sym, ap, ◌∙◌}
use Prim.Native.Nat.{ℕ, ◌+◌, ◌≤◌}
use native.Mathlib.Omega.{arith}
use lib.ListN.{length}
use Rattle.bases.specs.Letter.{bases_of}
use Rattle.records.specs.declared.row.LineFault.{LineFault}
use Rattle.records.specs.Row.{Row, first_row}
use Rattle.records.proofs.RowLaws.{told_err, told_ok}
use Rattle.records.proofs.RecordLaws.{record_ten}
use Rattle.vcf.specs.Lines.{lines_left}
use Rattle.vcf.specs.List.{above, below?, records_behind, last_pos, fault, judge_lines, judged}
use Rattle.vcf.proofs.JudgeLaws.{lines_few}
use Rattle.vcf.proofs.ListLaws.{rows_below, next_records, judge_stop, judge_more, judge_end_below, judge_end_above, judged_numbered, text_wrong, text_right}
use Rattle.vcf.proofs.list.judge.Goals as goal

pub returns-then-is_text_wrong : goal.returns-then-is_text_wrong
returns-then-is_text_wrong c = let r = bases_of c.args.reference.now in
    rw c.fault_at.ensures (sym (ap judged (text_wrong r c.args.name.now c.args.text.now (sym c.is_text_wrong.ensures ∙ c.if-is_text_wrong.true))))

pub loop-line-init : goal.loop-line-init
loop-line-init c = let r = bases_of c.args.reference.now in
    let t = c.args.text.now in
    let all = ap lines_left c.into_iter-line-iterator.ensures.into_iter_gives ∙ c.lines_of-line-items.ensures in
    (ap (judge_lines r c.args.name.now above 1) all, omega (arith, lines_few t, ap (λ (ls : List (List ℕ)). length ls) all), omega arith)

pub returns-in-Err : goal.returns-in-Err
returns-in-Err c = let r = bases_of c.args.reference.now in
    let name = c.args.name.now in
    let s = c.loop-line.stage in
    let n = c.loop-line.n in
    let l = c.in-Some.line.now in
    let e = told_err _ _ c.in-Err.ensures in
    let stop = judge_stop r name s n l (lines_left c.next.new.self) (λ z. e.1 (ap (λ (x : LineFault). x.number) e.0 ∙ z)) in
    let first = ap (judge_lines r name s n) c.in-Some.ensures.steps in
    let right = text_right r name c.args.text.now (sym c.is_text_wrong.ensures ∙ c.if-is_text_wrong.false) in
    rw c.fault_at-in-Err.ensures (judged_numbered _ _ (ap (λ (x : LineFault). fault x.number n x.at) e.0 ∙ sym stop ∙ sym first ∙ c.loop-line.invariant.0 ∙ sym right) e.1)

pub next_stage-stage-requires : goal.next_stage-stage-requires
next_stage-stage-requires c = let r = bases_of c.args.reference.now in
    let name = c.args.name.now in
    let s = c.loop-line.stage in
    let n = c.loop-line.n in
    let l = c.in-Some.line.now in
    let none = told_ok _ _ c.in_default.ensures in
    (λ b. record_ten r name (records_behind s) (last_pos s) l (ap (λ (rs : List Row). (first_row rs).number) (sym (rows_below r name s n l b)) ∙ none), omega arith)

pub loop-line-preserved : goal.loop-line-preserved
loop-line-preserved c = let r = bases_of c.args.reference.now in
    let name = c.args.name.now in
    let s = c.loop-line.stage in
    let n = c.loop-line.n in
    let l = c.in-Some.line.now in
    let ls = lines_left c.next.new.self in
    let none = told_ok _ _ c.in_default.ensures in
    let more = judge_more r name s n l ls none in
    let first = ap (judge_lines r name s n) c.in-Some.ensures.steps in
    let few : records_behind c.next_stage-stage.result ≤ records_behind s + 1 = rw c.next_stage-stage.ensures (next_records s l) in (
      rw c.next_stage-stage.ensures (sym more ∙ sym first ∙ c.loop-line.invariant.0),
      omega (arith, ap (λ (ls : List (List ℕ)). length ls) c.in-Some.ensures.steps),
      omega arith,
    )

pub returns-in-Below : goal.returns-in-Below
returns-in-Below c = let r = bases_of c.args.reference.now in
    let name = c.args.name.now in
    let s = c.loop-line.stage in
    let n = c.loop-line.n in
    let right = text_right r name c.args.text.now (sym c.is_text_wrong.ensures ∙ c.if-is_text_wrong.false) in
    let end = judge_end_below r name s n (ap below? c.in-Below.is) in
    ap judged (sym end ∙ sym (ap (judge_lines r name s n) c.in-None.ensures.steps.0) ∙ c.loop-line.invariant.0 ∙ sym right)

pub returns-in-Above : goal.returns-in-Above
returns-in-Above c = let r = bases_of c.args.reference.now in
    let name = c.args.name.now in
    let s = c.loop-line.stage in
    let n = c.loop-line.n in
    let right = text_right r name c.args.text.now (sym c.is_text_wrong.ensures ∙ c.if-is_text_wrong.false) in
    let end = judge_end_above r name s n (ap below? c.in-Above.is) in
    rw c.fault_at-in-Above.ensures (ap judged (sym end ∙ sym (ap (judge_lines r name s n) c.in-None.ensures.steps.0) ∙ c.loop-line.invariant.0 ∙ sym right))
