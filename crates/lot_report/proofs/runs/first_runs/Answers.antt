-- `lot_report::runs::first_runs` meets its contract. The loop's invariant: once the runs on the lines that are left are read into the room
-- from run n on, it is what it has to be (`filled`, of ReadLaws), and n and the lines still to take are 256 together. Assumes nothing.
use mathlib.Core.List.{List}
use mathlib.Core.Path.{refl, sym, ap, ◌∙◌}
use Prim.Native.Nat.{ℕ}
use Rattle.std.proofs.Common.{◌≡◌, rules}
use native.Mathlib.Omega.{arith}
use lib.ListN.{length-set, length-replicate}
use Rattle.std.specs.Iterator.Adapters.{enumerate_source, enumerate_count, take_source}
use Rattle.lot.specs.declared.run.Run.{Run}
use Rattle.lot.specs.Run.{most_runs, no_run}
use Rattle.vcf.specs.Lines.{lines_left}
use Rattle.vcf.specs.List.{lines_of}
use Rattle.lot_report.specs.Run.{run_on}
use Rattle.lot_report.proofs.ReadLaws.{filled, filled_more}
use Rattle.lot_report.proofs.RunLaws.{runs_first}
use Rattle.lot_report.proofs.runs.first_runs.Goals as goal

pub loop-n-init : goal.loop-n-init
loop-n-init c = let none : c.default-none.result ≡ no_run = search rules in
    let walk = c.into_iter-n-iterator.result in
    let first : enumerate_count walk ≡ 0 = search rules in
    let all : lines_left (take_source (enumerate_source walk)) ≡ lines_of c.args.text.now = search rules in
    rw (first, all, none) (search rules, tt, search rules, c.requires, length-replicate {A = Run} most_runs no_run, refl)

pub run_on-requires : goal.run_on-requires
run_on-requires c =
    let s = c.in-Some.ensures.steps in
    (runs_first _ _ (rw s.0.0 at c.loop-n.invariant.3)).0

pub loop-n-preserved : goal.loop-n-preserved
loop-n-preserved c = let p = c.loop-n in
    let l = c.in-Some.line.now in
    let n = enumerate_count p.n-iterator in
    let left = lines_left (take_source (enumerate_source c.next.new.self)) in
    let s = c.in-Some.ensures.steps in
    rw (s.2, s.1, c.run_on.ensures) (
      search rules,
      tt,
      omega (arith, p.invariant.2, s.0.1),
      (runs_first l left (rw s.0.0 at p.invariant.3)).1,
      length-set p.runs n (run_on l) ∙ p.invariant.4,
      filled_more l left n p.runs (omega (arith, p.invariant.2, s.0.1)) p.invariant.4 ∙ ap (λ (ls : List (List ℕ)). filled ls n p.runs) (sym s.0.0) ∙ p.invariant.5,
    )
