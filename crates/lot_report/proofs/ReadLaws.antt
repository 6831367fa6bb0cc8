-- Laws of runs read into room.
--     filled                          the room once the runs on lines are read into it, from run n on
--     filled_more                     behind one run more
--     lot_read, lot_made              the lot of the runs that were read
-- Assumes nothing.
use mathlib.Core.List.{List, [], ◌∷◌}
use mathlib.Core.Path.{◌≡◌, ap, ◌∙◌}
use Prim.Native.Nat.{ℕ, suc, ◌+◌, ◌-◌, ◌<◌}
use native.Mathlib.Omega.{arith}
use lib.ListN.{length, take, set, length-map}
use lib.Seq.{take_all}
use Rattle.bases.proofs.PutLaws.{put_put, put_set, take_put}
use Rattle.bases.specs.Put.{put}
use Rattle.lot.proofs.SumLaws.{first_given}
use Rattle.lot.specs.declared.answer.Lot.{Lot}
use Rattle.lot.specs.declared.run.Run.{Run}
use Rattle.lot.specs.Lot.{lot_of, lot_of_first}
use Rattle.lot.specs.Run.{most_runs}
use Rattle.lot_report.specs.Run.{run_on, runs_on, no_runs}

abbrev pub filled : List (List ℕ) → ℕ → List Run → List Run
filled ls n runs = put runs n (take (most_runs - n) (runs_on ls))

pub filled_more : (l : List ℕ) (ls : List (List ℕ)) (n : ℕ) (runs : List Run) → n < most_runs → length runs ≡ most_runs
    → filled ls (n + 1) (set runs n (run_on l)) ≡ filled (l ∷ ls) n runs
filled_more l ls n runs k m =
    let r = run_on l in
    let e : most_runs - n ≡ suc (most_runs - (n + 1)) = omega arith in
    rw (e, put_set runs n r (omega arith)) (put_put runs n (omega arith) (r ∷ []) (take (most_runs - (n + 1)) (runs_on ls)))

pub lot_read : (rs : List Run) → lot_of_first (length rs) (put no_runs 0 (take most_runs rs)) ≡ lot_of rs
lot_read rs = first_given rs (put no_runs 0 (take most_runs rs)) (λ few. rw (take_all most_runs rs few) (whole rs))
  where
    whole : (rs : List Run) → take (length rs) (put no_runs 0 rs) ≡ rs
    whole rs = let e : length rs ≡ 0 + length rs = omega arith in ap (λ (n : ℕ). take n (put no_runs 0 rs)) e ∙ take_put no_runs 0 (omega arith) rs

pub lot_made : (ls : List (List ℕ)) (l : Lot) (runs : List Run) (n : ℕ) → n ≡ length ls → runs ≡ put no_runs 0 (take most_runs (runs_on ls)) → l ≡ lot_of_first n runs → l ≡ lot_of (runs_on ls)
lot_made ls l runs n e r k =
    let m : n ≡ length (runs_on ls) = omega (arith, length-map ls run_on) in
    k ∙ rw (m, r) (lot_read (runs_on ls))
