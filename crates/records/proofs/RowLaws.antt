-- Laws of rows: the first that holds is the one that is told. They are those of bases/proofs/FirstLaws.antt, of rows.
--     Numbered, numbered               no row that holds is numbered 0; so it is where no row is
--     first_row_holds, first_row_not   what is told of rows, by the row in front
--     first_row_past                   rows of which none holds may stand in front
--     first_row_found, first_row_first     a number that is not 0, and its place, are told exactly where their row is the first that holds
--     first_row_none, none_holds       two zeros are told where no row holds, and number 0 only there
--     first_row_keeps                  where one of some rows holds, those behind them are not reached
--     first_not_zero                   the first that holds is not numbered 0
--     told_err, told_ok, told_exit     what a function returns: a fault that is numbered, or that there is none
--     record_rows_numbered             no row that is tried on a record's line is numbered 0
-- Assumes nothing.
use mathlib.Core.Bool.{Bool, true, false, not}
use mathlib.Core.List.{List, [], ◌∷◌, ◌++◌}
use mathlib.Core.Logic.{◌≢◌}
use mathlib.Core.Path.{◌≡◌, refl, ap}
use Rattle.std.specs.Prelude.{Result, Ok, Err, IsErrAnd}
use Prim.Native.Nat.{ℕ}
use borrow.Author.Tests.{eq-eqb}
use lib.Dec.{T, eqb}
use Rattle.bases.specs.declared.place.Pos.{Pos}
use Rattle.bases.proofs.FirstLaws as first
use Rattle.bases.proofs.FirstLaws.{NoneHolds, First}
use Rattle.bases.proofs.TestLaws.{both, of_false}
use Rattle.records.proofs.ResultLaws.{result_err, result_ok, result_exit}
use Rattle.records.specs.declared.row.LineFault.{LineFault}
use Rattle.records.specs.Record.{record_rows}
use Rattle.records.specs.Row.{Row, no_fault, first_row, told}

abbrev number_of : LineFault → ℕ
number_of f = f.number

abbrev pub Numbered : List Row → Type 0
Numbered = first.Numbered no_fault number_of

pub first_row_holds : (r : Row) (rs : List Row) → r.holds ≡ true → first_row (r ∷ rs) ≡ r.told
first_row_holds = first.first_holds no_fault

pub first_row_not : (r : Row) (rs : List Row) → r.holds ≡ false → first_row (r ∷ rs) ≡ first_row rs
first_row_not = first.first_not no_fault

pub first_row_past : (before rs : List Row) → NoneHolds before → first_row (before ++ rs) ≡ first_row rs
first_row_past = first.first_past no_fault

pub first_row_found : (rs : List Row) (f : LineFault) → f.number ≢ 0 → first_row rs ≡ f → First f rs
first_row_found = first.first_found no_fault number_of refl

pub first_row_first : (rs : List Row) (f : LineFault) → First f rs → first_row rs ≡ f
first_row_first = first.first_first no_fault

pub first_row_none : (rs : List Row) → NoneHolds rs → first_row rs ≡ no_fault
first_row_none = first.first_none no_fault

pub none_holds : (rs : List Row) → Numbered rs → (first_row rs).number ≡ 0 → NoneHolds rs
none_holds = first.none_holds no_fault number_of

pub first_row_keeps : (before rs : List Row) → (first_row before).number ≢ 0 → first_row (before ++ rs) ≡ first_row before
first_row_keeps = first.first_keeps no_fault number_of refl

pub first_not_zero : (rs : List Row) (f : LineFault) → Numbered rs → First f rs → f.number ≢ 0
first_not_zero = first.first_not_zero no_fault number_of

-- No row of these is numbered 0.
abbrev pub numbered? : List Row → Bool
numbered? = first.all_told? (λ (f : LineFault). not (eqb f.number 0))

pub numbered : (rs : List Row) → T (numbered? rs) → Numbered rs
numbered [] t = tt
numbered (r ∷ rs) t =
    let s = (both (not (eqb r.told.number 0)) (numbered? rs)).0 t in
    (λ h e. of_false (ap not (eq-eqb r.told.number 0 e)) s.0, numbered rs s.1)

pub record_rows_numbered : (reference name : List ℕ) (records : ℕ) (last : Pos) (l : List ℕ) → Numbered (record_rows reference name records last l)
record_rows_numbered reference name records last l = numbered (record_rows reference name records last l) tt

pub told_err : (e f : LineFault) → Err e ≡ told f → (e ≡ f) × (e.number ≢ 0)
told_err = result_err number_of

pub told_ok : (x : Unit {0}) (f : LineFault) → Ok x ≡ told f → f.number ≡ 0
told_ok = result_ok number_of

pub told_exit : (r : Result (Unit {0}) LineFault) (e f : LineFault) → IsErrAnd r (λ y. y ≡ e) → e ≡ f → e.number ≢ 0 → r ≡ told f
told_exit = result_exit number_of
