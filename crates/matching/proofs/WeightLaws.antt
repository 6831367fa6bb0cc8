-- Laws of the weights of a table's rows.
--     weights_start, weights_more    their sum over none, and over one row more
--     weights_rows                   it is the sum over the rows' entries
-- Assumes nothing.
use mathlib.Core.List.{List, [], ◌∷◌, ◌++◌}
use mathlib.Core.Path.{◌≡◌, refl, sym, ap, ◌∙◌}
use Prim.Native.Nat.{ℕ, zero, suc, ◌+◌, ◌-◌}
use native.Mathlib.Numerals.{add-one}
use native.Mathlib.Omega.{arith}
use Rattle.donors.specs.declared.table.Row.{Row}
use Rattle.donors.specs.Choice.{Variant}
use Rattle.donors.specs.Table.{row_at, variants_from}
use Rattle.matching.specs.Made.{weights, weights_to}
use Rattle.matching.proofs.EntryLaws.{entries, entry_at, entries_at_lem}

pub weights_start : (t : List Row) → 0 ≡ weights_to t 0
unfolding weights_to
weights_start t = refl

pub weights_more : (t : List Row) (n : ℕ) → weights_to t (n + 1) ≡ weights_to t n + (row_at t n).weight
unfolding weights_to
weights_more t n = rw (add-one n)

weights_last : (xs : List Variant) (x : Variant) → weights (xs ++ (x ∷ [])) ≡ weights xs + x.weight
unfolding weights
weights_last [] x = omega arith
weights_last (y ∷ xs) x = omega (arith, weights_last xs x)

pub weights_rows : (reference first second : List ℕ) (t : List Row) (n : ℕ) → weights_to t n ≡ weights (entries reference first second t 0 n)
unfolding weights_to weights variants_from
weights_rows reference first second t zero = refl
weights_rows reference first second t (suc n) =
    let e : suc n - (n + 1) ≡ 0 = omega arith in
    let x = entry_at reference first second t n in
    rw (weights_rows reference first second t n) (sym (ap weights (entries_at_lem reference first second t n (suc n) (omega arith)
    ∙ ap (λ (k : ℕ). entries reference first second t 0 n ++ (x ∷ entries reference first second t (n + 1) k)) e)
    ∙ weights_last (entries reference first second t 0 n) x))
