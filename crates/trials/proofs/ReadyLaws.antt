-- Laws of the test of a table.
--     rows_none, rows_more, rows_other     the first rows are sound: no row, one more, and none where one is not
--     ready                                a table that passes is ready for the search of its first rows
-- Assumes nothing.
use mathlib.Core.Bool.{Bool, true, false}
use mathlib.Core.List.{List}
use mathlib.Core.Path.{◌≡◌, refl}
use Prim.Native.Nat.{ℕ, zero, suc, ◌+◌, ◌-◌, ◌≤◌, ◌<◌}
use native.Mathlib.Numerals.{add-one}
use native.Mathlib.Omega.{arith}
use borrow.Author.Tests.{ltb-true, ltb-false}
use lib.Dec.{T, leb, ltb, leb→le}
use lib.ListN.{length}
use Rattle.bases.proofs.TestLaws.{of_true, of_false, is_false, both}
use Rattle.donors.specs.declared.table.Allele.{Allele}
use Rattle.donors.specs.declared.table.Row.{Row}
use Rattle.donors.specs.Agree.{Ready}
use Rattle.donors.specs.Table.{most, row_at, bases_from, Sound}
use Rattle.trials.specs.Ready.{within?, stands?, sound?, sound_row?, sound_rows?, ready?}

within : (at len size : ℕ) → T (within? at len size) → at + len ≤ size
within at len size h =
    let w = (both (leb at size) (leb len (size - at))).0 h in
    omega (arith, leb→le at size w.0, leb→le len (size - at) w.1)

sound : (reference text : List ℕ) (r : Row) → T (sound? reference text r) → Sound reference text r
sound reference text r h =
    let w = (both (within? r.start r.len (length reference)) _).0 h in
    let v = (both (stands? reference text r.copy0) (stands? reference text r.copy1)).0 w.1 in
    let zero = parts r.copy0 v.0 in
    let one = parts r.copy1 v.1 in
    record { span = within r.start r.len _ w.0; zero = zero.1; one = one.1; some0 = zero.0; some1 = one.0 }
  where
    parts : (a : Allele) → T (stands? reference text a) → (1 ≤ a.len) × (a.at + a.len ≤ length (bases_from reference text a.text))
    parts a h =
        let w = (both (leb 1 a.len) (within? a.at a.len (length (bases_from reference text a.text)))).0 h in
        (leb→le 1 a.len w.0, within a.at a.len _ w.1)

module _ (reference first second : List ℕ) (t : List Row) where
  pub rows_none : sound_rows? reference first second t 0 ≡ true
  unfolding sound_rows?
  rows_none = refl

  pub rows_more : (i : ℕ) → sound_rows? reference first second t i ≡ true → sound_row? reference first second t i ≡ true → sound_rows? reference first second t (i + 1) ≡ true
  unfolding sound_rows?
  rows_more i r e = rw (add-one i, r, e)

  row_of : (n i : ℕ) → i < n → T (sound_rows? reference first second t n) → T (sound_row? reference first second t i)
  unfolding sound_rows?
  row_of zero i l h = absurd (omega arith)
  row_of (suc n) i l h = go (row_of n i) (ltb i n) refl
    where
      w : T (sound_rows? reference first second t n) × T (sound_row? reference first second t n)
      w = (both (sound_rows? reference first second t n) (sound_row? reference first second t n)).0 h

      go : (i < n → T (sound_rows? reference first second t n) → T (sound_row? reference first second t i)) → (b : Bool) → ltb i n ≡ b → T (sound_row? reference first second t i)
      go f true e = f (ltb-true i n e) w.0
      go f false e = let z : i ≡ n = omega (arith, ltb-false i n e) in rw z w.1

  pub rows_other : (n i : ℕ) → i < n → sound_row? reference first second t i ≡ false → sound_rows? reference first second t n ≡ false
  rows_other n i l e = is_false _ (λ h. of_false e (row_of n i l h))

  pub ready : (n m : ℕ) → ready? reference first second t n ≡ true → m ≤ n → Ready reference first second t m
  ready n m e l =
      let w = (both (leb n most) (sound_rows? reference first second t n)).0 (of_true e) in
      record { few = omega (arith, leb→le n most w.0); sound = λ i h. sound reference _ (row_at t i) (row_of n i (omega arith) w.1) }
