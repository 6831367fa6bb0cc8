-- Laws of where a walk stands along the donor of a list on a copy.
--     Stands            it stands well: its piece lies in its source, and the spans left lie behind its place
--     piece_length, left_passed, passed_length, stands_passed
--                       the next m bases of its piece: how long they are, what is left behind them, how much, and that it stands well there
--     left_last         what is left at the last piece
--     left_some, left_none
--                       how much is left with a base of the piece left, and at the last piece with none
-- Assumes nothing.
use mathlib.Core.Bool.{Bool, false}
use mathlib.Core.List.{List, ◌++◌, append_assoc}
use mathlib.Core.Path.{◌≡◌, sym, ap, ◌∙◌}
use Prim.Native.Nat.{ℕ, ◌+◌, ◌-◌, ◌≤◌, ◌<◌}
use native.Mathlib.Omega.{arith}
use lib.ListN.{length, take, drop, length-append, length-drop}
use lib.Seq.{take-add, drop-drop}
use Rattle.bases.specs.Stretch.{stretch}
use Rattle.bases.proofs.StretchLaws.{stretch_length}
use Rattle.donors.specs.declared.table.Row.{Row}
use Rattle.donors.specs.declared.walk.Along.{Along}
use Rattle.donors.specs.Apart.{Chain}
use Rattle.donors.specs.Choice.{Copy}
use Rattle.donors.specs.Donor.{Edit, donor_from}
use Rattle.donors.specs.Table.{bases_from}
use Rattle.donors.specs.Walk.{passed, left_of}
use Rattle.donors.proofs.PartLaws.{rest_split}
use Rattle.donors.proofs.RowsLaws.{edits_in, edits_past}

-- A walk stands well.
pub record Stands (reference text : List ℕ) (t : List Row) (φ : List ℕ) (j : Bool) (h : Copy) (n : ℕ) (c : Along) : Type 0 where
  pub place : c.place ≤ length reference
  pub chain : Chain c.place (edits_in reference text t φ j h c.row (n - c.row))
  pub inside : c.at + c.len ≤ length (bases_from reference text c.text)
  pub last : n < c.row → (c.text ≡ false) × (c.at + c.len ≡ length reference) × (c.place ≡ length reference)

module _ (reference text : List ℕ) (t : List Row) (φ : List ℕ) (j : Bool) (h : Copy) (n : ℕ) where
  -- the edits of the rows from row i on
  abbrev rows : ℕ → List Edit
  rows i = edits_in reference text t φ j h i (n - i)

  -- the donor that is left
  abbrev left : Along → List ℕ
  left c = left_of reference text t φ j h n c

  -- behind the next m bases of a piece
  module _ (c : Along) (w : Stands reference text t φ j h n c) (m : ℕ) (l : m ≤ c.len) where
    pub piece_length : length (stretch (bases_from reference text c.text) c.at m) ≡ m
    piece_length = stretch_length (bases_from reference text c.text) c.at m (omega (arith, w.inside))

    pub left_passed : left c ≡ stretch (bases_from reference text c.text) c.at m ++ left (passed c m)
    left_passed =
        let X = bases_from reference text c.text in
        let e : c.len ≡ m + (c.len - m) = omega arith in
        let f = ap (λ (k : ℕ). take k (drop c.at X)) e ∙ take-add m (c.len - m) (drop c.at X)
        ∙ ap (λ (y : List ℕ). stretch X c.at m ++ take (c.len - m) y) (drop-drop m c.at X) in
        ap (λ (y : List ℕ). y ++ donor_from reference c.place (rows c.row)) f
        ∙ append_assoc (stretch X c.at m) (stretch X (c.at + m) (c.len - m)) (donor_from reference c.place (rows c.row))

    pub passed_length : length (left c) ≡ m + length (left (passed c m))
    passed_length =
        ap length left_passed
        ∙ length-append (stretch (bases_from reference text c.text) c.at m) (left (passed c m))
        ∙ ap (λ (k : ℕ). k + length (left (passed c m))) piece_length

    pub stands_passed : Stands reference text t φ j h n (passed c m)
    stands_passed = record {
      place = w.place;
      chain = w.chain;
      inside = omega (arith, w.inside);
      last = λ k. ((w.last k).0, omega (arith, (w.last k).1), (w.last k).2);
    }

  -- at the last piece
  module _ (c : Along) (w : Stands reference text t φ j h n c) (l : n < c.row) where
    pub left_last : left c ≡ drop c.at reference
    unfolding donor_from
    left_last =
        let u = w.last l in
        let e : c.len ≡ length reference - c.at = omega arith in
        rw (u.0, u.2, edits_past reference text t φ j h c.row n (omega arith), e) (sym (rest_split reference c.at (length reference) (omega arith)))

  pub left_some : (c : Along) → Stands reference text t φ j h n c → 1 ≤ c.len → 1 ≤ length (left c)
  left_some c w k = omega (arith, passed_length c w 1 k)

  pub left_none : (c : Along) → Stands reference text t φ j h n c → n < c.row → c.len ≡ 0 → length (left c) ≡ 0
  left_none c w l e =
      let u = w.last l in
      ap length (left_last c w l) ∙ omega (arith, length-drop c.at reference)
