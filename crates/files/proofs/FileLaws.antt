-- A file that ends in LF has a byte.
-- Assumes nothing.
use mathlib.Core.Bool.{true}
use mathlib.Core.List.{List}
use mathlib.Core.Path.{◌≡◌}
use Prim.Native.Nat.{ℕ, ◌-◌, ◌≤◌}
use borrow.Author.Tests.{ltb-true}
use lib.Dec.{eqb, ltb}
use lib.ListN.{length, get_or}
use Rattle.bases.proofs.TestLaws.{of_true, is_true, both}
use Rattle.fields.specs.Bytes.{LF}
use Rattle.files.specs.File.{ends_in_lf?}

pub ends_some : (file : List ℕ) → ends_in_lf? file ≡ true → 1 ≤ length file
ends_some file e = ltb-true 0 (length file) (is_true (ltb 0 (length file)) ((both (ltb 0 (length file)) (eqb (get_or file (length file - 1) 0) LF)).0 (of_true e)).0)
