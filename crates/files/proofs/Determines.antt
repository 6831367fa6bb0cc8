-- The contract of `ends_in_lf` determines its result, and those of the parts of a `Given` the bytes that are handed out. What the others
-- read and print is not told by a contract: that is what the files and the argument have. Assumes nothing.
use mathlib.Core.List.{List}
use mathlib.Core.Path.{sym, ◌∙◌}
use Prim.Native.Nat.{ℕ}
use Rattle.bases.proofs.Determines.{OneResult, OneSeen}
use Rattle.files.proofs.file.ends_in_lf.Kinds as ends-in-lf-kinds
use Rattle.files.proofs.file.ends_in_lf.Reads as ends-in-lf
use Rattle.files.proofs.given.Given.name.Kinds as name-kinds
use Rattle.files.proofs.given.Given.name.Reads as name
use Rattle.files.proofs.given.Given.reference.Kinds as reference-kinds
use Rattle.files.proofs.given.Given.reference.Reads as reference
use Rattle.files.proofs.given.Given.first.Kinds as first-kinds
use Rattle.files.proofs.given.Given.first.Reads as first
use Rattle.files.proofs.given.Given.second.Kinds as second-kinds
use Rattle.files.proofs.given.Given.second.Reads as second

pub ends_in_lf_determines : OneResult 1 ends-in-lf-kinds.ps ends-in-lf-kinds.r ends-in-lf.Post
ends_in_lf_determines κs a z z' e e' p q = p ∙ sym q

pub name_determines : OneSeen 1 name-kinds.ps name-kinds.r name.Post (List ℕ) (λ κs z. z.now)
name_determines κs a z z' e e' p q = p ∙ sym q

pub reference_determines : OneSeen 1 reference-kinds.ps reference-kinds.r reference.Post (List ℕ) (λ κs z. z.now)
reference_determines κs a z z' e e' p q = p ∙ sym q

pub first_determines : OneSeen 1 first-kinds.ps first-kinds.r first.Post (List ℕ) (λ κs z. z.now)
first_determines κs a z z' e e' p q = p ∙ sym q

pub second_determines : OneSeen 1 second-kinds.ps second-kinds.r second.Post (List ℕ) (λ κs z. z.now)
second_determines κs a z z' e e' p q = p ∙ sym q
