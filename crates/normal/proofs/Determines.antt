-- Each contract determines its result: any two results that it allows for the same arguments are equal.
-- No function here is lent anything that it can write.
-- Assumes nothing.
use mathlib.Core.Path.{sym, ◌∙◌}
use Rattle.bases.proofs.Determines.{OneResult}
use Rattle.normal.proofs.cut.cuts_of.Kinds as cuts-of-kinds
use Rattle.normal.proofs.cut.cuts_of.Reads as cuts-of
use Rattle.normal.proofs.entry.normal_entry.Kinds as normal-entry-kinds
use Rattle.normal.proofs.entry.normal_entry.Reads as normal-entry

pub cuts_of_determines : OneResult 3 cuts-of-kinds.ps cuts-of-kinds.r cuts-of.Post
cuts_of_determines κs a z z' e e' p q = p ∙ sym q

pub normal_entry_determines : OneResult 2 normal-entry-kinds.ps normal-entry-kinds.r normal-entry.Post
normal_entry_determines κs a z z' e e' p q = p ∙ sym q
