-- Each contract determines its result: any two results that it allows for the same arguments are equal. Where a function is lent what it
-- can write, `..-leaves` says the same of what is left there.
-- Assumes nothing.
use mathlib.Core.List.{List}
use mathlib.Core.Path.{sym, ◌∙◌}
use Prim.Native.Nat.{ℕ}
use Rattle.bases.proofs.Determines.{OneResult, OneLeft}
use Rattle.card_abi.proofs.allele.card_allele.Kinds as card-allele-kinds
use Rattle.card_abi.proofs.allele.card_allele.Reads as card-allele
use Rattle.card_abi.proofs.count.card_count.Kinds as card-count-kinds
use Rattle.card_abi.proofs.count.card_count.Reads as card-count
use Rattle.card_abi.proofs.normal_text.card_normal.Kinds as card-normal-kinds
use Rattle.card_abi.proofs.normal_text.card_normal.Reads as card-normal
use Rattle.card_abi.proofs.version.card_version.Kinds as card-version-kinds
use Rattle.card_abi.proofs.version.card_version.Reads as card-version

pub card_allele_determines : OneResult 3 card-allele-kinds.ps card-allele-kinds.r card-allele.Post
card_allele_determines κs a z z' e e' p q = p ∙ sym q

pub card_count_determines : OneResult 5 card-count-kinds.ps card-count-kinds.r card-count.Post
card_count_determines κs a z z' e e' p q = p ∙ sym q

pub card_normal_determines : OneResult 4 card-normal-kinds.ps card-normal-kinds.r card-normal.Post
card_normal_determines κs a z z' e e' p q = p.0 ∙ sym q.0

pub card_normal_leaves : OneLeft 4 card-normal-kinds.ps card-normal-kinds.r card-normal.Post (List ℕ) (λ κs e. e.1.1.1.0.now)
card_normal_leaves κs a z z' e e' p q = p.1 ∙ sym q.1

pub card_version_determines : OneResult 0 card-version-kinds.ps card-version-kinds.r card-version.Post
card_version_determines κs a z z' e e' p q = p ∙ sym q
