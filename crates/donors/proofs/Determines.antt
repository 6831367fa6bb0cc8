-- Each contract determines its result, and what it leaves in a buffer that it is lent: any two that it allows for the same arguments are
-- equal. `Post` is the contract as src/ states it. Assumes nothing.
use mathlib.Core.Path.{sym, ◌∙◌}
use Rattle.bases.proofs.Determines.{OneResult}
use Rattle.donors.proofs.agree.donors_agree.Kinds as donors_agree_kinds
use Rattle.donors.proofs.agree.donors_agree.Reads as donors_agree
use Rattle.donors.proofs.table.has_room.Kinds as has_room_kinds
use Rattle.donors.proofs.table.has_room.Reads as has_room
use Rattle.donors.proofs.table.allele_of.Kinds as allele_of_kinds
use Rattle.donors.proofs.table.allele_of.Reads as allele_of
use Rattle.donors.proofs.table.takes.Kinds as takes_kinds
use Rattle.donors.proofs.table.takes.Reads as takes
use Rattle.donors.proofs.walk.beginning.Kinds as beginning_kinds
use Rattle.donors.proofs.walk.beginning.Reads as beginning
use Rattle.donors.proofs.walk.with_piece.Kinds as with_piece_kinds
use Rattle.donors.proofs.walk.with_piece.Reads as with_piece
use Rattle.donors.proofs.walk.past.Kinds as past_kinds
use Rattle.donors.proofs.walk.past.Reads as past

pub has_room_determines : OneResult 1 has_room_kinds.ps has_room_kinds.r has_room.Post
has_room_determines κs a z z' e e' p q = p ∙ sym q

pub allele_of_determines : OneResult 1 allele_of_kinds.ps allele_of_kinds.r allele_of.Post
allele_of_determines κs a z z' e e' p q = p ∙ sym q

pub takes_determines : OneResult 1 takes_kinds.ps takes_kinds.r takes.Post
takes_determines κs a z z' e e' p q = p ∙ sym q

pub beginning_determines : OneResult 0 beginning_kinds.ps beginning_kinds.r beginning.Post
beginning_determines κs a z z' e e' p q = p ∙ sym q

pub with_piece_determines : OneResult 2 with_piece_kinds.ps with_piece_kinds.r with_piece.Post
with_piece_determines κs a z z' e e' p q = p ∙ sym q

pub past_determines : OneResult 0 past_kinds.ps past_kinds.r past.Post
past_determines κs a z z' e e' p q = p ∙ sym q

pub donors_agree_determines : OneResult 3 donors_agree_kinds.ps donors_agree_kinds.r donors_agree.Post
donors_agree_determines κs a z z' e e' p q = p ∙ sym q
