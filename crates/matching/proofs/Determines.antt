-- Each contract determines its result: any two that it allows for the same arguments are equal. `Post` is the contract as src/ states it.
-- Assumes nothing.
use mathlib.Core.Path.{sym, ◌∙◌}
use Rattle.bases.proofs.Determines.{OneResult}
use Rattle.matching.proofs.answer.can_beat.Kinds as can_beat_kinds
use Rattle.matching.proofs.answer.can_beat.Reads as can_beat
use Rattle.matching.proofs.fits.fits.Kinds as fits_kinds
use Rattle.matching.proofs.fits.fits.Reads as fits
use Rattle.matching.proofs.fits.is_tried.Kinds as is_tried_kinds
use Rattle.matching.proofs.fits.is_tried.Reads as is_tried
use Rattle.matching.proofs.search.best_choices.Kinds as best_choices_kinds
use Rattle.matching.proofs.search.best_choices.Reads as best_choices

pub can_beat_determines : OneResult 0 can_beat_kinds.ps can_beat_kinds.r can_beat.Post
can_beat_determines κs a z z' e e' p q = p ∙ sym q

pub fits_determines : OneResult 2 fits_kinds.ps fits_kinds.r fits.Post
fits_determines κs a z z' e e' p q = p ∙ sym q

pub is_tried_determines : OneResult 2 is_tried_kinds.ps is_tried_kinds.r is_tried.Post
is_tried_determines κs a z z' e e' p q = p ∙ sym q

pub best_choices_determines : OneResult 4 best_choices_kinds.ps best_choices_kinds.r best_choices.Post
best_choices_determines κs a z z' e e' p q = p ∙ sym q
