-- What writing a line leans on: each of its numbers can be printed.
-- Assumes nothing: these are definitions.
use Rattle.std.specs.Prelude.{◌≡◌, ◌≤◌}
use Rattle.lines.specs.Lines.{largest_number}
use Rattle.lot.specs.declared.answer.Lot.{Lot}
use Rattle.lot.specs.declared.share.Share.{Share}

pub record PrintableShare (s : Share) : Type 0 where
  pub top : s.top ≤ largest_number
  pub bottom : s.bottom ≤ largest_number
  pub ppm : (s.bottom ≡ 0 → ⊥) → s.ppm ≤ largest_number

pub record Printable (l : Lot) : Type 0 where
  pub truth : l.truth ≤ largest_number
  pub matched1 : l.total.matched1 ≤ largest_number
  pub undecided1 : l.total.undecided1 ≤ largest_number
  pub called : l.called ≤ largest_number
  pub matched2 : l.total.matched2 ≤ largest_number
  pub undecided2 : l.total.undecided2 ≤ largest_number
  pub recall : PrintableShare l.recall
  pub precision : PrintableShare l.precision
