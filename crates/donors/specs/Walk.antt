-- A walk along the donor of a list on a copy, piece by piece: reference and alleles in turn. Nothing of the donor is built.
-- Assumes nothing: these are definitions.
use Rattle.std.specs.Prelude.{Bool, false, List, ◌++◌, ℕ, zero, suc, ◌+◌, ◌-◌, eqb, leb, ltb, get_or}
use Rattle.bases.specs.Pick.{pick}
use Rattle.bases.specs.Stretch.{stretch}
use Rattle.donors.specs.declared.table.Row.{Row}
use Rattle.donors.specs.declared.walk.Along.{Along}
use Rattle.donors.specs.Choice.{Copy, card_rules}
use Rattle.donors.specs.Donor.{donor_from}
use Rattle.donors.specs.Rules.{edits}
use Rattle.donors.specs.Table.{row_at, bases_from, variants_in, choice_of, choices_from, allele_of, row_takes?}

-- At the reference's start, before every row, with nothing of a piece left.
abbrev pub beginning : Along
beginning = record { row = 0; place = 0; text = false; at = 0; len = 0 }

-- Behind the next m bases of the piece.
abbrev pub passed : Along → ℕ → Along
passed c m = record { row = c.row; place = c.place; text = c.text; at = c.at + m; len = c.len - m }

-- the rows of a table and their choices, for the donor of list j on copy h
module _ (t : List Row) (φ : List ℕ) (j : Bool) (h : Copy) where
  -- Row i takes its span.
  abbrev pub takes_row? : ℕ → Bool
  takes_row? i = row_takes? (row_at t i) (choice_of (get_or φ i 0)) j h

  -- The first of the m rows from row i on that takes its span, and the row behind them where none does.
  unfoldable pub next_row : ℕ → ℕ → ℕ
  next_row i zero = i
  next_row i (suc m) = pick (takes_row? i) i (next_row (i + 1) m)

-- the same with n rows, over a reference of so many bases
module _ (t : List Row) (φ : List ℕ) (j : Bool) (h : Copy) (n size : ℕ) where
  -- The last piece: what is left of the reference from a place on, with no row left.
  abbrev pub last_piece : ℕ → Along
  last_piece place = record { row = n + 1; place = size; text = false; at = place; len = size - place }

  -- The piece before row i: the reference up to its span.
  abbrev pub piece_before : ℕ → ℕ → Along
  piece_before place i = record { row = i; place = (row_at t i).start; text = false; at = place; len = (row_at t i).start - place }

  -- Its allele.
  abbrev pub piece_of : ℕ → Along
  piece_of i =
      let a = allele_of (row_at t i) (choice_of (get_or φ i 0)) h in
      record { row = i + 1; place = (row_at t i).start + (row_at t i).len; text = a.text; at = a.at; len = a.len }

  -- The piece from a place on, where row i is the next that takes its span.
  abbrev pub piece_from : ℕ → ℕ → Along
  piece_from place i = pick (leb n i) (last_piece place) (pick (ltb place (row_at t i).start) (piece_before place i) (piece_of i))

  -- The next piece.
  abbrev pub next_piece : Along → Along
  next_piece c = piece_from c.place (next_row t φ j h c.row (n - c.row))

  -- The same walk, where nothing is left of its piece at the next one.
  abbrev pub with_piece : Along → Along
  with_piece c = pick (eqb c.len 0) (next_piece c) c

-- The donor that is left: what is left of the piece, and the donor from the place behind it on, with the rows that are left.
abbrev pub left_of : (reference text : List ℕ) (t : List Row) (φ : List ℕ) → Bool → Copy → ℕ → Along → List ℕ
left_of reference text t φ j h n c =
    stretch (bases_from reference text c.text) c.at c.len
    ++ donor_from reference c.place
    (edits card_rules j h (variants_in reference text t c.row (n - c.row)) (choices_from φ c.row (n - c.row)))
