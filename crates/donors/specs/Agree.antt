-- The donors of the two lists, compared: what a table of entries must be for that, and what is asked.
-- Assumes nothing: these are definitions.
use Rattle.std.specs.Prelude.{Bool, List, ℕ, ◌≤◌, ◌<◌}
use Rattle.bases.specs.Letter.{bases_of}
use Rattle.bases.specs.Pick.{pick}
use Rattle.bases.specs.Same.{same?}
use Rattle.donors.specs.declared.agree.Case.{Case}
use Rattle.donors.specs.declared.table.Row.{Row}
use Rattle.donors.specs.Apart.{Chain}
use Rattle.donors.specs.Choice.{Copy, Variant, card_rules}
use Rattle.donors.specs.Rules.{list1, list2, edits, donor_of}
use Rattle.donors.specs.Table.{most, row_at, variants_from, choices_from, Sound}

-- The table has n entries, each sound. This does not depend on the choices.
pub record Ready (reference first second : List ℕ) (t : List Row) (n : ℕ) : Type 0 where
  pub few : n ≤ most
  pub sound : (i : ℕ) → i < n → Sound reference (pick (row_at t i).first first second) (row_at t i)

-- On copy h no two spans overlap that entries of a list take there.
abbrev pub ApartOn : (reference first second : List ℕ) (t : List Row) (φ : List ℕ) → Copy → ℕ → Type 0
ApartOn reference first second t φ h n = (j : Bool)
    → Chain 0 (edits card_rules j h (variants_from reference first second t 0 n) (choices_from φ 0 n))

-- The donor of list j on copy h, over the whole reference, with a table's entries and their choices.
abbrev pub donor_by : (reference first second : List ℕ) (t : List Row) (φ : List ℕ) → Bool → Copy → ℕ → List ℕ
donor_by reference first second t φ j h n =
    donor_of card_rules reference j h (variants_from reference first second t 0 n) (choices_from φ 0 n)

-- On copy h the two lists have one donor.
abbrev pub one_donor? : (reference first second : List ℕ) (t : List Row) (φ : List ℕ) → Copy → ℕ → Bool
one_donor? reference first second t φ h n =
    same? (donor_by reference first second t φ list1 h n) (donor_by reference first second t φ list2 h n)

-- The same of a case of the code: it is ready, no two spans of its entries overlap, its lists have one donor, and its entries.
abbrev pub CaseReady : Case → Type 0
CaseReady c = Ready (bases_of c.reference.now) c.first.now c.second.now c.table.now c.n

abbrev pub CaseApart : Case → List ℕ → Copy → Type 0
CaseApart c φ h = ApartOn (bases_of c.reference.now) c.first.now c.second.now c.table.now φ h c.n

abbrev pub case_agrees? : Case → List ℕ → Copy → Bool
case_agrees? c φ h = one_donor? (bases_of c.reference.now) c.first.now c.second.now c.table.now φ h c.n

abbrev pub case_entries : Case → List Variant
case_entries c = variants_from (bases_of c.reference.now) c.first.now c.second.now c.table.now 0 c.n
