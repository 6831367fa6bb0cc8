-- A table of entries. A row says the entry's list, where REF starts, how long REF is, its weight, and for copies 0 and 1 the allele:
-- whether it takes the entry's span, whether its bytes stand in the text of its list or in the reference, from where on, and how many.
-- Assumes nothing: these are definitions.
use Rattle.std.specs.Prelude.{Bool, false, ◌&&◌, List, [], ◌∷◌, ℕ, zero, suc, ◌+◌, ◌≤◌, eqb, length, get_or}
use Rattle.std.specs.Bool.{beq}
use Rattle.bases.specs.Letter.{bases_of}
use Rattle.bases.specs.Pick.{pick}
use Rattle.bases.specs.Stretch.{stretch}
use Rattle.donors.specs.declared.table.Allele.{Allele}
use Rattle.donors.specs.declared.table.Row.{Row}
use Rattle.donors.specs.Choice.{Choice, plus, minus, out, Copy, copy0, copy1, Variant, chosen?, source}

-- The most entries that a table has: the choices of a cluster are twelve values at most.
abbrev pub most : ℕ
most = 12

-- What is read of a table behind its rows.
abbrev pub no_allele : Allele
no_allele = record { room = false; text = false; at = 0; len = 0 }

abbrev pub no_row : Row
no_row = record { first = false; start = 0; len = 0; weight = 0; copy0 = no_allele; copy1 = no_allele }

-- Row i of a table.
abbrev pub row_at : List Row → ℕ → Row
row_at t i = get_or t i no_row

-- What the bases of an allele are a stretch of: its list's text, or the reference, which is the list of its bases.
abbrev pub bases_from : List ℕ → List ℕ → Bool → List ℕ
bases_from reference text own = pick own (bases_of text) reference

-- The bases of an allele.
abbrev pub allele_bases : List ℕ → List ℕ → Allele → List ℕ
allele_bases reference text a = stretch (bases_from reference text a.text) a.at a.len

-- The entry of a row, as matching reads it, with the text of its list.
abbrev pub variant_of : List ℕ → List ℕ → Row → Variant
variant_of reference text r = record {
  side = r.first;
  start = r.start;
  len = r.len;
  weight = r.weight;
  room0 = r.copy0.room;
  allele0 = allele_bases reference text r.copy0;
  room1 = r.copy1.room;
  allele1 = allele_bases reference text r.copy1;
}

-- The entries of the n rows from row i on, each with the text of its list.
unfoldable pub variants_from : List ℕ → List ℕ → List ℕ → List Row → ℕ → ℕ → List Variant
variants_from reference first second t i zero = []
variants_from reference first second t i (suc n) =
    variant_of reference (pick (row_at t i).first first second) (row_at t i) ∷ variants_from reference first second t (i + 1) n

-- The same, all with one text.
unfoldable pub variants_in : List ℕ → List ℕ → List Row → ℕ → ℕ → List Variant
variants_in reference text t i zero = []
variants_in reference text t i (suc n) = variant_of reference text (row_at t i) ∷ variants_in reference text t (i + 1) n

-- The choice that a byte writes: `+`, `-`, and any other byte leaves out.
abbrev pub choice_of : ℕ → Choice
choice_of b = pick (eqb b 43) plus (pick (eqb b 45) minus out)

-- The n choices from place i on.
unfoldable pub choices_from : List ℕ → ℕ → ℕ → List Choice
choices_from φ i zero = []
choices_from φ i (suc n) = choice_of (get_or φ i 0) ∷ choices_from φ (i + 1) n

-- The copy of a number: 0, and any other number is copy 1.
abbrev pub copy_of : ℕ → Copy
copy_of n = pick (eqb n 0) copy0 copy1

-- The allele of a row for a copy, as written.
abbrev pub allele_for : Row → Copy → Allele
allele_for r copy0 = r.copy0
allele_for r copy1 = r.copy1

-- The allele that a chosen entry puts on a copy.
abbrev pub allele_of : Row → Choice → Copy → Allele
allele_of r c h = allele_for r (source c h)

-- The entry of a row takes its span on a copy; and for the donor of list j.
abbrev pub room_at? : Row → Choice → Copy → Bool
room_at? r c h = chosen? c && (allele_of r c h).room

abbrev pub row_takes? : Row → Choice → Bool → Copy → Bool
row_takes? r c j h = beq j r.first && room_at? r c h

-- A row's span lies on the reference, and its alleles, none of which is empty, in its list's text or on the reference.
pub record Sound (reference text : List ℕ) (r : Row) : Type 0 where
  pub span : r.start + r.len ≤ length reference
  pub zero : r.copy0.at + r.copy0.len ≤ length (bases_from reference text r.copy0.text)
  pub one : r.copy1.at + r.copy1.len ≤ length (bases_from reference text r.copy1.text)
  pub some0 : 1 ≤ r.copy0.len
  pub some1 : 1 ≤ r.copy1.len
