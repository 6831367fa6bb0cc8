-- What a table must be for the search, as a test.
-- Assumes nothing: these are definitions.
use Rattle.std.specs.Prelude.{Bool, true, ◌&&◌, List, ℕ, zero, suc, ◌-◌, leb, length}
use Rattle.bases.specs.Pick.{pick}
use Rattle.donors.specs.declared.table.Allele.{Allele}
use Rattle.donors.specs.declared.table.Row.{Row}
use Rattle.donors.specs.Table.{most, row_at, bases_from}

-- So many bases from a place on lie in a size.
abbrev pub within? : ℕ → ℕ → ℕ → Bool
within? at len size = leb at size && leb len (size - at)

-- An allele is some bases of the text, or of the reference, which is the list of its bases.
abbrev pub stands? : List ℕ → List ℕ → Allele → Bool
stands? reference text a = leb 1 a.len && within? a.at a.len (length (bases_from reference text a.text))

-- A row is sound, with the text of its list.
abbrev pub sound? : List ℕ → List ℕ → Row → Bool
sound? reference text r =
    within? r.start r.len (length reference) && (stands? reference text r.copy0 && stands? reference text r.copy1)

-- Row i is sound.
abbrev pub sound_row? : List ℕ → List ℕ → List ℕ → List Row → ℕ → Bool
sound_row? reference first second t i = sound? reference (pick (row_at t i).first first second) (row_at t i)

-- The first n rows are.
unfoldable pub sound_rows? : List ℕ → List ℕ → List ℕ → List Row → ℕ → Bool
sound_rows? reference first second t zero = true
sound_rows? reference first second t (suc n) = sound_rows? reference first second t n && sound_row? reference first second t n

-- The first n rows are all that the search asks for.
abbrev pub ready? : List ℕ → List ℕ → List ℕ → List Row → ℕ → Bool
ready? reference first second t n = leb n most && sound_rows? reference first second t n
