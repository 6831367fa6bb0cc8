-- What a program is given, in one room: the name, the reference file, list 1 and list 2, each behind the one before.
-- Assumes nothing: these are definitions.
use Rattle.std.specs.Prelude.{List, ℕ, ◌+◌, ◌-◌, ◌*◌, ◌≤◌, take, drop}
use Rattle.vcf.specs.List.{longest_text}
use Rattle.records.specs.Record.{longest_line}
use Rattle.files.specs.declared.given.Given.{Given}

-- The room for each: a CHROM is no longer than a line; a file has one byte more than the longest text.
abbrev pub name_room : ℕ
name_room = longest_line

abbrev pub file_room : ℕ
file_room = longest_text + 1

-- The room for the name, a reference file and one list; for two lists.
abbrev pub list_room : ℕ
list_room = name_room + 2 * file_room

abbrev pub lists_room : ℕ
lists_room = list_room + file_room

-- The bytes from a place up to an end.
abbrev pub between : List ℕ → ℕ → ℕ → List ℕ
between room at end = take (end - at) (drop at room)

-- The four parts.
abbrev pub name_in : List ℕ → Given → List ℕ
name_in room g = between room 0 g.name

abbrev pub file_in : List ℕ → Given → List ℕ
file_in room g = between room g.name g.reference

abbrev pub first_in : List ℕ → Given → List ℕ
first_in room g = between room g.reference g.first

abbrev pub second_in : List ℕ → Given → List ℕ
second_in room g = between room g.first g.second

-- They stand one behind another in a room of n bytes, and none is longer than its own.
pub record Laid (g : Given) (n : ℕ) : Type 0 where
  pub name : g.name ≤ name_room
  pub file : (g.name ≤ g.reference) × (g.reference ≤ g.name + file_room)
  pub first : (g.reference ≤ g.first) × (g.first ≤ g.reference + file_room)
  pub second : (g.first ≤ g.second) × (g.second ≤ g.first + file_room)
  pub fits : g.second ≤ n
