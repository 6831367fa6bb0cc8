-- Case. Request b: "Two bases are now equal if they are the same letter in either case, in reference, REF and ALT alike."
-- So references that differ only in case are one reference, and lists whose entries differ only in the case of REF and ALT are one list.
-- Assumes nothing: these are definitions.
use Rattle.std.specs.Prelude.{List, ◌⊎◌, ◌≡◌, ℕ, T}
use Rattle.bases.specs.Letter.{letter_of, is_letter?, bases_of}
use Rattle.vcf.specs.declared.entry.Entry.{Entry}
use Rattle.vcf.specs.Entry.{bytes_of, entries_of}
use Rattle.written.specs.Entries.{Beside}

-- Two runs of bytes differ only in the case of letters: there are as many, and two that stand at one place are equal or one letter.
abbrev pub OnlyCase : List ℕ → List ℕ → Type 0
OnlyCase a b = Beside (λ x y. (x ≡ y) ⊎ (T (is_letter? x) × (letter_of x ≡ letter_of y))) a b

-- The entries e of the text t and d of the text u differ only in the case of REF and ALT.
pub record SameEntry (t u : List ℕ) (e d : Entry) : Type 0 where
  pub pos : e.pos ≡ d.pos
  pub long : e.reference.len ≡ d.reference.len
  pub ref : bases_of (bytes_of t e.reference) ≡ bases_of (bytes_of u d.reference)
  pub first : bases_of (bytes_of t e.first) ≡ bases_of (bytes_of u d.first)
  pub second : bases_of (bytes_of t e.second) ≡ bases_of (bytes_of u d.second)
  pub alts : e.alts ≡ d.alts
  pub copy0 : e.copy0 ≡ d.copy0
  pub copy1 : e.copy1 ≡ d.copy1

-- Two lists whose entries, one by one, differ only so.
abbrev pub SameEntries : List ℕ → List ℕ → Type 0
SameEntries t u = Beside (SameEntry t u) (entries_of t) (entries_of u)
