-- Asked for an allele, the card copies nothing: allele 0 is shown as a part of the reference, allele 1 or 2 as a part of the list's text.
-- Where that is refused, it shows the empty part at the start of the reference.
-- Assumes nothing: these are definitions.
use Rattle.std.specs.Prelude.{Bool, true, false, ◌||◌, List, [], ◌∷◌, ℕ, ◌+◌, eqb, leb, ltb, length, get_or, Result, Ok, Err}
use Rattle.bases.specs.Pick.{pick}
use Rattle.bases.specs.declared.place.Place.{Place}
use Rattle.bases.specs.Place.{place_of}
use Rattle.vcf.specs.declared.entry.Entry.{Entry}
use Rattle.vcf.specs.declared.entry.Part.{Part}
use Rattle.vcf.specs.Entry.{part, bytes_of, entry_of, entries_of}
use Rattle.card.specs.declared.allele.Stands.{Stands}
use Rattle.card.specs.declared.allele.Stands.TheVariants.{InReference, InText}
use Rattle.card.specs.declared.refusal.Refusal.{Refusal}
use Rattle.card.specs.Refusal.{refusal, no_refusal, check, first_refusal, reference_check, list_check}

-- What stands for an entry where there is none.
abbrev pub no_entry : Entry
no_entry = entry_of [] 0

-- Entry i of a list's text.
abbrev pub entry_number : List ℕ → ℕ → Entry
entry_number text i = get_or (entries_of text) i no_entry

-- Row 18: no such entry in the list, or an allele number above its number of ALTs.
abbrev pub no_allele? : List ℕ → ℕ → ℕ → Bool
no_allele? text i k = leb (length (entries_of text)) i || ltb (entry_number text i).alts k

-- Why allele k of entry i is not shown; four zeros where it is.
abbrev pub allele_refusal : List ℕ → List ℕ → List ℕ → ℕ → ℕ → Refusal
allele_refusal reference name text i k =
    first_refusal (reference_check reference ∷ list_check 1 reference name text ∷ check (no_allele? text i k) (refusal 18 0 0 0) ∷ [])

-- What is shown: a part, of the text or else of the reference; or why it is not, with four zeros where it is.
pub record Shown : Type 0 where
  pub refusal : Refusal
  pub text : Bool
  pub part : Part

-- A part of the reference; a part of the text.
abbrev pub of_reference : Place → ℕ → Shown
of_reference place len = record { refusal = no_refusal; text = false; part = part place.0 len }

abbrev pub of_text : ℕ → ℕ → Shown
of_text at len = record { refusal = no_refusal; text = true; part = part at len }

-- Where allele k of an entry stands.
abbrev pub shown_of : Entry → ℕ → Shown
shown_of e k =
    pick (eqb k 0) (of_reference (place_of e.pos) e.reference.len)
    (pick (eqb k 1) (of_text e.first.at e.first.len) (of_text e.second.at e.second.len))

abbrev pub refused_shown : Refusal → Shown
refused_shown r = record { refusal = r; text = false; part = part 0 0 }

-- Where what the card shows stands, or why it does not.
unfoldable pub shown : List ℕ → List ℕ → List ℕ → ℕ → ℕ → Shown
shown reference name text i k =
    pick (eqb (allele_refusal reference name text i k).number 0) (shown_of (entry_number text i) k)
    (refused_shown (allele_refusal reference name text i k))

-- The same as a Result: where it stands, or why it is not shown.
abbrev pub stands_of : Shown → Result Stands Refusal
stands_of s = pick (eqb s.refusal.number 0) (Ok (pick s.text (InText s.part) (InReference s.part))) (Err s.refusal)

-- The bytes that are shown.
abbrev pub bytes_shown : List ℕ → List ℕ → Shown → List ℕ
bytes_shown reference text s = pick s.text (bytes_of text s.part) (bytes_of reference s.part)

-- Where a part of a slice begins. A pointer is a block of memory and an offset there.
abbrev pub ptr_of : ℕ × ℕ → Part → ℕ × ℕ
ptr_of slice p = (slice.0, p.at + slice.1)

-- Where what is shown begins, by where the reference and the text do: allele 0 in the reference, allele 1 or 2 in the text; where that is
-- refused, at the start of the reference.
abbrev pub ptr_shown : ℕ × ℕ → ℕ × ℕ → Shown → ℕ × ℕ
ptr_shown reference text s = pick s.text (ptr_of text s.part) (ptr_of reference s.part)
