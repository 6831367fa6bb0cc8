-- An entry as matching reads it.
-- Assumes nothing: these are definitions.
use Rattle.std.specs.Prelude.{Bool, true, false, List, ◌↔◌, ◌≢◌, ◌≡◌, ℕ, zero, suc, ◌+◌, ◌-◌, ◌≤◌, max, min, T, length}
use Rattle.bases.specs.Letter.{bases_of}
use Rattle.bases.specs.declared.place.Place.{Place}
use Rattle.bases.specs.Place.{place_of}
use Rattle.bases.specs.Stretch.{stretch}
use Rattle.donors.specs.Choice.{Variant}
use Rattle.vcf.specs.declared.entry.Entry.{Entry}
use Rattle.fields.specs.Allele.{longest_allele}
use Rattle.vcf.specs.Entry.{bytes_of}
use Rattle.clusters.specs.declared.gap.Size.{Size}
use Rattle.clusters.specs.declared.item.Item.{Item}

-- What an allele number names: 0 REF, 1 the first ALT, 2 the second.
abbrev pub named {ℓ} : {A : Type ℓ} → ℕ → A → A → A → A
named zero ref first second = ref
named (suc zero) ref first second = first
named (suc (suc k)) ref first second = second

-- Where REF starts.
abbrev pub start_of : Entry → Place
start_of e = place_of e.pos

-- The bases of allele k: REF as a stretch of the reference, which is the list of its bases, an ALT as a part of the list's text.
abbrev pub allele_of : List ℕ → List ℕ → Entry → ℕ → List ℕ
allele_of reference text e k =
    named k (stretch reference (start_of e).0 e.reference.len) (bases_of (bytes_of text e.first)) (bases_of (bytes_of text e.second))

-- Allele k takes its entry's span: it is another than REF. Request c: "A reference allele takes no room."
abbrev pub takes_room? : ℕ → Bool
takes_room? zero = false
takes_room? (suc k) = true

-- The entry as matching reads it: its list, where REF starts, how long REF is, its weight, and the alleles that its copies' numbers name.
abbrev pub variant_of : List ℕ → List ℕ → Bool → Entry → Variant
variant_of reference text side e = record {
  side = side;
  start = (start_of e).0;
  len = e.reference.len;
  weight = 1;
  room0 = takes_room? e.copy0;
  allele0 = allele_of reference text e e.copy0;
  room1 = takes_room? e.copy1;
  allele1 = allele_of reference text e e.copy1;
}

-- An entry whose alleles take its span exactly where they spell other bases than REF.
pub record ByBases (reference : List ℕ) (x : Variant) : Type 0 where
  pub zero : T x.room0 ↔ (x.allele0 ≢ stretch reference x.start x.len)
  pub one : T x.room1 ↔ (x.allele1 ≢ stretch reference x.start x.len)

-- The text of the list.
abbrev pub text_of : Bool → List ℕ → List ℕ → List ℕ
text_of true first second = first
text_of false first second = second

-- The same of an entry in merged order.
abbrev pub variant : List ℕ → List ℕ → List ℕ → Item → Variant
variant reference first second i = variant_of reference (text_of i.side first second) i.side i.entry

-- How long allele k is, by the entry's own numbers.
abbrev pub len_of : Entry → ℕ → ℕ
len_of e k = named k e.reference.len e.first.len e.second.len

-- What the gap rule reads of an entry, by the entry's own numbers.
abbrev pub item_size : Item → Size
item_size i =
    let e = i.entry in
    record {
      side = i.side;
      start = start_of e;
      end = record { 0 = (start_of e).0 + e.reference.len };
      shrink = e.reference.len - min (len_of e e.copy0) (len_of e e.copy1);
      grow = max (len_of e e.copy0) (len_of e e.copy1) - e.reference.len;
    }

-- What is so of each entry of an accepted list, as far as a walk leans on it: there is a POS, REF is not empty and lies inside the
-- reference, and the numbers say how long the copies' alleles are, none of which is empty or longer than an allele may be.
pub record Sound (reference text : List ℕ) (e : Entry) : Type 0 where
  pub pos : 1 ≤ e.pos.0
  pub some : 1 ≤ e.reference.len
  pub within : (start_of e).0 + e.reference.len ≤ length reference
  pub short : e.reference.len ≤ longest_allele
  pub long0 : length (allele_of reference text e e.copy0) ≡ len_of e e.copy0
  pub long1 : length (allele_of reference text e e.copy1) ≡ len_of e e.copy1
  pub some0 : 1 ≤ len_of e e.copy0
  pub some1 : 1 ≤ len_of e e.copy1
  pub short0 : len_of e e.copy0 ≤ longest_allele
  pub short1 : len_of e e.copy1 ≤ longest_allele
