-- The normal form of an entry of a list, as numbers: its alleles as runs of the reference and parts of the list's text.
-- Assumes nothing: these are definitions.
use Rattle.std.specs.Prelude.{List, [], ◌∷◌, ◌++◌, ℕ, ◌+◌, ◌-◌, ◌≤◌, eqb, length}
use Rattle.bases.specs.Letter.{bases_of}
use Rattle.bases.specs.Pick.{pick}
use Rattle.bases.specs.Stretch.{stretch}
use Rattle.bases.specs.declared.place.Place.{Place}
use Rattle.bases.specs.Place.{place_of}
use Rattle.vcf.specs.declared.entry.Part.{Part}
use Rattle.vcf.specs.declared.entry.Entry.{Entry}
use Rattle.vcf.specs.Entry.{part, bytes_of, last_alt}
use Rattle.normal.specs.declared.cut.Cuts.{Cuts}
use Rattle.normal.specs.declared.entry.Spelled.{Spelled}
use Rattle.normal.specs.declared.entry.NormalEntry.{NormalEntry}
use Rattle.normal.specs.Form.{Form}
use Rattle.normal.specs.Cut.{shortest, cut_of, trim_of, new_start}

-- An entry with two ALTs.
abbrev pub three : Place → List ℕ → List ℕ → List ℕ → Form
three s a b c = record { start = s; ref = a; alts = b ∷ c ∷ [] }

-- The numbers of the closed form.
abbrev pub cuts_of : List ℕ → Form → Cuts
cuts_of r f =
    record {
      shortest = shortest f.ref f.alts;
      back = cut_of r f;
      front = trim_of f (cut_of r f);
    }

-- How many bases of the reference are taken in before the span.
abbrev pub taken_in : Cuts → ℕ
taken_in c = c.back + 1 - c.shortest

-- What is left of an ALT: of the bases taken in those that are not cut off again, and of its own those behind the ones cut off the front.
abbrev pub spelled : Cuts → Part → Spelled
spelled c p =
    record {
      front = taken_in c - (c.back - p.len);
      own = part (p.at + c.front) (p.len - (c.back + c.front));
    }

-- The place where an entry starts.
abbrev pub start_of : Entry → Place
start_of e = place_of e.pos

-- What an entry spells: REF off the reference, the ALTs off the text.
abbrev pub form_of : List ℕ → List ℕ → Entry → Form
form_of reference text e =
    record {
      start = start_of e;
      ref = stretch reference (start_of e).0 e.reference.len;
      alts =
          pick (eqb e.alts 2)
          (bases_of (bytes_of text e.first) ∷ bases_of (bytes_of text e.second) ∷ [])
          (bases_of (bytes_of text e.first) ∷ []);
    }

-- The part is not empty and stands in the text.
abbrev pub Within : List ℕ → Part → Type 0
Within text p = (1 ≤ p.len) × (p.at + p.len ≤ length text)

-- The entry stands on the reference and in the text, and none of its alleles is empty.
pub record Stands (reference text : List ℕ) (e : Entry) : Type 0 where
  pub pos : 1 ≤ e.pos.0
  pub on : Within reference (part (start_of e).0 e.reference.len)
  pub first : Within text e.first
  pub second : Within text (last_alt e)

-- The normal form of an entry that stands so. Where there is one ALT, the second is as the first.
unfoldable pub normal_entry : List ℕ → List ℕ → Entry → NormalEntry
normal_entry reference text e =
    let f = form_of reference text e in
    let c = cuts_of reference f in
    record {
      start = new_start f c.back c.front;
      span = (start_of e).0 + e.reference.len - c.back - (new_start f c.back c.front).0;
      first = spelled c e.first;
      second = spelled c (last_alt e);
    }

-- The bases of an allele of it, where it starts at p.
abbrev pub bases_spelled : List ℕ → List ℕ → Place → Spelled → List ℕ
bases_spelled reference text p a = stretch reference p.0 a.front ++ bases_of (bytes_of text a.own)

-- Its bases of the reference stand on the reference, and its own in the text.
abbrev pub OnBoth : List ℕ → List ℕ → Place → Spelled → Type 0
OnBoth reference text p a = (p.0 + a.front ≤ length reference) × (a.own.at + a.own.len ≤ length text)

-- What it spells, of an entry with so many ALTs.
abbrev pub form_spelled : List ℕ → List ℕ → ℕ → NormalEntry → Form
form_spelled reference text alts n =
    record {
      start = n.start;
      ref = stretch reference n.start.0 n.span;
      alts =
          pick (eqb alts 2)
          (bases_spelled reference text n.start n.first ∷ bases_spelled reference text n.start n.second ∷ [])
          (bases_spelled reference text n.start n.first ∷ []);
    }
