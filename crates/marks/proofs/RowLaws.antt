-- Laws of entries as rows of the search's table.
--     stand_ref, stand_first, stand_second
--                                   where the bytes of REF, of the first ALT and of the second stand
--     row_is                        a row, from what is read
--     row_variant, row_sound        the row of an entry is the entry, as matching reads it; that of a sound entry is sound
--     row_small                     and its numbers fit into a table, where the reference and the text are no longer than they may be
-- Assumes nothing.
use mathlib.Core.Bool.{Bool, true, false}
use mathlib.Core.List.{List}
use mathlib.Core.Path.{◌≡◌, refl, sym, ap}
use Prim.Native.Nat.{ℕ, zero, suc, ◌+◌, ◌-◌, ◌≤◌}
use native.Mathlib.Omega.{arith}
use lib.ListN.{length, drop, length-take, length-drop}
use Rattle.bases.specs.Pick.{pick}
use Rattle.bases.specs.declared.place.Place.{Place}
use Rattle.bases.specs.Letter.{bases_of}
use Rattle.bases.specs.Place.{place_of}
use Rattle.bases.specs.Reference.{longest_reference}
use Rattle.bases.proofs.LetterLaws.{bases_length, bases_part}
use Rattle.donors.specs.declared.table.Allele.{Allele}
use Rattle.donors.specs.declared.table.Row.{Row}
use Rattle.donors.specs.Table.{bases_from, allele_bases, variant_of, Sound}
use Rattle.vcf.specs.declared.entry.Entry.{Entry}
use Rattle.vcf.specs.declared.entry.Part.{Part}
use Rattle.vcf.specs.Entry.{bytes_of}
use Rattle.vcf.specs.List.{longest_text}
use Rattle.clusters.specs.declared.item.Item.{Item}
use Rattle.clusters.specs.Item.{start_of, allele_of, text_of, variant, len_of}
use Rattle.marks.specs.Row.{stand_of, row_of, SmallEntry}
use Rattle.clusters.proofs.CardClusters.{SoundItem}

-- Bytes in the list's text, of an allele that takes its entry's span: an ALT.
abbrev in_text : Part → Allele
in_text p = record { room = true; text = true; at = p.at; len = p.len }

pub stand_ref : (e : Entry) {s : Place} {k : ℕ} → s ≡ start_of e → k ≡ 0
    → ◌≡◌ {A = Allele} record { room = false; text = false; at = s.0; len = e.reference.len } (stand_of e k)
stand_ref e es ek = rw (es, ek)

pub stand_first : (e : Entry) {k : ℕ} → k ≡ 1 → in_text e.first ≡ stand_of e k
stand_first e ek = rw ek

pub stand_second : (e : Entry) (k : ℕ) → 2 ≤ k → in_text e.second ≡ stand_of e k
stand_second e k h = let n : k ≡ suc (suc (k - 2)) = omega arith in rw n

pub row_is : (i : Item) {p : Place} {a b : Allele} → p ≡ place_of i.entry.pos → a ≡ stand_of i.entry i.entry.copy0 → b ≡ stand_of i.entry i.entry.copy1
    → ◌≡◌ {A = Row} record { first = i.side; start = p.0; len = i.entry.reference.len; weight = 1; copy0 = a; copy1 = b } (row_of i)
row_is i ep ea eb = let e = ap (λ (q : Place). q.0) ep in cc

-- the bases that stand where a row says are the allele's
stand_bases : (reference text : List ℕ) (e : Entry) (k : ℕ) → allele_bases reference text (stand_of e k) ≡ allele_of reference text e k
stand_bases reference text e zero = refl
stand_bases reference text e (suc zero) = sym (bases_part text e.first.at e.first.len)
stand_bases reference text e (suc (suc k)) = sym (bases_part text e.second.at e.second.len)

text_is : (b : Bool) (first second : List ℕ) → pick b first second ≡ text_of b first second
text_is true first second = refl
text_is false first second = refl

-- a part that is not empty and as long as it says ends within
part_within : (t : List ℕ) (p : Part) → length (bases_of (bytes_of t p)) ≡ p.len → 1 ≤ p.len → p.at + p.len ≤ length (bases_of t)
part_within t p e h = omega (arith, bases_length t, bases_length (bytes_of t p), length-take p.len (drop p.at t), length-drop p.at t)

stand_within : (reference text : List ℕ) (e : Entry) (k : ℕ) → (start_of e).0 + e.reference.len ≤ length reference
    → length (allele_of reference text e k) ≡ len_of e k → 1 ≤ len_of e k
    → (stand_of e k).at + (stand_of e k).len ≤ length (bases_from reference text (stand_of e k).text)
stand_within reference text e zero w l s = w
stand_within reference text e (suc zero) w l s = part_within text e.first l s
stand_within reference text e (suc (suc k)) w l s = part_within text e.second l s

from_short : (b : Bool) (text reference : List ℕ) → length text ≤ longest_text → length reference ≤ longest_reference → length (bases_from reference text b) ≤ longest_text
from_short true text reference h l = omega (arith, bases_length text)
from_short false text reference h l = omega arith

text_short : (b : Bool) (first second : List ℕ) → length first ≤ longest_text → length second ≤ longest_text → length (text_of b first second) ≤ longest_text
text_short true first second h l = h
text_short false first second h l = l

module _ (reference first second : List ℕ) (i : Item) where
  pub row_variant : variant_of reference (pick (row_of i).first first second) (row_of i) ≡ variant reference first second i
  row_variant =
      let t = text_of i.side first second in
      let e = i.entry in
      rw (text_is i.side first second, stand_bases reference t e e.copy0, stand_bases reference t e e.copy1)

  module _ (s : SoundItem reference first second i) where
    -- each allele ends within what it stands in
    abbrev Ends : ℕ → Type 0
    Ends k = let a = stand_of i.entry k in a.at + a.len ≤ length (bases_from reference (text_of i.side first second) a.text)

    zero_ends : Ends i.entry.copy0
    zero_ends = stand_within reference (text_of i.side first second) i.entry i.entry.copy0 s.within s.long0 s.some0

    one_ends : Ends i.entry.copy1
    one_ends = stand_within reference (text_of i.side first second) i.entry i.entry.copy1 s.within s.long1 s.some1

    pub row_sound : Sound reference (pick (row_of i).first first second) (row_of i)
    row_sound =
        rw (text_is i.side first second) (record {
          span = s.within;
          zero = zero_ends;
          one = one_ends;
          some0 = s.some0;
          some1 = s.some1;
        })

    pub row_small : length reference ≤ longest_reference → length first ≤ longest_text → length second ≤ longest_text → SmallEntry i
    row_small short short1 short2 =
        let e = i.entry in
        let t = text_of i.side first second in
        let u = text_short i.side first second short1 short2 in
        let p0 = from_short (stand_of e e.copy0).text t reference u short in
        let p1 = from_short (stand_of e e.copy1).text t reference u short in (
          s.pos,
          record {
            start = omega (arith, s.within);
            len = omega (arith, s.within);
            weight = omega arith;
            at0 = omega (arith, zero_ends);
            len0 = omega (arith, zero_ends);
            at1 = omega (arith, one_ends);
            len1 = omega (arith, one_ends);
          },
        )
