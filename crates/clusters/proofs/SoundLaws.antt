-- The entries of accepted texts.
--     copies_named                     the copies' numbers name alleles that the entry has
--     two_alts                         an entry that has an allele 2 or above has two ALTs
--     ref_allele, first_alt_allele, second_alt_allele
--                                      alleles 0, 1 and 2 are the bases of REF and of the ALTs of the entry's line
--     entry_sound                      what is so of a record's entry, from the rows that do not hold on its line
--     entries_all, entries_sound       of each entry from a place on
--     entries_sorted                   POS is not below that of an entry before
-- Assumes nothing.
use mathlib.Core.Bool.{Bool, true, false, ◌&&◌}
use mathlib.Core.List.{List, [], ◌∷◌}
use mathlib.Core.Path.{◌≡◌, sym, ap, ◌∙◌}
use Prim.Native.Nat.{ℕ, zero, suc, ◌+◌, ◌-◌, ◌≤◌, ◌<◌}
use native.Mathlib.Decide.{dec_lt}
use native.Mathlib.Omega.{arith}
use borrow.Author.Tests.{not-false}
use lib.Dec.{T, eqb, leb, leb→le}
use lib.ListN.{length, take, drop, get_or, length-drop}
use lib.Seq.{length-take-le}
use Rattle.bases.specs.declared.place.Pos.{Pos}
use Rattle.bases.specs.Letter.{bases_of}
use Rattle.bases.proofs.LetterLaws.{bases_length}
use Rattle.bases.proofs.StretchLaws.{stretch_length}
use Rattle.bases.proofs.TestLaws.{of_true, both, neither}
use Rattle.bases.specs.Pick.{pick}
use Rattle.donors.specs.Apart.{All}
use Rattle.vcf.specs.declared.entry.Entry.{Entry}
use Rattle.fields.specs.Allele.{longest_allele, is_allele?, first_alt, two_alts?, second_alt, alt_count}
use Rattle.fields.specs.Bytes.{COMMA, until}
use Rattle.vcf.specs.Entry.{line_at, next_line, entry_of, entries_from}
use Rattle.fields.specs.Field.{field}
use Rattle.fields.specs.Genotype.{digit_to?, separator?, format_wrong?, copies_wrong?, copy0, copy1}
use Rattle.vcf.specs.List.{lines_of}
use Rattle.fields.specs.Pos.{digit?}
use Rattle.records.specs.Record.{pos_on, genotype_on}
use Rattle.vcf.proofs.AcceptedLaws.{Records, RecordsFrom, records_here, records_next}
use Rattle.fields.proofs.BytesLaws.{until_le}
use Rattle.vcf.proofs.EntryLaws.{entries_at, entries_at_lem, entries_past}
use Rattle.vcf.proofs.PartLaws.{first_within, second_within, first_bytes, second_bytes}
use Rattle.fields.proofs.AlleleLaws.{allele_iff}
use Rattle.records.proofs.RecordLineLaws.{RecordLine, record_line, record_order}
use Rattle.clusters.specs.Item.{start_of, allele_of, len_of, Sound}
use Rattle.clusters.proofs.MergedLaws.{SortedBy}

-- the digit's number is at most n
digit_to : (n b : ℕ) → T (digit_to? n b) → b - 48 ≤ n
digit_to n b t = leb→le (b - 48) n ((both (digit? b) (leb (b - 48) n)).0 t).1

copies_to : (n : ℕ) (g : List ℕ) → copies_wrong? n g ≡ false → (copy0 g ≤ n) × (copy1 g ≤ n)
unfolding copies_wrong?
copies_to n g e =
    let d0 = digit_to? n (get_or g 0 0) in
    let s = separator? (get_or g 1 0) in
    let d1 = digit_to? n (get_or g 2 0) in
    let k = ((both (eqb (length g) 3) (d0 && (s && d1))).0 (of_true (not-false (eqb (length g) 3 && (d0 && (s && d1))) e))).1 in
    let m = (both d0 (s && d1)).0 k in
    (digit_to n (get_or g 0 0) m.0, digit_to n (get_or g 2 0) ((both s d1).0 m.1).1)

pub copies_named : (reference l : List ℕ) → RecordLine reference l → (copy0 (genotype_on l) ≤ alt_count (field 4 l)) × (copy1 (genotype_on l) ≤ alt_count (field 4 l))
copies_named reference l line =
    let n = alt_count (field 4 l) in
    copies_to n (genotype_on l) (neither (format_wrong? (field 8 l)) (copies_wrong? n (genotype_on l)) line.genotype).1

allele_size : (x : List ℕ) → T (is_allele? x) → (1 ≤ length x) × (length x ≤ longest_allele)
allele_size x t = let s = (allele_iff x).0 t in (s.0, s.1)

-- a part that ends within is as long as it says
part_size : (t : List ℕ) (at len : ℕ) → at + len ≤ length t → length (bases_of (take len (drop at t))) ≡ len
part_size t at len h = bases_length (take len (drop at t)) ∙ length-take-le len (drop at t) (rw length-drop (omega arith))

-- The line at a is a record's.
module _ (reference t : List ℕ) (a : ℕ) (inside : a < length t) (line : RecordLine reference (line_at t a)) where
  pub two_alts : (k : ℕ) → suc (suc k) ≤ alt_count (field 4 (line_at t a)) → T (two_alts? (field 4 (line_at t a)))
  two_alts k h = go (two_alts? (field 4 (line_at t a))) h
    where
      go : (b : Bool) → suc (suc k) ≤ pick b 2 1 → T b
      go true h = tt
      go false h = absurd (omega arith)

  allele_long : (k : ℕ) → k ≤ alt_count (field 4 (line_at t a)) → length (allele_of reference t (entry_of (line_at t a) a) k) ≡ len_of (entry_of (line_at t a) a) k
  allele_long zero h = stretch_length reference (start_of (entry_of (line_at t a) a)).0 (entry_of (line_at t a) a).reference.len line.within
  allele_long (suc zero) h =
      part_size t (entry_of (line_at t a) a).first.at (entry_of (line_at t a) a).first.len (first_within t a (omega arith) line.ten)
  allele_long (suc (suc k)) h =
      part_size t (entry_of (line_at t a) a).second.at (entry_of (line_at t a) a).second.len (second_within t a (omega arith) line.ten (two_alts k h))

  allele_sized : (k : ℕ) → k ≤ alt_count (field 4 (line_at t a)) → (1 ≤ len_of (entry_of (line_at t a) a) k) × (len_of (entry_of (line_at t a) a) k ≤ longest_allele)
  allele_sized zero h = allele_size (field 3 (line_at t a)) line.ref
  allele_sized (suc zero) h =
      let f = field 4 (line_at t a) in
      let z = allele_size (first_alt f) line.alts.first in
      omega (arith, length-take-le (until COMMA f) f (until_le COMMA f))
  allele_sized (suc (suc k)) h =
      let f = field 4 (line_at t a) in
      let z = allele_size (second_alt f) (line.alts.second (two_alts k h)) in
      omega (arith, length-drop (until COMMA f + 1) f)

  pub ref_allele : allele_of reference t (entry_of (line_at t a) a) 0 ≡ bases_of (field 3 (line_at t a))
  ref_allele = sym line.same

  pub first_alt_allele : allele_of reference t (entry_of (line_at t a) a) 1 ≡ bases_of (first_alt (field 4 (line_at t a)))
  first_alt_allele = ap bases_of (first_bytes t a (omega arith) line.ten)

  pub second_alt_allele : T (two_alts? (field 4 (line_at t a))) → allele_of reference t (entry_of (line_at t a) a) 2 ≡ bases_of (second_alt (field 4 (line_at t a)))
  second_alt_allele h = ap bases_of (second_bytes t a (omega arith) line.ten h)

  pub entry_sound : Sound reference t (entry_of (line_at t a) a)
  entry_sound =
      let r = line_at t a in
      let c = copies_named reference r line in
      record {
        pos = line.pos;
        some = (allele_size (field 3 r) line.ref).0;
        within = line.within;
        short = (allele_size (field 3 r) line.ref).1;
        long0 = allele_long (copy0 (genotype_on r)) c.0;
        long1 = allele_long (copy1 (genotype_on r)) c.1;
        some0 = (allele_sized (copy0 (genotype_on r)) c.0).0;
        some1 = (allele_sized (copy1 (genotype_on r)) c.1).0;
        short0 = (allele_sized (copy0 (genotype_on r)) c.0).1;
        short1 = (allele_sized (copy1 (genotype_on r)) c.1).1;
      }

module _ (reference name t : List ℕ) where
  all_from : (P : Entry → Type 0) → ((a : ℕ) → a < length t → RecordLine reference (line_at t a) → P (entry_of (line_at t a) a))
      → (fuel a : ℕ) → length t - a ≤ fuel → RecordsFrom reference name t a → All P (entries_at t a)
  all_from P f zero a h r = rw (entries_past t a (omega arith)) tt
  all_from P f (suc fuel) a h r = go (dec_lt a (length t)) (all_from P f fuel (next_line t a) (omega arith))
    where
      go : Dec (a < length t) → (RecordsFrom reference name t (next_line t a) → All P (entries_at t (next_line t a))) → All P (entries_at t a)
      go (yes k) i =
          let z = records_here reference name t a r k in
          rw (entries_at_lem t a k) (f a k (record_line reference name r.records r.last (line_at t a) z), i (records_next reference name t a r k))
      go (no k) i = rw (entries_past t a (omega arith)) tt

  pub entries_all : (P : Entry → Type 0) → ((a : ℕ) → a < length t → RecordLine reference (line_at t a) → P (entry_of (line_at t a) a))
      → (a : ℕ) → RecordsFrom reference name t a → All P (entries_at t a)
  entries_all P f a r = all_from P f (length t) a (omega arith) r

  pub entries_sound : (a : ℕ) → RecordsFrom reference name t a → All (Sound reference t) (entries_at t a)
  entries_sound a r = entries_all (Sound reference t) (entry_sound reference t) a r

  entries_above : (records : ℕ) (last : Pos) (a m : ℕ) (ls : List (List ℕ)) → Records reference name records last ls → m ≤ last.0
      → All (λ (e : Entry). m ≤ e.pos.0) (entries_from a ls)
  unfolding entries_from
  entries_above records last a m [] r h = tt
  entries_above records last a m (l ∷ ls) r h =
      let k = record_order reference name records last l r.0 in
      (omega arith, entries_above (records + 1) (pos_on l) (a + length l + 1) m ls r.1 (omega arith))

  lines_sorted : (records : ℕ) (last : Pos) (a : ℕ) (ls : List (List ℕ)) → Records reference name records last ls → SortedBy (λ (e : Entry). e.pos.0) (entries_from a ls)
  unfolding entries_from
  lines_sorted records last a [] r = tt
  lines_sorted records last a (l ∷ ls) r =
      (entries_above (records + 1) (pos_on l) (a + length l + 1) (pos_on l).0 ls r.1 (omega arith), lines_sorted (records + 1) (pos_on l) (a + length l + 1) ls r.1)

  pub entries_sorted : (a : ℕ) → RecordsFrom reference name t a → SortedBy (λ (e : Entry). e.pos.0) (entries_at t a)
  entries_sorted a r = lines_sorted r.records r.last a (lines_of (drop a t)) r.clear
