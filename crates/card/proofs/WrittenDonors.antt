-- Demand 2 on a written list, proved.
--     alone_plus, alone_minus, alone_out     the donor of one entry: the reference with its span replaced by the allele that the copy's
--                                            number names, and itself where
--                                that is REF
--     order_all                  what holds of each entry holds of each in the new order
--     Fit, entries_fit           what is so of an accepted list's entries, as far as their donors go
--     fit_donors                 an entry and its normal form: the same donor for each allele that they have
--     demand_2_written           the demand
-- Assumes nothing.
use mathlib.Core.Bool.{Bool, true, false}
use mathlib.Core.List.{List, [], ◌∷◌, ◌++◌, append_assoc}
use mathlib.Core.Path.{◌≡◌, refl, sym, ap, ◌∙◌}
use Prim.Native.Nat.{ℕ, zero, suc, ◌+◌, ◌-◌, ◌≤◌, ◌<◌}
use native.Mathlib.Omega.{arith}
use borrow.Author.Tests.{eq-eqb, eqb-false}
use lib.Dec.{T, eqb, ltb}
use lib.ListN.{length, get_or, take, drop, take-append-drop}
use lib.Seq.{drop-drop}
use Rattle.bases.specs.Letter.{bases_of}
use Rattle.bases.specs.Pick.{pick}
use Rattle.bases.specs.Place.{place_of}
use Rattle.bases.specs.Reference.{is_reference?, Bases}
use Rattle.bases.specs.Stretch.{stretch}
use Rattle.bases.proofs.ReferenceLaws.{reference_bases}
use Rattle.bases.proofs.StretchLaws.{stretch_length}
use Rattle.clusters.specs.Item.{allele_of, takes_room?}
use Rattle.clusters.proofs.SoundLaws.{copies_named, entries_all}
use Rattle.donors.specs.Apart.{All}
use Rattle.donors.specs.Choice.{Copy, plus, minus, out, copy0, copy1, other}
use Rattle.donors.specs.Donor.{Edit, donor_from, donor}
use Rattle.donors.specs.Rules.{put_if, edits}
use Rattle.written.specs.Entries.{Beside, normal_pos, put_entry, put_entries, new_order, InNormalForm}
use Rattle.normal.specs.Form.{alleles, OnReference, donor as donorOn}
use Rattle.normal.specs.Spelled.{form_of}
use Rattle.written.specs.Written.{written_text}
use Rattle.normal.proofs.DonorLaws.{donors_all}
use Rattle.normal.proofs.MemberLaws.{map_at}
use Rattle.written.proofs.WrittenEntries.{written_entries}
use Rattle.written.proofs.WrittenList.{written_accepted, written_twice}
use Rattle.vcf.specs.declared.entry.Entry.{Entry}
use Rattle.fields.specs.Allele.{two_alts?}
use Rattle.vcf.specs.Entry.{line_at, bytes_of, entry_of, records_at, entries_of}
use Rattle.fields.specs.Field.{field}
use Rattle.vcf.specs.List.{judge_text}
use Rattle.vcf.proofs.AcceptedLaws.{accepted_records}
use Rattle.records.proofs.RecordLineLaws.{RecordLine}
use Rattle.card.specs.WrittenDonors.{donor_alone, SameAlone, WrittenSame}

-- Where REF starts; the number of the allele for a copy.
abbrev start : Entry → ℕ
start e = (place_of e.pos).0

abbrev number_of : Entry → Copy → ℕ
number_of e copy0 = e.copy0
number_of e copy1 = e.copy1

alone_is : (R : List ℕ) (e : Edit) → donor R (e ∷ []) ≡ take e.start R ++ e.new ++ drop (e.start + e.len) R
unfolding donor_from
alone_is R e =
    let z : e.start - 0 ≡ e.start = omega arith in
    ap (λ (n : ℕ). take n R ++ (e.new ++ drop (e.start + e.len) R)) z ∙ sym (append_assoc (take e.start R) e.new (drop (e.start + e.len) R))

-- REF put for itself
stretch_whole : (R : List ℕ) (a n : ℕ) → take a R ++ stretch R a n ++ drop (a + n) R ≡ R
stretch_whole R a n = rw (append_assoc (take a R) (take n (drop a R)) (drop (a + n) R), ← drop-drop n a R, take-append-drop n (drop a R)) (take-append-drop a R)

module _ (reference text : List ℕ) (e : Entry) where
  -- The reference with the entry's span replaced by its allele k.
  abbrev replaced : ℕ → List ℕ
  replaced k = take (start e) reference ++ allele_of reference text e k ++ drop (start e + e.reference.len) reference

  one_edit : (k : ℕ) → donor reference (put_if (takes_room? k) (record { start = start e; len = e.reference.len; new = allele_of reference text e k }) []) ≡ replaced k
  unfolding donor_from
  one_edit zero = sym (stretch_whole reference (start e) e.reference.len)
  one_edit (suc k) = alone_is reference (record { start = start e; len = e.reference.len; new = allele_of reference text e (suc k) })

  alone_plus : (side : Bool) (h : Copy) → donor_alone reference text side e plus h ≡ replaced (number_of e h)
  unfolding edits
  alone_plus true copy0 = one_edit e.copy0
  alone_plus true copy1 = one_edit e.copy1
  alone_plus false copy0 = one_edit e.copy0
  alone_plus false copy1 = one_edit e.copy1

  alone_minus : (side : Bool) (h : Copy) → donor_alone reference text side e minus h ≡ replaced (number_of e (other h))
  unfolding edits
  alone_minus true copy0 = one_edit e.copy1
  alone_minus true copy1 = one_edit e.copy0
  alone_minus false copy0 = one_edit e.copy1
  alone_minus false copy1 = one_edit e.copy0

  alone_out : (side : Bool) (h : Copy) → donor_alone reference text side e out h ≡ reference
  unfolding edits donor_from
  alone_out true h = refl
  alone_out false h = refl

module _ (reference text : List ℕ) (P : Entry → Type 0) where
  put_all : (e : Entry) (es : List Entry) → P e → All P es → All P (put_entry reference text e es)
  unfolding put_entry
  put_all e [] h k = (h, tt)
  put_all e (d ∷ ds) h k = go (ltb (normal_pos reference text e).0 (normal_pos reference text d).0) (put_all e ds h k.1)
    where
      go : (u : Bool) → All P (put_entry reference text e ds) → All P (pick u (e ∷ d ∷ ds) (d ∷ put_entry reference text e ds))
      go true s = (h, k)
      go false s = (k.0, s)

  order_all : (done es : List Entry) → All P done → All P es → All P (put_entries reference text done es)
  unfolding put_entries
  order_all done [] h k = h
  order_all done (e ∷ es) h k = order_all (put_entry reference text e done) es (put_all e done k.0 h) k.1

beside_all : (P : Entry → Type 0) (Q R : Entry → Entry → Type 0) → ((e n : Entry) → P e → P n → Q e n → R e n) → (es ns : List Entry) → All P es → All P ns → Beside Q es ns → Beside R es ns
beside_all P Q R f [] [] h k b = tt
beside_all P Q R f [] (n ∷ ns) h k b = absurd b
beside_all P Q R f (e ∷ es) [] h k b = absurd b
beside_all P Q R f (e ∷ es) (n ∷ ns) h k b = (f e n h.0 k.0 b.0, beside_all P Q R f es ns h.1 k.1 b.1)

-- REF lies inside the reference, there are at most two ALTs, and the copies' numbers name alleles.
record Fit (reference : List ℕ) (e : Entry) : Type 0 where
  within : start e + e.reference.len ≤ length reference
  few : e.alts ≤ 2
  named : (h : Copy) → number_of e h ≤ e.alts

two_at_most : (u : Bool) → pick u 2 1 ≤ 2
two_at_most true = omega arith
two_at_most false = omega arith

both_copies : (e : Entry) → e.copy0 ≤ e.alts → e.copy1 ≤ e.alts → (h : Copy) → number_of e h ≤ e.alts
both_copies e a b copy0 = a
both_copies e a b copy1 = b

entries_fit : (reference name t : List ℕ) → (judge_text reference name t).number ≡ 0 → All (Fit reference) (entries_of t)
entries_fit reference name t accepted = entries_all reference name t (Fit reference) one (records_at t) (accepted_records reference name t accepted)
  where
    one : (a : ℕ) → a < length t → RecordLine reference (line_at t a) → Fit reference (entry_of (line_at t a) a)
    one a h line =
        let l = line_at t a in
        let c = copies_named reference l line in
        record { within = line.within; few = two_at_most (two_alts? (field 4 l)); named = both_copies (entry_of l a) c.0 c.1 }

module _ (reference text : List ℕ) (e : Entry) (fit : Fit reference e) where
  ref_long : length (form_of reference text e).ref ≡ e.reference.len
  ref_long = stretch_length reference (start e) e.reference.len fit.within

  fit_on : OnReference reference (form_of reference text e)
  fit_on = (
    omega (arith, ref_long, fit.within),
    ap (λ (k : ℕ). take k (drop (start e) reference)) ref_long,
  )

  allele_at_lem : (k : ℕ) → k ≤ e.alts → allele_of reference text e k ≡ get_or (alleles (form_of reference text e)) k []
  allele_at_lem zero h = refl
  allele_at_lem (suc zero) h = go (eqb e.alts 2)
    where
      go : (u : Bool) → bases_of (bytes_of text e.first) ≡ get_or (pick u (bases_of (bytes_of text e.first) ∷ bases_of (bytes_of text e.second) ∷ []) (bases_of (bytes_of text e.first) ∷ [])) 0 []
      go true = refl
      go false = refl
  allele_at_lem (suc (suc zero)) h = let z : e.alts ≡ 2 = omega (arith, fit.few) in rw (eq-eqb e.alts 2 z)
  allele_at_lem (suc (suc (suc k))) h = absurd (omega (arith, fit.few))

  allele_there : (k : ℕ) → k ≤ e.alts → k < length (alleles (form_of reference text e))
  allele_there k h = go (eqb e.alts 2) refl
    where
      go : (u : Bool) → eqb e.alts 2 ≡ u → k < suc (length (pick u (bases_of (bytes_of text e.first) ∷ bases_of (bytes_of text e.second) ∷ []) (bases_of (bytes_of text e.first) ∷ [])))
      go true d = omega (arith, fit.few)
      go false d = let z = eqb-false e.alts 2 d in omega (arith, fit.few)

module _ (reference t w : List ℕ) (e n : Entry) (fe : Fit reference e) (fn : Fit reference n) (same : InNormalForm reference t w e n) where
  fit_donors : (k : ℕ) → k ≤ e.alts → replaced reference t e k ≡ replaced reference w n k
  fit_donors k h =
      let f = form_of reference t e in
      let g = form_of reference w n in
      let r = reference in
      let all = donors_all r f g (fit_on reference t e fe) (fit_on reference w n fn) same.form.donors in
      let at = map_at (donorOn r f) (donorOn r g) (alleles f) (alleles g) all k (allele_there reference t e fe k h) in
      let a = allele_at_lem reference t e fe k h in
      let b = allele_at_lem reference w n fn k (omega (arith, same.alts)) in
      let x = ref_long reference t e fe in
      let y = ref_long reference w n fn in
      rw (a, b, sym x, sym y) at

  same_number : (h : Copy) → number_of e h ≡ number_of n h
  same_number copy0 = sym same.copy0
  same_number copy1 = sym same.copy1

  copy_donors : (h : Copy) → replaced reference t e (number_of e h) ≡ replaced reference w n (number_of n h)
  copy_donors h = fit_donors (number_of e h) (fe.named h) ∙ ap (replaced reference w n) (same_number h)

  entry_donors : SameAlone reference t w e n
  entry_donors side plus h = alone_plus reference t e side h ∙ copy_donors h ∙ sym (alone_plus reference w n side h)
  entry_donors side minus h = alone_minus reference t e side h ∙ copy_donors (other h) ∙ sym (alone_minus reference w n side h)
  entry_donors side out h = alone_out reference t e side h ∙ sym (alone_out reference w n side h)

written_same : (reference name : List ℕ) → Bases reference → (t : List ℕ) → (judge_text reference name t).number ≡ 0 → WrittenSame reference name t (written_text reference t)
written_same reference name ok t accepted =
    let w = written_text reference t in
    let a = written_accepted reference name ok t accepted in
    let s = written_entries reference name ok t accepted in
    record {
      accepted = a;
      entries = s;
      donors =
          beside_all (Fit reference) (InNormalForm reference t w) (SameAlone reference t w) (entry_donors reference t w) (new_order reference t) (entries_of w)
          (order_all reference t (Fit reference) [] (entries_of t) tt (entries_fit reference name t accepted)) (entries_fit reference name w a) s.each;
      again = written_twice reference name ok t accepted;
    }

pub demand_2_written : (reference name : List ℕ) → T (is_reference? reference) → (t : List ℕ) → (judge_text (bases_of reference) name t).number ≡ 0
    → WrittenSame (bases_of reference) name t (written_text (bases_of reference) t)
demand_2_written reference name ok t accepted = written_same (bases_of reference) name (reference_bases reference ok) t accepted
