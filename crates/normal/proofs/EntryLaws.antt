-- Laws of an entry that stands on the reference and in the text, and of what is cut off it.
--     part_length     the length of a part of a text
--     twin_cuts       an ALT that stands twice changes nothing
--     entry_three     what is cut off an entry, by REF, the first ALT and the last
--     entry_cuts_are  the same, by where it starts and the bytes that are read
--     Bounds, bounds  how much that is at most
--     spelled_is      what is left of an ALT, from its numbers
--     normal_entry_of the normal form of an entry, from its numbers
-- Assumes nothing.
use mathlib.Core.Bool.{Bool, true, false, ◌&&◌}
use mathlib.Core.List.{List, [], ◌∷◌}
use mathlib.Core.Path.{◌≡◌, refl, sym, ap, ◌∙◌}
use Prim.Native.Nat.{ℕ, zero, suc, ◌+◌, ◌-◌, ◌≤◌, min}
use native.Mathlib.Omega.{arith}
use lib.Dec.{eqb}
use lib.ListN.{length, get_or, drop, length-drop}
use lib.Seq.{length-take-le}
use Rattle.bases.specs.declared.place.Place.{Place}
use Rattle.bases.specs.Letter.{bases_of}
use Rattle.bases.specs.Pick.{pick}
use Rattle.bases.specs.Stretch.{stretch}
use Rattle.vcf.specs.declared.entry.Part.{Part}
use Rattle.vcf.specs.declared.entry.Entry.{Entry}
use Rattle.vcf.specs.Entry.{part, bytes_of, last_alt}
use Rattle.normal.specs.declared.cut.Cuts.{Cuts}
use Rattle.normal.specs.declared.entry.Spelled.{Spelled}
use Rattle.normal.specs.Form.{Form}
use Rattle.normal.specs.Cut.{run, all?, shortest, back_at, back_alike?, front_alike?, cut_of, trim_of}
use Rattle.normal.specs.Spelled.{three, cuts_of, taken_in, spelled, start_of, form_of, Within, Stands, normal_entry}
use Rattle.normal.proofs.AlikeLaws.{three_shortest}
use Rattle.normal.proofs.RunLaws.{run_le}

pub part_length : (text : List ℕ) (p : Part) → Within text p → length (bytes_of text p) ≡ p.len
part_length text p w = length-take-le p.len (drop p.at text) (rw length-drop (omega arith))

run_same : (t u : ℕ → Bool) (n : ℕ) → ((k : ℕ) → t k ≡ u k) → run t n ≡ run u n
unfolding run
run_same t u zero h = refl
run_same t u (suc n) h = rw (h 0, run_same (λ k. t (suc k)) (λ k. u (suc k)) n (λ k. h (suc k)))

twin_all : (t : List ℕ → Bool) (b : List ℕ) → all? t (b ∷ b ∷ []) ≡ all? t (b ∷ [])
unfolding all?
twin_all t b = go (t b)
  where
    go : (x : Bool) → (x && (x && true)) ≡ (x && true)
    go true = refl
    go false = refl

twin_shortest : (a b : List ℕ) → shortest a (b ∷ b ∷ []) ≡ shortest a (b ∷ [])
unfolding shortest
twin_shortest a b = omega arith

-- An entry with one ALT.
abbrev pub two : Place → List ℕ → List ℕ → Form
two s a b = record { start = s; ref = a; alts = b ∷ [] }

pub twin_cuts : (r : List ℕ) (s : Place) (a b : List ℕ) → cuts_of r (three s a b b) ≡ cuts_of r (two s a b)
twin_cuts r s a b =
    let m = twin_shortest a b in
    let q : cut_of r (three s a b b) ≡ cut_of r (two s a b) =
    run_same (back_alike? r (three s a b b)) (back_alike? r (two s a b)) (s.0 + shortest a (b ∷ b ∷ []) - 1) (λ k. twin_all (λ x. eqb (back_at r s.0 k x) (back_at r s.0 k a)) b)
    ∙ ap (λ (n : ℕ). run (back_alike? r (two s a b)) (s.0 + n - 1)) m in
    let t : trim_of (three s a b b) (cut_of r (three s a b b)) ≡ trim_of (two s a b) (cut_of r (two s a b)) =
    run_same (front_alike? (three s a b b)) (front_alike? (two s a b)) (shortest a (b ∷ b ∷ []) - (cut_of r (three s a b b) + 1)) (λ k. twin_all (λ x. eqb (get_or x k 0) (get_or a k 0)) b)
    ∙ ap (λ (n : ℕ). run (front_alike? (two s a b)) (n - (cut_of r (three s a b b) + 1))) m
    ∙ ap (λ (n : ℕ). run (front_alike? (two s a b)) (shortest a (b ∷ []) - (n + 1))) q in
    cc

last_three : (r : List ℕ) (s : Place) (a text : List ℕ) (p q : Part) (t : Bool) → cuts_of r (three s a (bases_of (bytes_of text p)) (bases_of (bytes_of text (pick t q p))))
    ≡ cuts_of r (record { start = s; ref = a; alts = pick t (bases_of (bytes_of text p) ∷ bases_of (bytes_of text q) ∷ []) (bases_of (bytes_of text p) ∷ []) })
last_three r s a text p q true = refl
last_three r s a text p q false = twin_cuts r s a (bases_of (bytes_of text p))

-- REF of an entry, off the reference.
abbrev pub ref_of : List ℕ → Entry → List ℕ
ref_of reference e = stretch reference (start_of e).0 e.reference.len

pub entry_three : (reference text : List ℕ) (e : Entry)
    → cuts_of reference (three (start_of e) (ref_of reference e) (bases_of (bytes_of text e.first)) (bases_of (bytes_of text (last_alt e))))
    ≡ cuts_of reference (form_of reference text e)
entry_three reference text e =
    last_three reference (start_of e) (ref_of reference e) text e.first e.second (eqb e.alts 2)

pub entry_cuts_are : (reference text : List ℕ) (e : Entry) {s : Place} {b c : List ℕ} {l : Part} {k : Cuts} → s ≡ start_of e
    → b ≡ bytes_of text e.first → l ≡ last_alt e → c ≡ bytes_of text l
    → k ≡ cuts_of reference (three s (stretch reference s.0 e.reference.len) (bases_of b) (bases_of c)) → k ≡ cuts_of reference (form_of reference text e)
entry_cuts_are reference text e es eb el ec ek = let t = entry_three reference text e in cc

-- How much is cut off an entry at most.
pub record Bounds (k : Cuts) (e : Entry) : Type 0 where
  pub some : 1 ≤ k.shortest
  pub ref : k.shortest ≤ e.reference.len
  pub first : k.shortest ≤ e.first.len
  pub second : k.shortest ≤ (last_alt e).len
  pub back : k.back ≤ (start_of e).0 + k.shortest - 1
  pub front : k.front ≤ k.shortest - (k.back + 1)

pub bounds : (reference text : List ℕ) (e : Entry) → Stands reference text e → (k : Cuts) → k ≡ cuts_of reference (form_of reference text e) → Bounds k e
bounds reference text e st k h =
    let f = form_of reference text e in
    let m : k.shortest ≡ shortest f.ref f.alts = ap (λ (z : Cuts). z.shortest) h in
    let q : k.back ≡ cut_of reference f = ap (λ (z : Cuts). z.back) h in
    let t : k.front ≡ trim_of f (cut_of reference f) = ap (λ (z : Cuts). z.front) h in
    let least : k.shortest ≡ min (length (bytes_of text e.first)) (min (length (bytes_of text (last_alt e))) (length (ref_of reference e))) =
    m ∙ ap (λ (z : Cuts). z.shortest) (sym (entry_three reference text e)) ∙ three_shortest (ref_of reference e) (bytes_of text e.first) (bytes_of text (last_alt e)) in
    let a = part_length reference (part (start_of e).0 e.reference.len) st.on in
    let b = part_length text e.first st.first in
    let d = part_length text (last_alt e) st.second in
    record {
      some = omega arith;
      ref = omega arith;
      first = omega arith;
      second = omega arith;
      back = omega (arith, run_le (back_alike? reference f) ((start_of e).0 + shortest f.ref f.alts - 1));
      front = omega (arith, run_le (front_alike? f) (shortest f.ref f.alts - (cut_of reference f + 1)));
    }

pub spelled_is : (k : Cuts) (p : Part) {front at len : ℕ} → front ≡ taken_in k - (k.back - p.len) → at ≡ p.at + k.front → len ≡ p.len - (k.back + k.front)
    → ◌≡◌ {A = Spelled} record { front = front; own = part at len } (spelled k p)
spelled_is k p ef ea el = cc

pub normal_entry_of : (reference text : List ℕ) (e : Entry) (s : Place) (k : Cuts) (g : ℕ) (a b : Spelled) → s ≡ start_of e → k ≡ cuts_of reference (form_of reference text e) → g ≡ taken_in k
    → a ≡ spelled k e.first → b ≡ spelled k (last_alt e)
    → record { start = record { 0 = s.0 + k.front - g }; span = s.0 + e.reference.len - k.back - (s.0 + k.front - g); first = a; second = b } ≡ normal_entry reference text e
unfolding normal_entry
normal_entry_of reference text e s k g a b hs hk hg ha hb = cc
