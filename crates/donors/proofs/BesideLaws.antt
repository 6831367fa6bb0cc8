-- Laws of two walks side by side, along the donors of list 1 and list 2 on a copy.
--     Beside              both stand well, and the lists have one donor exactly if what is left of the two is equal
--     left_long            how much is left of the two
--     beside_start        at the beginning they are beside each other
--     Onward, beside_next so they are where each is at its next piece, with as much left, and a base of each piece, or it is the last
--     beside_last         both are at their last pieces: they have one donor exactly if they stand at one place
--     beside_none         one has nothing left and the other has: they have not
--     beside_inside, beside_fits
--                         the next m bases of both lie in their sources, and their ends fit a number
--     beside_stop, beside_more
--                         those do not agree: they have not; those agree: the walks may go on behind them
--     beside_less         what is left is less by then
-- Assumes nothing.
use mathlib.Core.Bool.{Bool, true, false, ◌&&◌}
use mathlib.Core.List.{List}
use mathlib.Core.Logic.{◌⊎◌, inl, inr}
use mathlib.Core.Path.{◌≡◌, sym, ap₂, subst, ◌∙◌}
use Prim.Native.Nat.{ℕ, ◌+◌, ◌-◌, ◌≤◌, ◌<◌, min}
use native.Mathlib.Omega.{arith}
use lib.Dec.{eqb}
use lib.ListN.{length}
use Rattle.bases.specs.Pick.{pick}
use Rattle.bases.specs.Same.{agree?, same?}
use Rattle.bases.specs.Stretch.{stretch}
use Rattle.bases.proofs.LetterLaws.{bases_length}
use Rattle.donors.specs.declared.table.Row.{Row}
use Rattle.donors.specs.declared.walk.Along.{Along}
use Rattle.donors.specs.Agree.{Ready, ApartOn, one_donor?}
use Rattle.donors.specs.Apart.{Chain}
use Rattle.donors.specs.Choice.{Copy, card_rules}
use Rattle.donors.specs.Donor.{Edit, donor}
use Rattle.donors.specs.Rules.{list1, list2, edits}
use Rattle.donors.specs.Table.{row_at, bases_from, variants_from, choices_from, Sound}
use Rattle.donors.specs.Walk.{beginning, passed, with_piece, left_of}
use Rattle.donors.proofs.AlikeLaws.{same_pieces, same_rests, same_longer}
use Rattle.donors.proofs.RowsLaws.{edits_in, edits_own}
use Rattle.donors.proofs.StandLaws.{Stands, piece_length, left_passed, passed_length, stands_passed, left_last, left_some, left_none}
use Rattle.donors.proofs.WalkLaws.{SoundFor, Goes, with_goes}

-- Both walks stand well, and what is left of the two is equal exactly if the lists have one donor.
pub record Beside (reference first second : List ℕ) (t : List Row) (φ : List ℕ) (h : Copy) (n : ℕ) (a b : Along) : Type 0 where
  pub one : Stands reference first t φ list1 h n a
  pub two : Stands reference second t φ list2 h n b
  pub same : one_donor? reference first second t φ h n ≡ same? (left_of reference first t φ list1 h n a) (left_of reference second t φ list2 h n b)

-- How much is left of the two.
abbrev pub left_long : (reference first second : List ℕ) (t : List Row) (φ : List ℕ) → Copy → ℕ → Along → Along → ℕ
left_long reference first second t φ h n a b = length (left_of reference first t φ list1 h n a) + length (left_of reference second t φ list2 h n b)

-- From walks a and b at the next piece of each, x and y: as much is left, and a base of each piece, or it is the last.
pub record Onward (reference first second : List ℕ) (t : List Row) (φ : List ℕ) (h : Copy) (n : ℕ) (a b x y : Along) : Type 0 where
  pub beside : Beside reference first second t φ h n x y
  pub some1 : (1 ≤ x.len) ⊎ (n < x.row)
  pub some2 : (1 ≤ y.len) ⊎ (n < y.row)
  pub long : left_long reference first second t φ h n x y ≡ left_long reference first second t φ h n a b

-- what a table that is ready says of the rows of a list
sound : (reference first second : List ℕ) (t : List Row) (n : ℕ) → Ready reference first second t n → (j : Bool) → SoundFor reference (pick j first second) t j n
sound reference first second t n r j i l e = subst (λ (s : Bool). Sound reference (pick s first second) (row_at t i)) e (r.sound i l)

-- a piece lies in a text or on the reference
fits_from : (reference text : List ℕ) (own : Bool) (w : ℕ) → length reference < w → length text < w → length (bases_from reference text own) < w
fits_from reference text true w r p = rw (bases_length text) p
fits_from reference text false w r p = r

module _ (reference first second : List ℕ) (t : List Row) (φ : List ℕ) (h : Copy) (n : ℕ) where
  -- a list's edits, with its own text
  own : (j : Bool) → edits card_rules j h (variants_from reference first second t 0 n) (choices_from φ 0 n) ≡ edits_in reference (pick j first second) t φ j h 0 (n - 0)
  own j = let e : n - 0 ≡ n = omega arith in rw e (edits_own reference first second t j h (choices_from φ 0 n) 0 n)

  stands_start : ApartOn reference first second t φ h n → (j : Bool) → Stands reference (pick j first second) t φ j h n beginning
  stands_start p j = record { place = omega arith; chain = subst (Chain 0) (own j) (p j); inside = omega arith; last = λ l. absurd (omega arith) }

module _ {reference first second : List ℕ} {t : List Row} {φ : List ℕ} {h : Copy} {n : ℕ} where
  pub beside_start : ApartOn reference first second t φ h n → Beside reference first second t φ h n beginning beginning
  beside_start p = record {
    one = stands_start reference first second t φ h n p list1;
    two = stands_start reference first second t φ h n p list2;
    same = ap₂ (λ (x y : List Edit). same? (donor reference x) (donor reference y))
        (own reference first second t φ h n list1) (own reference first second t φ h n list2);
  }

  pub beside_next : {size : ℕ} {a b x y : Along} → size ≡ length reference → Ready reference first second t n → Beside reference first second t φ h n a b
      → x ≡ with_piece t φ list1 h n size a → y ≡ with_piece t φ list2 h n size b → Onward reference first second t φ h n a b x y
  beside_next {size} {a} {b} z r w e f =
      let u = subst (Goes reference first t φ list1 h n a) (sym (rw z at e)) (with_goes reference first t φ list1 h n (sound reference first second t n r list1) a w.one) in
      let v = subst (Goes reference second t φ list2 h n b) (sym (rw z at f)) (with_goes reference second t φ list2 h n (sound reference first second t n r list2) b w.two) in
      record {
        beside = record { one = u.ahead.stands; two = v.ahead.stands; same = w.same ∙ sym (ap₂ same? u.left v.left) };
        some1 = u.ahead.some;
        some2 = v.ahead.some;
        long = ap₂ (λ (p q : List ℕ). length p + length q) u.left v.left;
      }

  -- at the next piece of each
  module _ {a b x y : Along} (o : Onward reference first second t φ h n a b x y) where
    one : Stands reference first t φ list1 h n x
    one = o.beside.one

    two : Stands reference second t φ list2 h n y
    two = o.beside.two

    pub beside_last : n < x.row → n < y.row → eqb x.at y.at ≡ one_donor? reference first second t φ h n
    beside_last k l =
        let u = one.last k in
        let v = two.last l in
        let f = same_rests reference x.at y.at (omega arith) (omega arith) in
        sym (o.beside.same ∙ ap₂ same? (left_last reference first t φ list1 h n x one k) (left_last reference second t φ list2 h n y two l) ∙ f)

    -- the next m bases of both
    module _ {m : ℕ} (k : m ≡ min x.len y.len) where
      pub beside_none : ((n < x.row) × (y.row ≤ n)) ⊎ (x.row ≤ n) → m ≡ 0 → one_donor? reference first second t φ h n ≡ false
      beside_none e z = o.beside.same ∙ same_longer (left_of reference first t φ list1 h n x) (left_of reference second t φ list2 h n y) (go o.some1 o.some2)
        where
          go : (1 ≤ x.len) ⊎ (n < x.row) → (1 ≤ y.len) ⊎ (n < y.row)
              → length (left_of reference first t φ list1 h n x) ≡ length (left_of reference second t φ list2 h n y) → ⊥
          go (inl p) (inl q) f = omega arith
          go (inl p) (inr q) f = omega (arith, left_some reference first t φ list1 h n x one p, left_none reference second t φ list2 h n y two q (omega arith))
          go (inr p) (inl q) f = omega (arith, left_none reference first t φ list1 h n x one p (omega arith), left_some reference second t φ list2 h n y two q)
          go (inr p) (inr q) f = not_both e
            where
              not_both : ((n < x.row) × (y.row ≤ n)) ⊎ (x.row ≤ n) → ⊥
              not_both (inl u) = omega (arith, u.1)
              not_both (inr u) = omega arith

      pub beside_inside : (x.at + m ≤ length (bases_from reference first x.text)) × (y.at + m ≤ length (bases_from reference second y.text))
      beside_inside = (omega (arith, one.inside), omega (arith, two.inside))

      pub beside_fits : (w : ℕ) → length reference < w → length first < w → length second < w → ((m ≤ x.len) × (x.at + m < w)) × ((m ≤ y.len) × (y.at + m < w))
      beside_fits w r p q =
          let u = fits_from reference first x.text w r p in
          let v = fits_from reference second y.text w r q in
          let i = beside_inside in
          ((omega arith, omega arith), (omega arith, omega arith))

      -- the lists have one donor exactly if those agree and what is left behind them is equal
      piece : one_donor? reference first second t φ h n
          ≡ agree? (stretch (bases_from reference first x.text) x.at m) (stretch (bases_from reference second y.text) y.at m)
          && same? (left_of reference first t φ list1 h n (passed x m)) (left_of reference second t φ list2 h n (passed y m))
      piece =
          let l : m ≤ x.len = omega arith in
          let r : m ≤ y.len = omega arith in
          o.beside.same
          ∙ ap₂ same? (left_passed reference first t φ list1 h n x one m l) (left_passed reference second t φ list2 h n y two m r)
          ∙ same_pieces _ _ _ _ (piece_length reference first t φ list1 h n x one m l ∙ sym (piece_length reference second t φ list2 h n y two m r))

      pub beside_stop : {s : Bool}
          → s ≡ agree? (stretch (bases_from reference first x.text) x.at m) (stretch (bases_from reference second y.text) y.at m)
          → s ≡ false → one_donor? reference first second t φ h n ≡ false
      beside_stop u z = piece ∙ rw (sym u ∙ z)

      -- the walks behind them
      module _ {a' b' : Along} (e : a' ≡ passed x m) (f : b' ≡ passed y m) where
        pub beside_more : {s : Bool}
            → s ≡ agree? (stretch (bases_from reference first x.text) x.at m) (stretch (bases_from reference second y.text) y.at m)
            → s ≡ true → Beside reference first second t φ h n a' b'
        beside_more u z = rw (e, f) record {
          one = stands_passed reference first t φ list1 h n x one m (omega arith);
          two = stands_passed reference second t φ list2 h n y two m (omega arith);
          same = piece ∙ rw (sym u ∙ z);
        }

        pub beside_less : (m ≡ 0 → ⊥) → left_long reference first second t φ h n a' b' < left_long reference first second t φ h n a b
        beside_less z =
            let u = passed_length reference first t φ list1 h n x one m (omega arith) in
            let v = passed_length reference second t φ list2 h n y two m (omega arith) in
            rw (e, f) (omega (arith, o.long))
