-- Laws of the next piece of a walk along the donor of a list on a copy.
--     SoundFor          the rows of a list are sound
--     Ahead             a walk stands well, and a base of its piece is left, or the piece is the last
--     Goes, with_goes   at the next piece, where nothing is left of its own, a walk that stands well has the same donor left, and is ahead
-- Assumes nothing.
use mathlib.Core.Bool.{Bool, true, false}
use mathlib.Core.List.{List, ◌∷◌, ◌++◌}
use mathlib.Core.Logic.{◌⊎◌, inl, inr}
use mathlib.Core.Path.{◌≡◌, refl, sym, ap, subst, ◌∙◌}
use Prim.Native.Nat.{ℕ, ◌+◌, ◌-◌, ◌≤◌, ◌<◌}
use native.Mathlib.Omega.{arith}
use borrow.Author.Tests.{ltb-true, ltb-false, leb-true, leb-false, eqb-true, eqb-false}
use lib.Dec.{eqb, leb, ltb}
use lib.ListN.{length, get_or}
use Rattle.bases.specs.Pick.{pick}
use Rattle.bases.specs.Stretch.{stretch}
use Rattle.bases.proofs.TestLaws.{of_true}
use Rattle.donors.specs.declared.table.Row.{Row}
use Rattle.donors.specs.declared.walk.Along.{Along}
use Rattle.donors.specs.Apart.{Chain}
use Rattle.donors.specs.Choice.{Choice, plus, minus, out, Copy, copy0, copy1}
use Rattle.donors.specs.Donor.{Edit, end, donor_from}
use Rattle.donors.specs.Table.{row_at, bases_from, choice_of, allele_of, room_at?, Sound}
use Rattle.donors.specs.Walk.{takes_row?, next_row, last_piece, piece_before, piece_of, next_piece, with_piece, left_of}
use Rattle.donors.proofs.PartLaws.{rest_split}
use Rattle.donors.proofs.NextLaws.{next_takes}
use Rattle.donors.proofs.RowsLaws.{edits_in, edit_at, edits_taken, edits_past, edits_next}
use Rattle.donors.proofs.StandLaws.{Stands}
use Rattle.donors.proofs.TableLaws.{allele_puts, taken_side}

-- A walk stands well, and a base of its piece is left, or the piece is the last.
pub record Ahead (reference text : List ℕ) (t : List Row) (φ : List ℕ) (j : Bool) (h : Copy) (n : ℕ) (c : Along) : Type 0 where
  pub stands : Stands reference text t φ j h n c
  pub some : (1 ≤ c.len) ⊎ (n < c.row)

-- the row's allele lies in its source, and is not empty
allele_inside : (reference text : List ℕ) (r : Row) (c : Choice) (h : Copy) → Sound reference text r
    → ((allele_of r c h).at + (allele_of r c h).len ≤ length (bases_from reference text (allele_of r c h).text)) × (1 ≤ (allele_of r c h).len)
allele_inside reference text r plus copy0 s = (s.zero, s.some0)
allele_inside reference text r plus copy1 s = (s.one, s.some1)
allele_inside reference text r minus copy0 s = (s.one, s.some1)
allele_inside reference text r minus copy1 s = (s.zero, s.some0)
allele_inside reference text r out copy0 s = (s.zero, s.some0)
allele_inside reference text r out copy1 s = (s.one, s.some1)

-- the donor from a place on, by the next edit
donor_next : (R : List ℕ) (a : ℕ) (e : Edit) (es : List Edit) → e.start ≤ a → donor_from R a (e ∷ es) ≡ e.new ++ donor_from R (end e) es
unfolding donor_from
donor_next R a e es l = let z : e.start - a ≡ 0 = omega arith in rw z

donor_before : (R : List ℕ) (a : ℕ) (e : Edit) (es : List Edit) → donor_from R a (e ∷ es) ≡ stretch R a (e.start - a) ++ donor_from R e.start (e ∷ es)
unfolding donor_from
donor_before R a e es = let z : e.start - e.start ≡ 0 = omega arith in rw z

-- The rows of list j are sound, with this text.
abbrev pub SoundFor : (reference text : List ℕ) → List Row → Bool → ℕ → Type 0
SoundFor reference text t j n = (i : ℕ) → i < n → (row_at t i).first ≡ j → Sound reference text (row_at t i)

module _ (reference text : List ℕ) (t : List Row) (φ : List ℕ) (j : Bool) (h : Copy) (n : ℕ) where
  -- the edits of the rows from row i on
  abbrev rows : ℕ → List Edit
  rows i = edits_in reference text t φ j h i (n - i)

  -- the donor that is left
  abbrev left : Along → List ℕ
  left c = left_of reference text t φ j h n c

  -- the next piece of a walk at place p before row i is x, with the same donor left
  record Leads (p i : ℕ) (x : Along) : Type 0 where
    left : left x ≡ donor_from reference p (rows i)
    ahead : Ahead reference text t φ j h n x

  last_leads : (p i : ℕ) → p ≤ length reference → n ≤ i → Leads p i (last_piece t φ j h n (length reference) p)
  unfolding donor_from
  last_leads p i k l = record {
    left =
        let z = edits_past reference text t φ j h (n + 1) n (omega arith) in
        rw (z, edits_past reference text t φ j h i n l) (sym (rest_split reference p (length reference) k));
    ahead = record {
      stands = record {
        place = omega arith;
        chain = rw (edits_past reference text t φ j h (n + 1) n (omega arith)) tt;
        inside = omega arith;
        last = λ m. (refl, omega arith, refl);
      };
      some = inr (omega arith);
    };
  }

  -- row i takes its span
  module _ (s : SoundFor reference text t j n) (p i : ℕ) (l : i < n) (b : takes_row? t φ j h i ≡ true) (c : Chain p (rows i)) where
    sound : Sound reference text (row_at t i)
    sound = s i l (taken_side j (row_at t i).first (room_at? (row_at t i) (choice_of (get_or φ i 0)) h) (of_true b))

    taken : rows i ≡ edit_at reference text t φ h i ∷ rows (i + 1)
    taken = edits_taken reference text t φ j h i n l b

    split : Chain p (edit_at reference text t φ h i ∷ rows (i + 1))
    split = subst (Chain p) taken c

    before_leads : p < (row_at t i).start → Leads p i (piece_before t φ j h n (length reference) p i)
    before_leads k = record {
      left = rw taken (sym (donor_before reference p (edit_at reference text t φ h i) (rows (i + 1))));
      ahead = record {
        stands = record {
          place = omega (arith, sound.span);
          chain = rw taken (omega arith, split.1);
          inside = omega (arith, sound.span);
          last = λ m. absurd (omega arith);
        };
        some = inl (omega arith);
      };
    }

    of_leads : (row_at t i).start ≤ p → Leads p i (piece_of t φ j h n (length reference) i)
    of_leads k = record {
      left =
          let e = edit_at reference text t φ h i in
          let new = sym (allele_puts reference text (row_at t i) (choice_of (get_or φ i 0)) h) in
          sym (ap (donor_from reference p) taken ∙ donor_next reference p e (rows (i + 1)) (omega arith)
          ∙ ap (λ (x : List ℕ). x ++ donor_from reference (end e) (rows (i + 1))) new);
      ahead = record {
        stands = record {
          place = sound.span;
          chain = split.1;
          inside = (allele_inside reference text (row_at t i) (choice_of (get_or φ i 0)) h sound).0;
          last = λ m. absurd (omega arith);
        };
        some = inl (allele_inside reference text (row_at t i) (choice_of (get_or φ i 0)) h sound).1;
      };
    }

  -- of the next row
  module _ (s : SoundFor reference text t j n) (p i : ℕ) (k : p ≤ length reference) (c : Chain p (rows i)) where
    some_leads : i < n → takes_row? t φ j h i ≡ true → (z : Bool) → ltb p (row_at t i).start ≡ z
        → Leads p i (pick z (piece_before t φ j h n (length reference) p i) (piece_of t φ j h n (length reference) i))
    some_leads l b true e = before_leads s p i l b c (ltb-true p (row_at t i).start e)
    some_leads l b false e = of_leads s p i l b c (ltb-false p (row_at t i).start e)

    piece_leads : (i < n → takes_row? t φ j h i ≡ true) → (z : Bool) → leb n i ≡ z
        → Leads p i (pick z (last_piece t φ j h n (length reference) p)
        (pick (ltb p (row_at t i).start) (piece_before t φ j h n (length reference) p i) (piece_of t φ j h n (length reference) i)))
    piece_leads b true e = last_leads p i k (leb-true n i e)
    piece_leads b false e =
        let l = leb-false n i e in
        some_leads l (b l) (ltb p (row_at t i).start) refl

  next_leads : SoundFor reference text t j n → (c : Along) → Stands reference text t φ j h n c → Leads c.place c.row (next_piece t φ j h n (length reference) c)
  next_leads s c w =
      let r = next_row t φ j h c.row (n - c.row) in
      let x = edits_next reference text t φ j h c.row n in
      let y = piece_leads s c.place r w.place (subst (Chain c.place) x w.chain) (next_takes t φ j h n c.row) (leb n r) refl in
      record { left = y.left ∙ ap (donor_from reference c.place) (sym x); ahead = y.ahead }

  left_empty : (c : Along) → c.len ≡ 0 → left c ≡ donor_from reference c.place (rows c.row)
  left_empty c e = rw e

  -- The same donor is left, and the walk is ahead.
  pub record Goes (c x : Along) : Type 0 where
    pub left : left x ≡ left c
    pub ahead : Ahead reference text t φ j h n x

  pub with_goes : SoundFor reference text t j n → (c : Along) → Stands reference text t φ j h n c → Goes c (with_piece t φ j h n (length reference) c)
  with_goes s c w = go (eqb c.len 0) refl
    where
      go : (b : Bool) → eqb c.len 0 ≡ b → Goes c (pick b (next_piece t φ j h n (length reference) c) c)
      go true e = let x = next_leads s c w in record { left = x.left ∙ sym (left_empty c (eqb-true c.len 0 e)); ahead = x.ahead }
      go false e = let x = eqb-false c.len 0 e in record { left = refl; ahead = record { stands = w; some = inl (omega arith) } }
