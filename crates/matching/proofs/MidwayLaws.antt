-- Laws of the search over a table of entries, as the code goes: a choice for the entry at n - left, and then on with one entry fewer left.
--     Went                        the array stands as before, and the best so far is improved by the answer below a choice
--     tried                       an entry that is tried fits, where something can be better
--     made_taken, went_taken      what is carried after the entry is chosen, and what the search from there on gives
--     went_unfit, went_untried    an entry that overlaps is not chosen, nor one where nothing can be better
--     made_less                   what is carried is at least the entry's weight
--     made_skipped, went_skipped, went_unskipped
--                                 the same where the entry is left out
--     search_went                 the three choices tried in turn give the best so far, improved by the answer
-- Assumes nothing.
use mathlib.Core.Bool.{Bool, true, false, ◌&&◌}
use mathlib.Core.List.{List, [], ◌∷◌, ◌++◌}
use mathlib.Core.Path.{◌≡◌, refl, sym, ap, ◌∙◌}
use Prim.Native.Nat.{ℕ, suc, ◌+◌, ◌-◌, ◌≤◌}
use native.Mathlib.Omega.{arith}
use lib.Dec.{T}
use lib.ListN.{length, set, length-append}
use Rattle.bases.proofs.TestLaws.{of_true, both, is_true}
use Rattle.donors.specs.declared.table.Row.{Row}
use Rattle.donors.specs.Choice.{Choice, plus, minus, out, Variant, chosen?, card_rules}
use Rattle.donors.specs.Table.{row_at, choices_from}
use Rattle.matching.specs.Answer.{byte_of, Answer, can_beat?, improved}
use Rattle.matching.specs.BestOf.{keep?}
use Rattle.matching.specs.Card.{card_finite}
use Rattle.matching.specs.Fits.{fits?}
use Rattle.matching.specs.Made.{answer_from, Made}
use Rattle.matching.proofs.AnswerLaws.{choices_length}
use Rattle.matching.proofs.EntryLaws.{entries, entry_at, entries_length, entries_at_lem}
use Rattle.matching.proofs.FitsLaws.{fits_keeps}
use Rattle.matching.proofs.ImprovedLaws.{improved_low}
use Rattle.matching.proofs.MadeLaws.{Carried, made_reads, made_back, made_weight, made_chosen, made_out}
use Rattle.matching.proofs.StepLaws.{below, below_kept, below_dropped, below_most, search_three}

-- the choices made are those of the entries before row n - left
module _ {reference first second : List ℕ} {t : List Row} {choices : List ℕ} {top n left : ℕ} (m : Carried reference first second t choices top n left) (some_left : left ≡ 0 → ⊥) where
  -- the entries that the search is over, and the choices made
  abbrev all : List Variant
  all = entries reference first second t 0 n

  abbrev φ : List Choice
  φ = choices_from choices 0 (n - left)

  many : length φ ≡ n - left
  many = choices_length choices 0 (n - left)

  -- the answer that goes on from the choices made
  abbrev answer : Answer
  answer = answer_from reference all left φ

  abbrev more : Choice → List Choice
  more c = φ ++ (c ∷ [])

  -- the entry at the row, those before it, and those behind it
  abbrev entry : Variant
  entry = entry_at reference first second t (n - left)

  abbrev us : List Variant
  us = entries reference first second t 0 (n - left)

  abbrev vs : List Variant
  vs = entries reference first second t (n - left + 1) (n - (n - left + 1))

  at : all ≡ us ++ (entry ∷ vs)
  at = entries_at_lem reference first second t (n - left) n (omega arith)

  long : length φ ≡ length us
  long = many ∙ sym (entries_length reference first second t 0 (n - left))

  longer : (c : Choice) → length (more c) ≡ n - (left - 1)
  longer c = omega (arith, many, length-append φ (c ∷ []))

  midway : Made (us ++ (entry ∷ vs)) φ choices top
  midway = rw at at m.made

  -- a choice is kept exactly if it fits
  fitting : (c : Choice) (u : Bool) → fits? t choices (n - left) c ≡ u → keep? card_rules card_finite all (more c) ≡ u
  fitting c u f = fits_keeps reference first second t choices n (n - left) (omega arith) m.made.kept c ∙ f

  -- the array with the entry chosen
  abbrev next : Choice → List ℕ
  next c = set choices (n - left) (byte_of c)

  taken : (c : Choice) → T (chosen? c) → fits? t choices (n - left) c ≡ true → Made all (more c) (next c) top
  taken c u f = rw at (made_chosen us entry vs φ long choices top midway c (n - left) u many (omega arith) (rw at at (of_true (fitting c true f))))

  taken_reads : (c : Choice) → T (chosen? c) → fits? t choices (n - left) c ≡ true → choices_from (next c) 0 (n - (left - 1)) ≡ more c
  taken_reads c u f = made_reads all (more c) (next c) top (n - (left - 1)) (taken c u f) (longer c)

  skipped : Made all (more out) choices (top - (row_at t (n - left)).weight)
  skipped = rw at (made_out us entry vs φ long choices top midway (omega (arith, many)) (rw at at (of_true (fitting out true refl))))

  skipped_reads : choices_from choices 0 (n - (left - 1)) ≡ more out
  skipped_reads = made_reads all (more out) choices _ (n - (left - 1)) skipped (longer out)

  -- the answer below a choice
  abbrev answer_below : Choice → Answer
  answer_below c = below reference all (left - 1) φ c

  abbrev pub Went : Choice → Answer → List ℕ → Answer → Type 0
  Went c best now r = (now ≡ choices) × (r ≡ improved best (answer_below c))

  low : (c : Choice) (s : ℕ) (best : Answer) (now : List ℕ) → Made all (more c) now s → can_beat? s best ≡ false → best ≡ improved best (answer_below c)
  low c s best now k f = sym (improved_low s best (answer_below c) f (rw k.counted (below_most reference all (left - 1) φ c)))

  -- the array as it stands now, and the entry chosen
  module _ (now : List ℕ) (same : now ≡ choices) (c : Choice) (u : T (chosen? c)) where
    pub tried : (best : Answer) {v : Bool} → v ≡ can_beat? top best && fits? t now (n - left) c → v ≡ true → T (can_beat? top best) × (true ≡ fits? t now (n - left) c)
    tried best e v = let b = (both (can_beat? top best) (fits? t now (n - left) c)).0 (of_true (sym e ∙ v)) in (b.0, sym (is_true (fits? t now (n - left) c) b.1))

    pub made_taken : {v : Bool} → v ≡ fits? t now (n - left) c → v ≡ true
        → Made all (choices_from (set now (n - left) (byte_of c)) 0 (n - (left - 1))) (set now (n - left) (byte_of c)) top
    made_taken f v = let g : fits? t choices (n - left) c ≡ true = rw same at (sym f ∙ v) in rw (same, taken_reads c u g) (taken c u g)

    pub went_taken : {v : Bool} → v ≡ fits? t now (n - left) c → v ≡ true → (best r : Answer) (then : List ℕ)
        → r ≡ improved best (answer_from reference all (left - 1) (choices_from (set now (n - left) (byte_of c)) 0 (n - (left - 1))))
        → then ≡ set (set now (n - left) (byte_of c)) (n - left) 48 → Went c best then r
    went_taken f v best r then e d =
        let g : fits? t choices (n - left) c ≡ true = rw same at (sym f ∙ v) in (
          d ∙ rw same (made_back all φ choices top (byte_of c) (n - left) m.made many (omega arith)),
          e ∙ rw (same, taken_reads c u g) (ap (improved best) (sym (below_kept reference all (left - 1) φ c (fitting c true g)))),
        )

    -- it is not tried, and all stays as it was
    module _ (best r : Answer) (then : List ℕ) (e : r ≡ best) (d : then ≡ now) where
      pub went_unfit : {v : Bool} → v ≡ fits? t now (n - left) c → v ≡ false → Went c best then r
      went_unfit f v = (d ∙ same, e ∙ sym (ap (improved best) (below_dropped reference all (left - 1) φ c (fitting c false (rw same at (sym f ∙ v))))))

      pub went_untried : {v : Bool} → v ≡ can_beat? top best && fits? t now (n - left) c → v ≡ false → Went c best then r
      went_untried f v = go (can_beat? top best) (fits? t now (n - left) c) refl refl (sym f ∙ v)
        where
          go : (p q : Bool) → can_beat? top best ≡ p → fits? t now (n - left) c ≡ q → p && q ≡ false → Went c best then r
          go p false f g h = went_unfit refl g
          go false true f g h = (d ∙ same, e ∙ low c top best (next c) (taken c u (rw same at g)) f)
          go true true f g h = absurd (let z : ◌≡◌ {A = ℕ} 0 1 = cc in omega arith)

  -- the entry's weight, and the entry left out
  module _ (w : ℕ) (is : w ≡ (row_at t (n - left)).weight) where
    pub made_less : w ≤ top
    made_less = omega (arith, made_weight us entry vs φ long choices top midway)

    module _ (now : List ℕ) (same : now ≡ choices) where
      pub made_skipped : Made all (choices_from now 0 (n - (left - 1))) now (top - w)
      made_skipped = rw (same, is, skipped_reads) skipped

      pub went_skipped : (best r : Answer) → r ≡ improved best (answer_from reference all (left - 1) (choices_from now 0 (n - (left - 1)))) → Went out best now r
      went_skipped best r e = (same, e ∙ rw (same, skipped_reads) (ap (improved best) (sym (below_kept reference all (left - 1) φ out (fitting out true refl)))))

      pub went_unskipped : (best : Answer) {v : Bool} → v ≡ can_beat? (top - w) best → v ≡ false → Went out best now best
      went_unskipped best f v = (same, low out (top - (row_at t (n - left)).weight) best choices skipped (rw is at (sym f ∙ v)))

  pub search_went : (b0 b1 b2 b3 : Answer) (c1 c2 c3 : List ℕ) → Went plus b0 c1 b1 → Went minus b1 c2 b2 → Went out b2 c3 b3 → b3 ≡ improved b0 answer
  search_went b0 b1 b2 b3 c1 c2 c3 w1 w2 w3 =
      let k : suc (left - 1) ≡ left = omega arith in
      w3.1 ∙ rw (w2.1, w1.1) (sym (search_three reference all (left - 1) φ b0)) ∙ ap (λ (k : ℕ). improved b0 (answer_from reference all k φ)) k
