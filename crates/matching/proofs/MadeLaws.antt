-- Laws of the search midway: what one more choice does to what is carried.
--     made_none               what is carried at the start
--     made_reads              the choices made are read in the array
--     made_back               a byte written behind them is taken back by a `0`
--     Carried, carried        what is carried, over a table of entries, as the search's contract has it
--     made_weight             the next entry's weight is part of what is carried
--     made_chosen, made_out   what is carried, after the next entry is chosen, and after it is left out
-- Assumes nothing.
use mathlib.Core.Bool.{Bool}
use mathlib.Core.List.{List, [], ◌∷◌, ◌++◌, append-nil}
use mathlib.Core.Path.{◌≡◌, refl, sym, ap, ◌∙◌}
use Prim.Native.Nat.{ℕ, ◌+◌, ◌-◌, ◌≤◌, ◌<◌}
use native.Mathlib.Omega.{arith}
use lib.Dec.{T}
use lib.ListN.{length, drop, set, replicate, length-append}
use lib.Seq.{drop_at, drop-append-add}
use Rattle.donors.specs.declared.table.Row.{Row}
use Rattle.donors.specs.Agree.{Ready}
use Rattle.donors.specs.Choice.{Choice, plus, minus, out, Copy, Variant, chosen?, card_rules}
use Rattle.donors.specs.Rules.{edits}
use Rattle.donors.specs.Table.{most, variants_from, choices_from}
use Rattle.matching.specs.Answer.{byte_of, array_of}
use Rattle.matching.specs.Best.{score}
use Rattle.matching.specs.Card.{counts, card_scoring}
use Rattle.matching.specs.Made.{Kept, Made, weights}
use Rattle.matching.proofs.AnswerLaws.{array_choices, array_more, array_out, array_back}
use Rattle.matching.proofs.CutLaws.{score_append}
use Rattle.matching.proofs.KeepLaws.{keep_words}

edits_none : (j : Bool) (h : Copy) (xs : List Variant) → edits card_rules j h xs [] ≡ []
unfolding edits
edits_none j h [] = refl
edits_none j h (x ∷ xs) = refl

score_none : (xs : List Variant) → score card_scoring xs [] ≡ 0
unfolding score
score_none [] = refl
score_none (x ∷ xs) = refl

pub made_none : (xs : List Variant) → Made xs [] (replicate most 48) (weights xs)
unfolding array_of
made_none xs = record { array = refl; kept = (keep_words xs []).1 (λ j h. rw (edits_none j h xs) tt); counted = omega (arith, score_none xs) }

pub made_reads : (xs : List Variant) (φ : List Choice) (choices : List ℕ) (top n : ℕ) → Made xs φ choices top → length φ ≡ n → choices_from choices 0 n ≡ φ
made_reads xs φ choices top n m e = rw m.array (array_choices φ n e)

pub made_back : (xs : List Variant) (φ : List Choice) (choices : List ℕ) (top b k : ℕ) → Made xs φ choices top → length φ ≡ k → k < most
    → set (set choices k b) k 48 ≡ choices
made_back xs φ choices top b k m e h = rw m.array (array_back φ b k e h)

-- What is carried along, with `left` of the table's n entries left.
pub record Carried (reference first second : List ℕ) (t : List Row) (choices : List ℕ) (top n left : ℕ) : Type 0 where
  pub few : n ≤ most
  pub enough : left ≤ n
  pub made : Made (variants_from reference first second t 0 n) (choices_from choices 0 (n - left)) choices top

-- The search's contract asks for it.
pub carried : {reference first second : List ℕ} {t : List Row} {choices : List ℕ} {top n left : ℕ} {P : Type 0}
    → Ready reference first second t n × (left ≤ n) × Made (variants_from reference first second t 0 n) (choices_from choices 0 (n - left)) choices top × P
    → Carried reference first second t choices top n left
carried p = record { few = p.0.few; enough = p.1; made = p.2 }

counts_all : (x : Variant) (c : Choice) → T (chosen? c) → counts x c ≡ x.weight
counts_all x plus t = refl
counts_all x minus t = refl
counts_all x out t = absurd t

-- φ are the choices of us, and x is the entry behind them
module _ (us : List Variant) (x : Variant) (vs : List Variant) (φ : List Choice) (l : length φ ≡ length us) where
  abbrev xs : List Variant
  xs = us ++ (x ∷ vs)

  score_one : (c : Choice) → score card_scoring xs (φ ++ (c ∷ [])) ≡ score card_scoring xs φ + counts x c
  unfolding score
  score_one c =
      let a = score_append card_scoring us (x ∷ vs) φ (c ∷ []) l in
      let b = score_append card_scoring us (x ∷ vs) φ [] l in
      omega (arith, a, rw (append-nil φ) at b, score_none vs)

  -- the entries left, before and after one more choice
  left_before : weights (drop (length φ) xs) ≡ x.weight + weights vs
  unfolding weights
  left_before = ap weights (drop_at us (x ∷ vs) (length φ) (sym l))

  left_after : (c : Choice) → weights (drop (length (φ ++ (c ∷ []))) xs) ≡ weights vs
  left_after c =
      let e : length (φ ++ (c ∷ [])) ≡ length us + 1 = omega (arith, length-append φ (c ∷ [])) in
      rw e (ap weights (drop-append-add us (x ∷ vs) 1))

  module _ (choices : List ℕ) (top : ℕ) (m : Made xs φ choices top) where
    pub made_weight : x.weight ≤ top
    made_weight = omega (arith, m.counted, left_before)

    pub made_chosen : (c : Choice) (k : ℕ) → T (chosen? c) → length φ ≡ k → k < most → Kept xs (φ ++ (c ∷ [])) → Made xs (φ ++ (c ∷ [])) (set choices k (byte_of c)) top
    made_chosen c k t e h s = record {
      array = rw m.array (array_more φ c k e h);
      kept = s;
      counted = omega (arith, m.counted, score_one c, counts_all x c t, left_before, left_after c);
    }

    pub made_out : length φ < most → Kept xs (φ ++ (out ∷ [])) → Made xs (φ ++ (out ∷ [])) choices (top - x.weight)
    made_out h s = record { array = m.array ∙ array_out φ h; kept = s; counted = omega (arith, m.counted, score_one out, left_before, left_after out) }
