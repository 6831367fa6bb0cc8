-- Laws of the search with no entry left.
--     made_apart                  the choices made do not overlap
--     search_found, search_none   they are the answer where both copies have one donor; where one has not, the best so far is
-- Assumes nothing.
use Rattle.std.specs.Prelude.{Some}
use mathlib.Core.Bool.{Bool, true, false, cond}
use mathlib.Core.List.{List, []}
use mathlib.Core.Option.{none, some}
use mathlib.Core.Path.{◌≡◌, sym, ap, ap₂, ◌∙◌}
use Prim.Native.Nat.{ℕ, ◌-◌, ◌≤◌}
use native.Mathlib.Omega.{arith}
use lib.Dec.{T}
use lib.ListN.{length, drop, drop_of_length-le}
use Rattle.donors.specs.declared.table.Row.{Row}
use Rattle.donors.specs.Agree.{ApartOn, one_donor?}
use Rattle.donors.specs.Choice.{Choice, Copy, copy0, copy1, Variant}
use Rattle.donors.specs.Table.{choices_from}
use Rattle.matching.specs.declared.answer.Best.{Best}
use Rattle.matching.specs.Answer.{Answer, answer_of, can_beat?, improved}
use Rattle.matching.specs.Best.{score}
use Rattle.matching.specs.Card.{card_scoring}
use Rattle.matching.specs.Made.{Kept, card_legal?, answer_from, weights}
use Rattle.matching.proofs.AnswerLaws.{choices_length}
use Rattle.matching.proofs.EntryLaws.{entries, entries_length, legal_not, legal_all}
use Rattle.matching.proofs.KeepLaws.{keep_words}
use Rattle.matching.proofs.ImprovedLaws.{improved_by}
use Rattle.matching.proofs.MadeLaws.{Carried}
use Rattle.matching.proofs.StepLaws.{search_stop}

module _ {reference first second : List ℕ} {t : List Row} {choices : List ℕ} {top n left : ℕ} (m : Carried reference first second t choices top n left) (none_left : left ≡ 0) where
  -- the entries that the search is over, the choices made, and the answer that goes on from them
  abbrev all : List Variant
  all = entries reference first second t 0 n

  abbrev φ : List Choice
  φ = choices_from choices 0 (n - left)

  abbrev answer : Answer
  answer = answer_from reference all left φ

  whole : n - left ≡ n
  whole = omega arith

  made_all : Kept all (choices_from choices 0 n)
  made_all = rw whole at m.made.kept

  pub made_apart : (h : Copy) → ApartOn reference first second t choices h n
  made_apart h j = (keep_words all (choices_from choices 0 n)).0 made_all j h

  stop : (u : Bool) → card_legal? reference all (choices_from choices 0 n) ≡ u → answer ≡ answer_of all (cond u (some φ) none)
  stop u h =
      ap (λ (k : ℕ). answer_from reference all k φ) none_left ∙ ap (answer_of all) (search_stop reference all φ)
      ∙ ap (λ (v : Bool). answer_of all (cond v (some φ) none)) (ap (λ (k : ℕ). card_legal? reference all (choices_from choices 0 k)) whole ∙ h)

  counted : top ≡ score card_scoring all φ
  unfolding weights
  counted =
      let h : length all ≤ length φ = omega (arith, choices_length choices 0 (n - left), entries_length reference first second t 0 n) in
      let e : drop (length φ) all ≡ [] = drop_of_length-le all h in
      omega (arith, m.made.counted, ap weights e)

  -- the tests of copies 0 and 1, as they came out
  pub search_found : (best : Answer) → T (can_beat? top best) → {u v : Bool} → u ≡ one_donor? reference first second t choices copy0 n → u ≡ true
      → v ≡ one_donor? reference first second t choices copy1 n → v ≡ true → Some (record { score = top; choices = choices }) ≡ improved best answer
  search_found best b e u f v =
      let a : Best = record { score = top; choices = choices } in
      let these : answer ≡ Some a = stop true (legal_all reference first second t choices n made_all (sym e ∙ u) (sym f ∙ v))
      ∙ sym (ap₂ (λ (w : ℕ) (c : List ℕ). Some (record { score = w; choices = c })) counted m.made.array) in
      sym (ap (improved best) these ∙ improved_by best a b)

  pub search_none : (best : Answer) (h : Copy) {v : Bool} → v ≡ one_donor? reference first second t choices h n → v ≡ false → best ≡ improved best answer
  search_none best h e v = sym (ap (improved best) (stop false (legal_not reference first second t choices n made_all h (sym e ∙ v))))
