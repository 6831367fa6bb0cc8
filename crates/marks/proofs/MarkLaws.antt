-- Laws of a cluster's marks.
--     best_long                   the best pair has one choice an entry
--     marks_length, chosen_few, score_few
--                                 one mark an entry; no more entries are chosen than there are, where each counts 1
--     marks_many, marks_few       the marks and what is told of a cluster that is undecided, and of one that is decided
--     next_long, next_plain       the next n entries: there are n, each of which counts 1
--     next_small, next_ready      their numbers fit into a table, and the search may read that
--     next_undecided, next_decided
--                                 they are marked as a cluster, in the form that the code has: e is what the marks d became
-- Assumes nothing.
use mathlib.Core.Bool.{Bool, true, false}
use mathlib.Core.List.{List, [], ◌∷◌, map}
use mathlib.Core.Path.{◌≡◌, refl, sym, ap, ◌∙◌}
use Prim.Native.Nat.{ℕ, ◌≤◌, ◌<◌}
use native.Mathlib.Omega.{arith}
use borrow.Author.Tests.{le-leb, lt-leb}
use lib.ListN.{length, take, replicate, length-replicate}
use lib.Seq.{length-take-le, take_at}
use Rattle.bases.specs.Pick.{pick}
use Rattle.bases.specs.Put.{put}
use Rattle.donors.specs.Agree as agree
use Rattle.donors.specs.declared.table.Row.{Row}
use Rattle.donors.specs.Apart.{All}
use Rattle.donors.specs.Choice.{Choice, plus, minus, out, Variant, Plain, card_rules}
use Rattle.donors.specs.Table as table
use Rattle.donors.specs.Table.{most, Sound}
use Rattle.matching.specs.declared.answer.Best.{Best}
use Rattle.matching.specs.Answer.{byte_of, array_of}
use Rattle.matching.specs.Best.{score}
use Rattle.matching.specs.Card.{counts, card_scoring, card_finite, card_best}
use Rattle.matching.specs.Made.{best_answer}
use Rattle.matching.proofs.BestOfLaws.{best_there}
use Rattle.clusters.specs.declared.heads.Heads.{Heads}
use Rattle.clusters.specs.declared.item.Item.{Item}
use Rattle.clusters.specs.Heads.{entries_at, items_from, variants_from}
use Rattle.clusters.specs.Item.{variant}
use Rattle.marks.specs.Markable.{Markable}
use Rattle.marks.specs.declared.mark.Marked.TheVariants.{Undecided, Scored}
use Rattle.marks.specs.Marks.{QUESTION, decided?, marks_of, score_of, marked_of, told_score}
use Rattle.marks.specs.Row.{row_of, SmallEntry}
use Rattle.clusters.proofs.CardClusters.{SoundItem, items_sound, variants_plain, map_length}
use Rattle.clusters.proofs.MergedLaws.{all_each}
use Rattle.marks.proofs.RowLaws.{row_sound, row_small}
use Rattle.marks.proofs.TableLaws.{table_variants, table_row}
use Rattle.marks.proofs.TakeLaws.{take_map, all_take}

pub best_long : (R : List ℕ) (xs : List Variant) → length (card_best R xs) ≡ length xs
best_long R xs = (best_there card_rules card_scoring R xs card_finite).legal.long

counts_few : (x : Variant) (c : Choice) → x.weight ≡ 1 → counts x c ≤ 1
counts_few x plus e = omega arith
counts_few x minus e = omega arith
counts_few x out e = omega arith

pub chosen_few : (xs : List Variant) (φ : List Choice) → All Plain xs → score card_scoring xs φ ≤ length xs
unfolding score
chosen_few [] φ a = omega arith
chosen_few (x ∷ xs) [] a = omega arith
chosen_few (x ∷ xs) (c ∷ φ) a = omega (arith, counts_few x c a.0.weight, chosen_few xs φ a.1)

module _ (reference : List ℕ) (c : List Variant) where
  pub marks_length : length (marks_of reference c) ≡ length c
  marks_length = go (decided? c)
    where
      go : (t : Bool) → length (pick t (map byte_of (card_best reference c)) (replicate (length c) QUESTION)) ≡ length c
      go true = map_length byte_of (card_best reference c) ∙ best_long reference c
      go false = length-replicate (length c) QUESTION

  pub score_few : All Plain c → score_of reference c ≤ length c
  score_few a = go (decided? c)
    where
      go : (t : Bool) → pick t (score card_scoring c (card_best reference c)) 0 ≤ length c
      go true = chosen_few c (card_best reference c) a
      go false = omega arith

  pub score_told : told_score (marked_of reference c) ≡ score_of reference c
  score_told = go (decided? c)
    where
      go : (t : Bool) → told_score (pick t (Scored (pick t (score card_scoring c (card_best reference c)) 0)) Undecided)
          ≡ pick t (score card_scoring c (card_best reference c)) 0
      go true = refl
      go false = refl

  pub marks_many : most < length c
      → (marked_of reference c ≡ Undecided) × (marks_of reference c ≡ replicate (length c) QUESTION)
  marks_many h = let e : decided? c ≡ false = lt-leb (length c) most h in rw e (refl, refl)

  -- the choices stand first in their array
  choices_first : (φ : List Choice) (n : ℕ) → length φ ≡ n → take n (array_of φ) ≡ map byte_of φ
  unfolding array_of
  choices_first φ n e = take_at (map byte_of φ) _ n (map_length byte_of φ ∙ e)

  pub marks_few : length c ≤ most → let b = best_answer reference c in
      (marked_of reference c ≡ Scored b.score) × (marks_of reference c ≡ take (length c) b.choices)
  marks_few h = rw (le-leb (length c) most h) (refl, sym (choices_first (card_best reference c) (length c) (best_long reference c)))

module _ (reference first second : List ℕ) (h : Heads) (n : ℕ) (there : n ≤ length (items_from first second h)) where
  -- the next n entries
  abbrev next : List Item
  next = take n (items_from first second h)

  next_variants : take n (variants_from reference first second h) ≡ map (variant reference first second) next
  next_variants = take_map (variant reference first second) n (items_from first second h)

  pub next_long : length (take n (variants_from reference first second h)) ≡ n
  next_long = length-take-le n (variants_from reference first second h) (omega (arith, map_length (variant reference first second) (items_from first second h)))

  pub next_plain : All Plain (take n (variants_from reference first second h))
  next_plain = rw next_variants (variants_plain reference first second next)

  module _ (m : Markable reference first second h) where
    next_sound : All (SoundItem reference first second) next
    next_sound =
        all_take (SoundItem reference first second) n (items_from first second h)
        (items_sound reference first second (entries_at first h.at1) (entries_at second h.at2) m.ready.ready1.sound m.ready.ready2.sound)

    pub next_small : All SmallEntry (take n (items_from first second h))
    next_small = all_each (λ i s. row_small reference first second i s m.short m.ready.ready1.short m.ready.ready2.short) next next_sound

    pub next_ready : n ≤ most → (t u : List Row) → u ≡ put t 0 (map row_of (take n (items_from first second h))) → agree.Ready reference first second u n
    next_ready few t u eu =
        let e = length-take-le n (items_from first second h) there in
        rw eu (record {
          few = few;
          sound = λ k l.
              table_row (λ (r : Row). Sound reference (pick r.first first second) r) t next k (omega arith) (all_each (row_sound reference first second) next next_sound);
        })

  module _ (d e : List ℕ) (at : ℕ) where
    pub next_undecided : most < n → e ≡ put d at (replicate n QUESTION)
        → (Undecided ≡ marked_of reference (take n (variants_from reference first second h)))
        × (e ≡ put d at (marks_of reference (take n (variants_from reference first second h))))
    next_undecided many w =
        let k = marks_many reference (take n (variants_from reference first second h)) (omega (arith, next_long)) in
        (sym k.0, w ∙ ap (put d at) (sym (k.1 ∙ ap (λ (m : ℕ). replicate m QUESTION) next_long)))

    pub next_decided : n ≤ most → (t u : List Row) → u ≡ put t 0 (map row_of (take n (items_from first second h)))
        → (b : Best) → b ≡ best_answer reference (table.variants_from reference first second u 0 n) → e ≡ put d at (take n b.choices)
        → (Scored b.score ≡ marked_of reference (take n (variants_from reference first second h)))
        × (e ≡ put d at (marks_of reference (take n (variants_from reference first second h))))
    next_decided few t u eu b eb w =
        let xs = take n (variants_from reference first second h) in
        let long = length-take-le n (items_from first second h) there in
        let same : table.variants_from reference first second u 0 n ≡ xs =
        ap (λ (v : List Row). table.variants_from reference first second v 0 n) eu
        ∙ ap (λ (m : ℕ). table.variants_from reference first second (put t 0 (map row_of next)) 0 m) (sym long)
        ∙ table_variants reference first second t next
        ∙ sym next_variants in
        let best : b ≡ best_answer reference xs = eb ∙ ap (best_answer reference) same in
        let k = marks_few reference xs (omega (arith, next_long)) in (
          ap (λ (a : Best). Scored a.score) best ∙ sym k.0,
          w ∙ ap (λ (a : Best). put d at (take n a.choices)) best ∙ ap (put d at) (sym (k.1 ∙ ap (λ (m : ℕ). take m (best_answer reference xs).choices) next_long)),
        )
