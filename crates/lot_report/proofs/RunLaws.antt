-- Laws of the lines of runs.tsv.
--     run_unnamed, run_named                   a line that begins with a TAB or is empty, and one that does not
--     counts_zero, counts_past, counts_stop, counts_more
--                                              n counts from a place on: none, behind the end, at a field that is no count, and at one
--                                              that is
--     counts_field, run_field                  each count of a line begins within it, and is all digits
--     bad_none, bad_more                       the first line that is no run: of no line, or behind one that is a run
--     bad_few, bad_runs                        it is one of the lines; where there is none, each is a run
--     runs_first                               where each line is a run, so is the first, and each behind it
--     no_run?, bad_position                    by how many lines are before it
--     bad_told, none_told                      what the answer tells of the lines
-- Assumes nothing.
use mathlib.Core.Bool.{Bool, true, false, not, ◌&&◌, cond}
use mathlib.Core.List.{List, [], ◌∷◌}
use mathlib.Core.Path.{◌≡◌, refl, sym, ap, ◌∙◌}
use Prim.Native.Nat.{ℕ, zero, suc, ◌+◌, ◌-◌, ◌≤◌, ◌<◌}
use native.Mathlib.Nat.{not-suc-le-zero, le_of_suc-le-suc}
use native.Mathlib.Omega.{arith}
use borrow.Author.Tests.{lt-ltb, ne_eqb, eqb-true, eqb-false}
use Rattle.std.proofs.Common.{Option, Some, None}
use Rattle.std.proofs.lemmas.Iterator.Adapters.{position_from-zero}
use Rattle.std.specs.List.{position_from, position_or_len}
use Rattle.std.specs.Option.{option_map}
use Rattle.std.proofs.lemmas.Option.{none-some, same_Some}
use lib.Dec.{T, eqb, ltb}
use lib.ListN.{length}
use Rattle.bases.proofs.TestLaws.{of_true, of_false, is_true, both}
use Rattle.bases.specs.Pick.{pick}
use Rattle.fields.proofs.FieldLaws.{until_within, field_length, skip_more}
use Rattle.fields.specs.Bytes.{TAB}
use Rattle.fields.specs.Field.{field_end, field_from, field, field_at, skip}
use Rattle.fields.specs.Pos.{all_digits?}
use Rattle.lot_report.specs.Count.{count?}
use Rattle.lot_report.specs.Run.{counts_of_run, counts?, run?, bad_line, bad_run, all_runs?}
use Rattle.lot_report.proofs.CountLaws.{count_none, count_digits}

pub run_unnamed : (l : List ℕ) → field_end l 0 ≡ 0 → run? l ≡ false
run_unnamed l e = rw e

pub run_named : (l : List ℕ) → 0 < field_end l 0 → run? l ≡ counts? counts_of_run l (field_end l 0 + 1)
run_named l h = rw (lt-ltb 0 (field_end l 0) h)

pub counts_zero : (l : List ℕ) (a : ℕ) → counts? 0 l a ≡ eqb a (length l + 1)
unfolding counts?
counts_zero l a = refl

counts_at : (n : ℕ) (l : List ℕ) (a : ℕ) → 0 < n → counts? n l a ≡ count? (field_from l a) && counts? (n - 1) l (field_end l a + 1)
unfolding counts?
counts_at zero l a h = absurd (not-suc-le-zero h)
counts_at (suc n) l a h = let e : suc n - 1 ≡ n = omega arith in rw e

pub counts_stop : (n : ℕ) (l : List ℕ) (a : ℕ) → 0 < n → count? (field_from l a) ≡ false → counts? n l a ≡ false
counts_stop n l a h e = counts_at n l a h ∙ rw e

pub counts_more : (n : ℕ) (l : List ℕ) (a : ℕ) → 0 < n → count? (field_from l a) ≡ true → counts? n l a ≡ counts? (n - 1) l (field_end l a + 1)
counts_more n l a h e = counts_at n l a h ∙ rw e

pub counts_past : (n : ℕ) (l : List ℕ) (a : ℕ) → 0 < n → length l ≤ a → counts? n l a ≡ false
counts_past n l a h k = counts_stop n l a h (count_none (field_from l a) (omega (arith, field_length l a, until_within TAB l a)))

-- A field that is a count.
field_digits : (l : List ℕ) (a : ℕ) → count? (field_from l a) ≡ true → (a ≤ length l) × T (all_digits? (field_from l a))
field_digits l a e = (omega (arith, field_length l a, until_within TAB l a, some (length (field_from l a)) (count_none (field_from l a))), of_true (count_digits (field_from l a) e))
  where
    some : (n : ℕ) → (n ≡ 0 → count? (field_from l a) ≡ false) → 0 < n
    some zero h = absurd (of_false (sym e ∙ h refl) tt)
    some (suc n) h = omega arith

pub counts_field : (n : ℕ) (l : List ℕ) (a j : ℕ) → T (counts? n l a) → j < n → (skip j l a ≤ length l) × T (all_digits? (field_from l (skip j l a)))
unfolding counts? skip
counts_field zero l a j t h = absurd (not-suc-le-zero h)
counts_field (suc n) l a zero t h = field_digits l a (is_true (count? (field_from l a)) ((both (count? (field_from l a)) (counts? n l (field_end l a + 1))).0 t).0)
counts_field (suc n) l a (suc j) t h =
    counts_field n l (field_end l a + 1) j ((both (count? (field_from l a)) (counts? n l (field_end l a + 1))).0 t).1 (le_of_suc-le-suc h)

pub run_field : (l : List ℕ) (k : ℕ) → T (run? l) → 1 ≤ k → k ≤ counts_of_run → (field_at k l ≤ length l) × T (all_digits? (field k l))
run_field l k t h m =
    rw (skip_more k l 0 h)
    (counts_field counts_of_run l (field_end l 0 + 1) (k - 1) ((both (ltb 0 (field_end l 0)) (counts? counts_of_run l (field_end l 0 + 1))).0 t).1 (omega arith))

pub bad_none : (n : ℕ) → bad_line n [] ≡ 0
unfolding bad_line
bad_none n = refl

pub bad_more : (n : ℕ) (l : List ℕ) (ls : List (List ℕ)) → run? l ≡ true → bad_line n (l ∷ ls) ≡ bad_line (n + 1) ls
unfolding bad_line
bad_more n l ls e = rw e

pub bad_few : (n : ℕ) (ls : List (List ℕ)) → bad_line n ls ≤ n + length ls
unfolding bad_line
bad_few n [] = omega arith
bad_few n (l ∷ ls) = go (run? l) (bad_few (n + 1) ls)
  where
    go : (t : Bool) → bad_line (n + 1) ls ≤ n + 1 + length ls → pick t (bad_line (n + 1) ls) n ≤ n + suc (length ls)
    go true h = omega arith
    go false h = omega arith

pub bad_runs : (n : ℕ) (ls : List (List ℕ)) → 0 < n → bad_line n ls ≡ 0 → T (all_runs? ls)
unfolding bad_line all_runs?
bad_runs n [] h e = tt
bad_runs n (l ∷ ls) h e = go (run? l) (bad_runs (n + 1) ls (omega arith)) e
  where
    go : (t : Bool) → (bad_line (n + 1) ls ≡ 0 → T (all_runs? ls)) → pick t (bad_line (n + 1) ls) n ≡ 0 → T (t && all_runs? ls)
    go true r k = r k
    go false r k = absurd (omega arith)

pub runs_first : (l : List ℕ) (ls : List (List ℕ)) → T (all_runs? (l ∷ ls)) → T (run? l) × T (all_runs? ls)
unfolding all_runs?
runs_first l ls r = (both (run? l) (all_runs? ls)).0 r

-- what an answer tells of the lines
pub bad_told : (ls : List (List ℕ)) (n : ℕ) → Some n ≡ bad_run ls → (bad_line 2 ls ≡ n) × (n ≡ 0 → ⊥)
bad_told ls n e = go (eqb (bad_line 2 ls) 0) refl
  where
    go : (t : Bool) → eqb (bad_line 2 ls) 0 ≡ t → (bad_line 2 ls ≡ n) × (n ≡ 0 → ⊥)
    go true k = absurd (none-some n (sym (rw k at e)))
    go false k = let same : n ≡ bad_line 2 ls = same_Some n (bad_line 2 ls) (rw k at e) in (sym same, λ z. eqb-false (bad_line 2 ls) 0 k (sym same ∙ z))

pub none_told : (ls : List (List ℕ)) → None ≡ bad_run ls → bad_line 2 ls ≡ 0
none_told ls e = go (eqb (bad_line 2 ls) 0) refl
  where
    go : (t : Bool) → eqb (bad_line 2 ls) 0 ≡ t → bad_line 2 ls ≡ 0
    go true k = eqb-true (bad_line 2 ls) 0 k
    go false k = absurd (none-some (bad_line 2 ls) (rw k at e))

abbrev pub no_run? : List ℕ → Bool
no_run? l = not (run? l)

bad_from : (k : ℕ) (ls : List (List ℕ)) → option_map (λ (k : ℕ). k + 2) (position_from no_run? k ls) ≡ pick (eqb (bad_line (k + 2) ls) 0) None (Some (bad_line (k + 2) ls))
unfolding bad_line
bad_from k [] = refl
bad_from k (l ∷ ls) = let e : k + 1 + 2 ≡ k + 2 + 1 = omega arith in go (run? l) (rw e at (bad_from (k + 1) ls))
  where
    go : (t : Bool) → option_map (λ (k : ℕ). k + 2) (position_from no_run? (k + 1) ls) ≡ pick (eqb (bad_line (k + 2 + 1) ls) 0) None (Some (bad_line (k + 2 + 1) ls))
        → (let n = pick t (bad_line (k + 2 + 1) ls) (k + 2) in
        option_map (λ (k : ℕ). k + 2) (cond (not t) (Some k) (position_from no_run? (k + 1) ls)) ≡ pick (eqb n 0) None (Some n))
    go true h = h
    go false h = rw (ne_eqb (k + 2) 0 (omega arith))

-- how many lines are before the first that is no run
pub bad_position : (ls : List (List ℕ)) (r : Option ℕ) → r ≡ cond (ltb (position_or_len no_run? ls) (length ls)) (Some (position_or_len no_run? ls)) None → option_map (λ (k : ℕ). k + 2) r ≡ bad_run ls
bad_position ls r e = ap (option_map (λ (k : ℕ). k + 2)) (e ∙ position_from-zero no_run? ls) ∙ bad_from 0 ls
