-- What judging tells of lines: the first fault from the top, and nothing else.
--     rows_on, ClearTo                        the rows that are tried on a line; no row holds on the lines above a line
--     OnLine, AtEnd, Nowhere, Told           what may be told: a row on a line, row 5 behind the last line, nothing
--     rows_here, rows_below                  the rows on the first line, and on the others
--     clear_cons, clear_head, clear_tail     no row holds, by the first line
--     told_here, told_cons, told_uncons      what is told, by the first line
--     on_line_not_zero                       a row that is told on a line is not numbered 0
--     told, told_only                        what judging tells is so, and what is so is what it tells
-- Assumes nothing.
use mathlib.Core.Bool.{Bool, true, false}
use mathlib.Core.List.{List, [], ◌∷◌}
use mathlib.Core.Logic.{◌≢◌, ◌⊎◌, inl, inr, ⊎_elim}
use mathlib.Core.Path.{◌≡◌, refl, subst}
use Prim.Native.Nat.{ℕ, suc, ◌+◌, ◌-◌, ◌≤◌, ◌<◌}
use native.Mathlib.Nat.{eq-or-lt_of_le, sub_self}
use native.Mathlib.Omega.{arith}
use lib.Dec.{eqb}
use lib.ListN.{length, get_or}
use borrow.Author.Tests.{eqb-true, eqb-false, ne_eqb}
use Rattle.bases.specs.Pick.{pick}
use Rattle.vcf.specs.declared.list.Fault.{Fault}
use Rattle.vcf.specs.declared.list.Stage.{Stage}
use Rattle.vcf.specs.List.{next_stage, line_rows, fault, judge_lines, below?}
use Rattle.records.specs.declared.row.LineFault.{LineFault}
use Rattle.records.specs.Row.{Row, line_fault, first_row}
use Rattle.vcf.proofs.ListLaws.{line_rows_numbered}
use Rattle.bases.proofs.FirstLaws.{NoneHolds, First}
use Rattle.records.proofs.RowLaws.{first_row_found, first_row_first, first_row_none, none_holds, first_not_zero}
use Rattle.vcf.proofs.StageLaws.{stage_at}

-- Of lines, the first of which is the n-th of the text and is met at stage s: the rows that are tried on line m of the text.
abbrev pub rows_on : List ℕ → List ℕ → Stage → ℕ → List (List ℕ) → ℕ → List Row
rows_on reference name s n ls m = line_rows reference name (stage_at s ls (m - n)) m (get_or ls (m - n) [])

-- No row holds on a line above line m of the text.
abbrev pub ClearTo : List ℕ → List ℕ → Stage → ℕ → List (List ℕ) → ℕ → Type 0
ClearTo reference name s n ls m = (j : ℕ) → n ≤ j → j < m → NoneHolds (rows_on reference name s n ls j)

module _ (reference name : List ℕ) where
  -- Row k is told at line m, one of the lines, with place p.
  pub record OnLine (s : Stage) (n : ℕ) (ls : List (List ℕ)) (k m p : ℕ) : Type 0 where
    -- m is not above the first line, nor below the last
    pub from : n ≤ m
    pub within : m < n + length ls
    -- row k holds on line m, and no row before it in the order does
    pub first : First (line_fault k p) (rows_on reference name s n ls m)
    -- no row holds on a line above it
    pub clear : ClearTo reference name s n ls m

  -- A missing column line is told: row 5 at the line number after the last.
  pub record AtEnd (s : Stage) (n : ℕ) (ls : List (List ℕ)) (k m p : ℕ) : Type 0 where
    pub number : k ≡ 5
    pub line : m ≡ n + length ls
    pub place : p ≡ 0
    -- behind all lines the stage is still above the records (so none is a column line: `no_column_line` of StageLaws)
    pub above : below? (stage_at s ls (length ls)) ≡ false
    -- no row holds on any line
    pub clear : ClearTo reference name s n ls (n + length ls)

  -- No fault is told.
  pub record Nowhere (s : Stage) (n : ℕ) (ls : List (List ℕ)) (k m p : ℕ) : Type 0 where
    pub number : k ≡ 0
    pub line : m ≡ 0
    pub place : p ≡ 0
    -- the lines lead below the column line
    pub below : below? (stage_at s ls (length ls)) ≡ true
    -- no row holds on any line
    pub clear : ClearTo reference name s n ls (n + length ls)

  -- What is told of lines.
  pub data Told (s : Stage) (n : ℕ) (ls : List (List ℕ)) (k m p : ℕ) : Type 0 where
    on_line : OnLine s n ls k m p → Told s n ls k m p
    at_end : AtEnd s n ls k m p → Told s n ls k m p
    nowhere : Nowhere s n ls k m p → Told s n ls k m p

  module _ (s : Stage) (n : ℕ) (l : List ℕ) (ls : List (List ℕ)) where
    rows_here : rows_on reference name s n (l ∷ ls) n ≡ line_rows reference name s n l
    rows_here = rw (sub_self n)

    rows_below : (m : ℕ) → n < m → rows_on reference name s n (l ∷ ls) m ≡ rows_on reference name (next_stage s l) (n + 1) ls m
    rows_below m h = let e : m - n ≡ suc (m - (n + 1)) = omega arith in rw e

    clear_cons : (m : ℕ) → NoneHolds (line_rows reference name s n l) → ClearTo reference name (next_stage s l) (n + 1) ls m → ClearTo reference name s n (l ∷ ls) m
    clear_cons m z c j a b = ⊎_elim
        (λ e. subst (λ (i : ℕ). NoneHolds (rows_on reference name s n (l ∷ ls) i)) e (rw rows_here z))
        (λ h. rw (rows_below j h) (c j (omega arith) b))
        (eq-or-lt_of_le a)

    clear_head : (m : ℕ) → n < m → ClearTo reference name s n (l ∷ ls) m → NoneHolds (line_rows reference name s n l)
    clear_head m h c = rw rows_here at (c n (omega arith) h)

    clear_tail : (m : ℕ) → ClearTo reference name s n (l ∷ ls) m → ClearTo reference name (next_stage s l) (n + 1) ls m
    clear_tail m c j a b = rw (rows_below j (omega arith)) at (c j (omega arith) b)

    told_here : (k p : ℕ) → First (line_fault k p) (line_rows reference name s n l) → Told s n (l ∷ ls) k n p
    told_here k p f = on_line (record {
      from = omega arith;
      within = omega arith;
      first = rw rows_here f;
      clear = λ j a b. absurd (omega arith);
    })

    told_cons : (k m p : ℕ) → NoneHolds (line_rows reference name s n l) → Told (next_stage s l) (n + 1) ls k m p → Told s n (l ∷ ls) k m p
    told_cons k m p z (on_line r) = on_line (record {
      from = omega arith;
      within = omega arith;
      first = rw (rows_below m (omega arith)) r.first;
      clear = clear_cons m z r.clear;
    })
    told_cons k m p z (at_end r) = at_end (record {
      number = r.number;
      line = omega arith;
      place = r.place;
      above = r.above;
      clear = λ j a b. clear_cons (n + 1 + length ls) z r.clear j a (omega arith);
    })
    told_cons k m p z (nowhere r) = nowhere (record {
      number = r.number;
      line = r.line;
      place = r.place;
      below = r.below;
      clear = λ j a b. clear_cons (n + 1 + length ls) z r.clear j a (omega arith);
    })

    told_uncons : (k m p : ℕ) → Told s n (l ∷ ls) k m p
        → (First (line_fault k p) (line_rows reference name s n l) × (n ≡ m)) ⊎ (NoneHolds (line_rows reference name s n l) × Told (next_stage s l) (n + 1) ls k m p)
    told_uncons k m p (on_line r) = ⊎_elim
        (λ e. inl (rw rows_here at (rw (← e) at r.first), e))
        (λ h. inr (
          clear_head m h r.clear,
          on_line (record {
            from = omega arith;
            within = omega arith;
            first = rw (rows_below m h) at r.first;
            clear = clear_tail m r.clear;
          }),
        ))
        (eq-or-lt_of_le r.from)
    told_uncons k m p (at_end r) = inr (
      clear_head (n + suc (length ls)) (omega arith) r.clear,
      at_end (record {
        number = r.number;
        line = omega arith;
        place = r.place;
        above = r.above;
        clear = λ j a b. clear_tail (n + suc (length ls)) r.clear j a (omega arith);
      }),
    )
    told_uncons k m p (nowhere r) = inr (
      clear_head (n + suc (length ls)) (omega arith) r.clear,
      nowhere (record {
        number = r.number;
        line = r.line;
        place = r.place;
        below = r.below;
        clear = λ j a b. clear_tail (n + suc (length ls)) r.clear j a (omega arith);
      }),
    )

  pub on_line_not_zero : (s : Stage) (n : ℕ) (ls : List (List ℕ)) (k m p : ℕ) → OnLine s n ls k m p → k ≢ 0
  on_line_not_zero s n ls k m p r =
      first_not_zero (rows_on reference name s n ls m) (line_fault k p)
      (line_rows_numbered reference name (stage_at s ls (m - n)) m (get_or ls (m - n) [])) r.first

  -- What judging tells is so.
  pub told : (s : Stage) (n : ℕ) (ls : List (List ℕ))
      → Told s n ls (judge_lines reference name s n ls).number (judge_lines reference name s n ls).line (judge_lines reference name s n ls).place
  unfolding judge_lines
  told s n [] = go (below? s) refl
    where
      go : (b : Bool) → below? s ≡ b → Told s n [] (pick b (fault 0 0 0) (fault 5 n 0)).number (pick b (fault 0 0 0) (fault 5 n 0)).line (pick b (fault 0 0 0) (fault 5 n 0)).place
      go true e = nowhere (record { number = refl; line = refl; place = refl; below = e; clear = λ j a b. absurd (omega arith) })
      go false e = at_end (record { number = refl; line = omega arith; place = refl; above = e; clear = λ j a b. absurd (omega arith) })
  told s n (l ∷ ls) = go (eqb k.number 0) refl (told (next_stage s l) (n + 1) ls)
    where
      rows : List Row
      rows = line_rows reference name s n l

      k : LineFault
      k = first_row (line_rows reference name s n l)

      rest : Fault
      rest = judge_lines reference name (next_stage s l) (n + 1) ls

      here : Fault
      here = fault k.number n k.at

      go : (t : Bool) → eqb k.number 0 ≡ t → Told (next_stage s l) (n + 1) ls rest.number rest.line rest.place
          → Told s n (l ∷ ls) (pick t rest here).number (pick t rest here).line (pick t rest here).place
      go true e r = told_cons s n l ls _ _ _ (none_holds rows (line_rows_numbered reference name s n l) (eqb-true k.number 0 e)) r
      go false e r = told_here s n l ls k.number k.at (first_row_found rows k (eqb-false k.number 0 e) refl)

  -- Whatever is so is what judging tells.
  pub told_only : (s : Stage) (n : ℕ) (ls : List (List ℕ)) (k m p : ℕ) → Told s n ls k m p → judge_lines reference name s n ls ≡ fault k m p
  unfolding judge_lines
  told_only s n [] k m p (on_line r) = absurd (omega arith)
  told_only s n [] k m p (at_end r) = let e : n ≡ m = omega arith in rw (r.above, r.number, r.place, e)
  told_only s n [] k m p (nowhere r) = rw (r.below, r.number, r.line, r.place)
  told_only s n (l ∷ ls) k m p t = ⊎_elim here (below (told_only (next_stage s l) (n + 1) ls k m p)) (told_uncons s n l ls k m p t)
    where
      rows : List Row
      rows = line_rows reference name s n l

      here : First (line_fault k p) (line_rows reference name s n l) × (n ≡ m) → judge_lines reference name s n (l ∷ ls) ≡ fault k m p
      here f =
          let z = first_not_zero rows (line_fault k p) (line_rows_numbered reference name s n l) f.0 in
          rw (first_row_first rows (line_fault k p) f.0, ne_eqb k 0 z, f.1)

      below : (Told (next_stage s l) (n + 1) ls k m p → judge_lines reference name (next_stage s l) (n + 1) ls ≡ fault k m p)
          → NoneHolds (line_rows reference name s n l) × Told (next_stage s l) (n + 1) ls k m p
          → judge_lines reference name s n (l ∷ ls) ≡ fault k m p
      below r f = rw (first_row_none rows f.0) (r f.1)
