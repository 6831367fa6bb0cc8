-- Laws of the stage that lines lead to, whatever their faults.
--     stage_at            the stage behind the first i lines
--     stage_below        below the column line, no line leads back
--     stage_above_iff    from the top of a text, i lines stay above the records exactly if each begins with ##
--     column_not_header  a column line does not begin with ##
--     no_column_line     where a text's lines stay above the records, none is a column line
-- Assumes nothing.
use mathlib.Core.Bool.{Bool, true, false, ◌&&◌}
use mathlib.Core.List.{List, [], ◌∷◌}
use mathlib.Core.Logic.{◌↔◌}
use mathlib.Core.Path.{◌≡◌, refl}
use Prim.Native.Nat.{ℕ, zero, suc, ◌≤◌, ◌<◌}
use native.Mathlib.Nat.{not-suc-le-zero, le_of_suc-le-suc}
use native.Mathlib.Omega.{arith}
use lib.Dec.{eqb, leb, ltb, leb→le}
use lib.ListN.{length, get_or}
use Rattle.bases.specs.Pick.{pick}
use Rattle.bases.specs.Same.{agree?}
use Rattle.bases.proofs.SameLaws.{agree_iff}
use Rattle.bases.proofs.TestLaws.{of_true, of_false, is_true, is_false, both}
use Rattle.vcf.specs.declared.list.Stage.{Stage}
use Rattle.vcf.specs.declared.list.Stage.TheVariants.{Above, Below}
use Rattle.fields.specs.Bytes.{column_names, hashes, begins?}
use Rattle.fields.specs.Header.{header_line?, tenth_end, column_line?}
use Rattle.vcf.specs.List.{above, below_at, next_stage, below?}
use Rattle.fields.specs.Pos.{no_pos}

-- The stage behind the first i of some lines that are met at stage s.
abbrev pub stage_at : Stage → List (List ℕ) → ℕ → Stage
stage_at s ls zero = s
stage_at s [] (suc i) = s
stage_at s (l ∷ ls) (suc i) = stage_at (next_stage s l) ls i

pub stage_below : (s : Stage) (ls : List (List ℕ)) (i : ℕ) → below? s ≡ true → below? (stage_at s ls i) ≡ true
stage_below s ls zero e = e
stage_below s [] (suc i) e = e
stage_below Above (l ∷ ls) (suc i) e = absurd (of_false refl (of_true e))
stage_below (Below records last) (l ∷ ls) (suc i) e = stage_below (next_stage (Below records last) l) ls i refl

pub stage_above_iff : (ls : List (List ℕ)) (i : ℕ) → i ≤ length ls
    → (below? (stage_at above ls i) ≡ false) ↔ ((j : ℕ) → j < i → header_line? (get_or ls j []) ≡ true)
stage_above_iff ls zero h = (λ e j k. absurd (not-suc-le-zero k), λ f. refl)
stage_above_iff [] (suc i) h = absurd (not-suc-le-zero h)
stage_above_iff (l ∷ ls) (suc i) h = go (header_line? l) refl (stage_above_iff ls i (le_of_suc-le-suc h))
  where
    All : List (List ℕ) → ℕ → Type 0
    All ls i = (j : ℕ) → j < i → header_line? (get_or ls j []) ≡ true

    go : (t : Bool) → header_line? l ≡ t → (below? (stage_at above ls i) ≡ false) ↔ All ls i
        → (below? (stage_at (pick t above (below_at 0 no_pos)) ls i) ≡ false) ↔ All (l ∷ ls) (suc i)
    go true e r = (to, λ f. r.1 (λ j k. f (suc j) (omega arith)))
      where
        to : below? (stage_at above ls i) ≡ false → All (l ∷ ls) (suc i)
        to b zero k = e
        to b (suc j) k = r.0 b j (le_of_suc-le-suc k)
    go false e r = (
      λ b. absurd (of_false b (of_true (stage_below (below_at 0 no_pos) ls i refl))),
      λ f. absurd (of_false e (of_true (f 0 (omega arith)))),
    )

-- their second bytes are C and #
pub column_not_header : (l : List ℕ) → column_line? l ≡ true → header_line? l ≡ false
column_not_header l e = is_false (header_line? l) (λ t.
    let names = ((both (begins? column_names l) (ltb (length column_names) (tenth_end l) && eqb (tenth_end l) (length l))).0 (of_true e)).0 in
    let c = (both (leb (length column_names) (length l)) (agree? column_names l)).0 names in
    let h = (both (leb (length hashes) (length l)) (agree? hashes l)).0 t in
    let long : 46 ≤ length l = leb→le (length column_names) (length l) c.0 in
    let x : 67 ≡ get_or l 1 0 = (agree_iff column_names l).0 c.1 1 (omega arith) (omega arith) in
    let y : 35 ≡ get_or l 1 0 = (agree_iff hashes l).0 h.1 1 (omega arith) (omega arith) in
    omega arith)

pub no_column_line : (ls : List (List ℕ)) → below? (stage_at above ls (length ls)) ≡ false → (j : ℕ) → j < length ls → column_line? (get_or ls j []) ≡ false
no_column_line ls e j h = is_false (column_line? (get_or ls j [])) (λ t.
    of_false
    (column_not_header (get_or ls j []) (is_true (column_line? (get_or ls j [])) t))
    (of_true ((stage_above_iff ls (length ls) (omega arith)).0 e j h)))
