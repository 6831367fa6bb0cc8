-- Laws of counts as they are printed, and of lines made of fields.
--     count_written                     a number that is printed is a count, and is read as itself
--     joined                            fields with TABs between
--     field_joined, counts_joined       its fields; it is so many counts
--     free_joined                       it holds no byte that is no TAB and stands in none of them
-- Assumes nothing.
use mathlib.Core.Bool.{Bool, true, false, not, ◌&&◌, ◌||◌, or-true}
use mathlib.Core.List.{List, [], ◌∷◌, ◌++◌}
use mathlib.Core.Path.{◌≡◌, refl, sym, ap, ◌∙◌}
use Prim.Native.Nat.{ℕ, zero, suc, ◌+◌, ◌≤◌}
use native.Mathlib.Decide.{ℕ_discrete}
use native.Mathlib.Omega.{arith}
use borrow.Author.Tests.{eq-eqb, ne_eqb}
use lib.Dec.{eqb, leb}
use lib.ListN.{length, get_or, length-append}
use lib.Seq.{append_snoc, drop-append-add, take-length}
use Rattle.bases.specs.declared.place.Pos.{Pos}
use Rattle.bases.proofs.TestLaws.{of_true}
use Rattle.bases.specs.Pick.{pick}
use Rattle.lines.proofs.FieldLaws.{number_pos}
use Rattle.lines.specs.Lines.{number}
use Rattle.written.proofs.DecimalLaws.{decimal_pos}
use Rattle.written.proofs.FieldThenLaws.{field_here, field_next}
use Rattle.written.proofs.WithoutLaws.{Without, without_append, without_cons, without_digits, until_found}
use Rattle.written.specs.Lines.{All}
use Rattle.written.specs.Written.{digits_of, decimal, field_then}
use Rattle.fields.specs.Bytes.{TAB}
use Rattle.fields.specs.Field.{field, field_end, field_from, skip}
use Rattle.fields.specs.Pos.{all_digits?, value_from, largest_pos, is_pos?, read_pos}
use Rattle.lot_report.specs.Count.{count?, capped, count_of}
use Rattle.lot_report.specs.Run.{counts?}
use Rattle.lot_report.proofs.CountLaws.{count_digits, capped_small}
use Rattle.lot_report.proofs.RunLaws.{counts_zero}

-- A field that writes a number from 1 on as a POS is a count.
pos_count : (f : List ℕ) (m : ℕ) → (read_pos f).0 ≡ suc m → (count? f ≡ true) × (value_from 0 f ≡ suc m)
unfolding is_pos?
pos_count f m r = go (all_digits? f) (eqb (get_or f 0 48) 48) (leb (value_from 0 f) largest_pos) r
  where
    go : (a b d : Bool) → pick (a && (not b && d)) (value_from 0 f) 0 ≡ suc m → (a && (eqb (length f) 1 || not b) ≡ true) × (value_from 0 f ≡ suc m)
    go true true d k = absurd (omega arith)
    go true false true k = (or-true (eqb (length f) 1), k)
    go true false false k = absurd (omega arith)
    go false b d k = absurd (omega arith)

pub count_written : (n : ℕ) → n ≤ largest_pos → (count? (number n) ≡ true) × (count_of (number n) ≡ n)
unfolding digits_of all_digits? value_from
count_written zero h = (refl, refl)
count_written (suc m) h =
    let f = decimal (suc m) in
    let r = pos_count f m (ap (λ (p : Pos). p.0) (decimal_pos (record { 0 = suc m }) (omega arith) h)) in
    let v : count_of f ≡ suc m = ap (λ (n : ℕ). capped n) r.1 ∙ capped_small (suc m) (omega arith) in
    rw (number_pos (suc m) h) (r.0, v)

-- Fields with TABs between, the first and those behind it.
unfoldable pub joined : List ℕ → List (List ℕ) → List ℕ
joined f [] = f
joined f (g ∷ gs) = field_then f (joined g gs)

-- One field is a whole line.
field_alone : (f : List ℕ) → Without TAB f → field 0 f ≡ f
unfolding skip
field_alone f w = rw w (take-length f)

pub field_joined : (k : ℕ) (f : List ℕ) (gs : List (List ℕ)) → Without TAB f → All (Without TAB) gs → k ≤ length gs → field k (joined f gs) ≡ get_or (f ∷ gs) k []
unfolding joined
field_joined zero f [] w ws h = field_alone f w
field_joined zero f (g ∷ gs) w ws h = field_here f (joined g gs) w
field_joined (suc k) f [] w ws h = absurd (omega arith)
field_joined (suc k) f (g ∷ gs) w ws h = field_next f (joined g gs) w k ∙ field_joined k g gs ws.0 ws.1 (omega arith)

pub free_joined : (x : ℕ) → eqb TAB x ≡ false → (f : List ℕ) (gs : List (List ℕ)) → Without x f → All (Without x) gs → Without x (joined f gs)
unfolding joined
free_joined x e f [] w ws = w
free_joined x e f (g ∷ gs) w ws = without_append x f (TAB ∷ joined g gs) w (without_cons x TAB (joined g gs) e (free_joined x e g gs ws.0 ws.1))

-- Counts behind a front.
end_behind : (p r : List ℕ) (a : ℕ) → field_end (p ++ r) (length p + a) ≡ length p + field_end r a
end_behind p r a = rw (drop-append-add p r a) (omega arith)

pub counts_behind : (n : ℕ) (p r : List ℕ) (a : ℕ) → counts? n (p ++ r) (length p + a) ≡ counts? n r a
unfolding counts?
counts_behind zero p r a = go (ℕ_discrete a (length r + 1)) (length-append p r)
  where
    go : Dec (a ≡ length r + 1) → length (p ++ r) ≡ length p + length r → eqb (length p + a) (length (p ++ r) + 1) ≡ eqb a (length r + 1)
    go (yes e) l = eq-eqb (length p + a) (length (p ++ r) + 1) (omega arith) ∙ sym (eq-eqb a (length r + 1) e)
    go (no e) l = ne_eqb (length p + a) (length (p ++ r) + 1) (λ z. e (omega arith)) ∙ sym (ne_eqb a (length r + 1) e)
counts_behind (suc n) p r a =
    let e : field_end (p ++ r) (length p + a) + 1 ≡ length p + (field_end r a + 1) = omega (arith, end_behind p r a) in
    rw (e, drop-append-add p r a, counts_behind n p r (field_end r a + 1))

pub then_end : (f rest : List ℕ) → Without TAB f → field_end (field_then f rest) 0 ≡ length f
then_end f rest w = rw (until_found TAB f rest w) (omega arith)

pub counts_after : (n : ℕ) (f rest : List ℕ) → Without TAB f → counts? n (field_then f rest) (field_end (field_then f rest) 0 + 1) ≡ counts? n rest 0
counts_after n f rest w =
    let p = f ++ (TAB ∷ []) in
    let e : field_end (field_then f rest) 0 + 1 ≡ length p + 0 = omega (arith, then_end f rest w, length-append f (TAB ∷ [])) in
    ap (counts? n (field_then f rest)) e ∙ ap (λ (l : List ℕ). counts? n l (length p + 0)) (sym (append_snoc f TAB rest)) ∙ counts_behind n p rest 0

-- A field that is a count.
pub record IsCount (f : List ℕ) : Type 0 where
  pub free : Without TAB f
  pub count : count? f ≡ true

counts_first : (n : ℕ) (l f : List ℕ) → field 0 l ≡ f → count? f ≡ true → counts? (suc n) l 0 ≡ counts? n l (field_end l 0 + 1)
unfolding counts? skip
counts_first n l f e c = let k : count? (field_from l 0) ≡ true = ap (λ (g : List ℕ). count? g) e ∙ c in rw k

pub counts_joined : (f : List ℕ) (gs : List (List ℕ)) → IsCount f → All IsCount gs → counts? (suc (length gs)) (joined f gs) 0 ≡ true
unfolding joined
counts_joined f [] h hs =
    counts_first 0 f f (field_alone f h.free) h.count
    ∙ counts_zero f (field_end f 0 + 1)
    ∙ eq-eqb (field_end f 0 + 1) (length f + 1) (omega (arith, h.free))
counts_joined f (g ∷ gs) h hs =
    let l = field_then f (joined g gs) in
    counts_first (suc (length gs)) l f (field_here f (joined g gs) h.free) h.count
    ∙ counts_after (suc (length gs)) f (joined g gs) h.free
    ∙ counts_joined g gs hs.0 hs.1

pub count_of_number : (n : ℕ) → n ≤ largest_pos → IsCount (number n)
count_of_number n h =
    let c = (count_written n h).0 in
    record { free = without_digits TAB (number n) refl (of_true (count_digits (number n) c)); count = c }
