-- Laws of a text and its lines.
--     all_append, all_left, all_right, all_map     something holds of each line; of lines behind lines; of more
--     lines_free                  the lines of a text hold no LF
--     text_append, text-length    the text of lines behind lines; its length
--     lines_text, text_lines      lines without LF are the lines of their text; a text that ends in LF is the text of its lines
--     text_last, text_ends        the text of lines ends in LF
-- Assumes nothing.
use mathlib.Core.Bool.{Bool, true, false}
use mathlib.Core.List.{List, [], ◌∷◌, ◌++◌, append_assoc, nil≢cons}
use mathlib.Core.Path.{◌≡◌, refl, ap, ◌∙◌}
use Prim.Native.Nat.{ℕ, suc, ◌+◌, ◌-◌, ◌≤◌}
use native.Mathlib.Omega.{arith}
use borrow.Author.Tests.{eqb-true}
use lib.Dec.{eqb}
use lib.ListN.{length, get_or, length-append}
use lib.Seq.{take_at, drop-append-add, get_or-append-add}
use Rattle.bases.specs.Pick.{pick}
use Rattle.fields.specs.Bytes.{LF, until}
use Rattle.vcf.specs.List.{onto, lines_of}
use Rattle.vcf.proofs.ListLaws.{lines_cons}
use Rattle.written.specs.Lines.{All}
use Rattle.written.specs.Written.{text_of}
use Rattle.written.proofs.WithoutLaws.{Without, without_cons, until_found}

pub all_append : (P : List ℕ → Type 0) (a b : List (List ℕ)) → All P a → All P b → All P (a ++ b)
all_append P [] b h k = k
all_append P (l ∷ a) b h k = (h.0, all_append P a b h.1 k)

pub all_left : (P : List ℕ → Type 0) (a b : List (List ℕ)) → All P (a ++ b) → All P a
all_left P [] b h = tt
all_left P (l ∷ a) b h = (h.0, all_left P a b h.1)

pub all_right : (P : List ℕ → Type 0) (a b : List (List ℕ)) → All P (a ++ b) → All P b
all_right P [] b h = h
all_right P (l ∷ a) b h = all_right P a b h.1

pub all_map : (P Q : List ℕ → Type 0) → ((l : List ℕ) → P l → Q l) → (ls : List (List ℕ)) → All P ls → All Q ls
all_map P Q f [] h = tt
all_map P Q f (l ∷ ls) h = (f l h.0, all_map P Q f ls h.1)

pub lines_free : (t : List ℕ) → All (Without LF) (lines_of t)
unfolding lines_of until
lines_free [] = tt
lines_free (b ∷ bs) = go (eqb b LF) refl (lines_of bs) (lines_free bs)
  where
    go : (u : Bool) → eqb b LF ≡ u → (ls : List (List ℕ)) → All (Without LF) ls → All (Without LF) (pick u ([] ∷ ls) (onto b ls))
    go true e ls h = (refl, h)
    go false e [] h = (without_cons LF b [] e refl, tt)
    go false e (l ∷ ls) h = (without_cons LF b l e h.0, h.1)

pub text_none : text_of [] ≡ []
unfolding text_of
text_none = refl

pub text_append : (a b : List (List ℕ)) → text_of (a ++ b) ≡ text_of a ++ text_of b
unfolding text_of
text_append [] b = refl
text_append (l ∷ a) b = rw (text_append a b, append_assoc l (LF ∷ text_of a) (text_of b))

pub text_cons_length : (l : List ℕ) (ls : List (List ℕ)) → length (text_of (l ∷ ls)) ≡ length l + length (text_of ls) + 1
unfolding text_of
text_cons_length l ls = length-append l (LF ∷ text_of ls) ∙ omega arith

pub lines_text : (ls : List (List ℕ)) → All (Without LF) ls → lines_of (text_of ls) ≡ ls
unfolding text_of lines_of
lines_text [] h = refl
lines_text (l ∷ ls) h =
    let t = l ++ (LF ∷ text_of ls) in
    lines_cons t (omega (arith, length-append l (LF ∷ text_of ls)))
    ∙ rw (until_found LF l (text_of ls) h.0, take_at l (LF ∷ text_of ls) (length l) refl, drop-append-add l (LF ∷ text_of ls) 1, lines_text ls h.1)

pub text_lines : (t : List ℕ) → get_or t (length t - 1) 0 ≡ LF → text_of (lines_of t) ≡ t
unfolding text_of lines_of
text_lines [] h = refl
text_lines (b ∷ []) h = one h
  where
    one : b ≡ LF → text_of (pick (eqb b LF) ([] ∷ []) ((b ∷ []) ∷ [])) ≡ b ∷ []
    one e = rw e
text_lines (b ∷ c ∷ bs) h = go (eqb b LF) refl (lines_of (c ∷ bs)) (text_lines (c ∷ bs) (rw shorter at h))
  where
    shorter : suc (suc (length bs)) - 1 ≡ suc (suc (length bs) - 1)
    shorter = omega arith

    go : (u : Bool) → eqb b LF ≡ u → (ls : List (List ℕ)) → text_of ls ≡ c ∷ bs → text_of (pick u ([] ∷ ls) (onto b ls)) ≡ b ∷ c ∷ bs
    go true e ls r = let f = eqb-true b LF e in cc
    go false e [] r = absurd (nil≢cons r)
    go false e (l ∷ ls) r = ap (λ (z : List ℕ). b ∷ z) r

last_append : (a b : List ℕ) → 1 ≤ length b → get_or (a ++ b) (length (a ++ b) - 1) 0 ≡ get_or b (length b - 1) 0
last_append a b h =
    let e : length (a ++ b) - 1 ≡ length a + (length b - 1) = omega (arith, length-append a b) in
    rw e (get_or-append-add a b (length b - 1) 0)

pub text_last : (l : List ℕ) (ls : List (List ℕ)) → get_or (text_of (l ∷ ls)) (length (text_of (l ∷ ls)) - 1) 0 ≡ LF
unfolding text_of
text_last l [] = last_append l (LF ∷ []) (omega arith)
text_last l (m ∷ ls) =
    last_append l (LF ∷ text_of (m ∷ ls)) (omega arith)
    ∙ last_append (LF ∷ []) (text_of (m ∷ ls)) (omega (arith, text_cons_length m ls))
    ∙ text_last m ls

pub text_ends : (ls : List (List ℕ)) → (ls ≡ [] → ⊥) → get_or (text_of ls) (length (text_of ls) - 1) 0 ≡ LF
text_ends [] n = absurd (n refl)
text_ends (l ∷ ls) n = text_last l ls
