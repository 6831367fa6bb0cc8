-- Laws of letters.
--     Upper, Writes, Letter        a letter as its upper-case byte; a byte that writes one, in either case; a byte that is one
--     letter_is                    which letter a byte is: the one that it writes, in either case
--     upper_letter, lower_letter, byte_letter, other_letter
--                                  whether it is one, by its byte
--     letter_and, letter_none      the letter that it then is, by its bits; none
--     letter_upper                 that is no letter, or one as its upper-case byte
--     letter_twice, letter_bases   so the letter of a letter is itself, and a letter where the byte is one
--     letters_all                  all are letters, as the `all` of a slice
--     letters_iff                  all are letters exactly if each is
--     bases_length, bases_at, bases_drop, bases_take, bases_part, bases_append
--                                  the bases of bytes: as many, place by place, of what is left, of the first n, of a part, of two texts
--     bases_twice, bases_letters   bases are their own bases, and letters where the bytes are
-- Assumes nothing.
use mathlib.Core.Bool.{Bool, true, false, not, ◌&&◌}
use mathlib.Core.List.{List, [], ◌∷◌, ◌++◌}
use mathlib.Core.Logic.{◌↔◌, ◌⊎◌, inl, inr, ⊎_elim}
use mathlib.Core.Path.{◌≡◌, refl, sym, ap, ap₂, subst, ◌∙◌}
use Prim.Native.Nat.{ℕ, zero, suc, ◌+◌, ◌<◌}
use native.Mathlib.Nat.{not-suc-le-zero, le_of_suc-le-suc}
use native.Mathlib.Omega.{arith}
use lib.Bits.{bit_and}
use lib.Dec.{T, eqb, eqb→eq}
use lib.ListN.{length, get_or, take, drop}
use borrow.Author.Tests.{eqb-true, not-false}
use Rattle.std.specs.List.{list_all}
use Rattle.bases.specs.Letter.{writes?, letter_among, letter_of, is_letter?, all_letters?, bases_of}
use Rattle.bases.proofs.TestLaws.{both, either, of_true, is_true, is_false}
use Rattle.bases.specs.Pick.{pick}

-- A, C, G, N or T.
abbrev pub Upper : ℕ → Type 0
Upper x = (x ≡ 65) ⊎ ((x ≡ 67) ⊎ ((x ≡ 71) ⊎ ((x ≡ 78) ⊎ (x ≡ 84))))

-- The byte writes the letter x, in upper or in lower case.
abbrev pub Writes : ℕ → ℕ → Type 0
Writes b x = (b ≡ x) ⊎ (b ≡ x + 32)

-- The byte writes a letter.
abbrev pub Letter : ℕ → Type 0
Letter b = (x : ℕ) × Upper x × Writes b x

-- each letter is itself, and in lower case too
upper_self : (x : ℕ) → Upper x → letter_of x ≡ x
unfolding letter_of letter_among
upper_self x (inl e) = rw e
upper_self x (inr (inl e)) = rw e
upper_self x (inr (inr (inl e))) = rw e
upper_self x (inr (inr (inr (inl e)))) = rw e
upper_self x (inr (inr (inr (inr e)))) = rw e

lower_self : (x : ℕ) → Upper x → letter_of (x + 32) ≡ x
unfolding letter_of letter_among
lower_self x (inl e) = rw e
lower_self x (inr (inl e)) = rw e
lower_self x (inr (inr (inl e))) = rw e
lower_self x (inr (inr (inr (inl e)))) = rw e
lower_self x (inr (inr (inr (inr e)))) = rw e

pub letter_is : (b x : ℕ) → Upper x → Writes b x → letter_of b ≡ x
letter_is b x u (inl e) = rw e (upper_self x u)
letter_is b x u (inr e) = rw e (lower_self x u)

writes : (b x : ℕ) → T (writes? b x) → Writes b x
writes b x t = ⊎_elim (λ h. inl (eqb→eq b x h)) (λ h. inr (eqb→eq b (x + 32) h)) ((either (eqb b x) (eqb b (x + 32))).0 t)

-- The byte is no letter, or writes the one that it is.
pub letter_upper : (b : ℕ) → (letter_of b ≡ 0) ⊎ (Upper (letter_of b) × Writes b (letter_of b))
unfolding letter_of letter_among
letter_upper b =
    go 65 _ (inl refl) (go 67 _ (inr (inl refl)) (go 71 _ (inr (inr (inl refl))) (go 78 _ (inr (inr (inr (inl refl)))) (go 84 0 (inr (inr (inr (inr refl)))) (inl refl)))))
  where
    by : (x y : ℕ) (t : Bool) → (T t → Writes b x) → Upper x → (y ≡ 0) ⊎ (Upper y × Writes b y) → (pick t x y ≡ 0) ⊎ (Upper (pick t x y) × Writes b (pick t x y))
    by x y true w u r = inr (u, w tt)
    by x y false w u r = r

    go : (x y : ℕ) → Upper x → (y ≡ 0) ⊎ (Upper y × Writes b y) → (pick (writes? b x) x y ≡ 0) ⊎ (Upper (pick (writes? b x) x y) × Writes b (pick (writes? b x) x y))
    go x y u r = by x y (writes? b x) (writes b x) u r

-- no letter is 0
upper_some : (x : ℕ) → Upper x → eqb x 0 ≡ false
upper_some x (inl e) = rw e
upper_some x (inr (inl e)) = rw e
upper_some x (inr (inr (inl e))) = rw e
upper_some x (inr (inr (inr (inl e)))) = rw e
upper_some x (inr (inr (inr (inr e)))) = rw e

pub letter_iff : (b : ℕ) → T (is_letter? b) ↔ Letter b
letter_iff b = (λ t. ⊎_elim (λ z. absurd (rw z at t)) (λ w. (letter_of b, w.0, w.1)) (letter_upper b), of)
  where
    of : Letter b → T (is_letter? b)
    of (x, u, w) = rw (letter_is b x u w, upper_some x u) tt

-- A letter in upper case is one, and so is one in lower case; a byte that is neither is none.
pub upper_letter : (b : ℕ) → Upper b → is_letter? b ≡ true
upper_letter b u = is_true (is_letter? b) ((letter_iff b).1 (b, u, inl refl))

abbrev Lower : ℕ → Type 0
Lower b = (b ≡ 97) ⊎ ((b ≡ 99) ⊎ ((b ≡ 103) ⊎ ((b ≡ 110) ⊎ (b ≡ 116))))

of_lower : (b : ℕ) → Lower b → Letter b
of_lower b (inl e) = (65, inl refl, inr e)
of_lower b (inr (inl e)) = (67, inr (inl refl), inr e)
of_lower b (inr (inr (inl e))) = (71, inr (inr (inl refl)), inr e)
of_lower b (inr (inr (inr (inl e)))) = (78, inr (inr (inr (inl refl))), inr e)
of_lower b (inr (inr (inr (inr e)))) = (84, inr (inr (inr (inr refl))), inr e)

to_lower : (b x : ℕ) → Upper x → b ≡ x + 32 → Lower b
to_lower b x (inl e) h = inl (h ∙ rw e)
to_lower b x (inr (inl e)) h = inr (inl (h ∙ rw e))
to_lower b x (inr (inr (inl e))) h = inr (inr (inl (h ∙ rw e)))
to_lower b x (inr (inr (inr (inl e)))) h = inr (inr (inr (inl (h ∙ rw e))))
to_lower b x (inr (inr (inr (inr e)))) h = inr (inr (inr (inr (h ∙ rw e))))

pub lower_letter : (b : ℕ) → Lower b → is_letter? b ≡ true
lower_letter b l = is_true (is_letter? b) ((letter_iff b).1 (of_lower b l))

-- in either case
abbrev pub Byte : ℕ → Type 0
Byte b = (b ≡ 65) ⊎ ((b ≡ 67) ⊎ ((b ≡ 71) ⊎ ((b ≡ 78) ⊎ ((b ≡ 84) ⊎ Lower b))))

pub byte_letter : (b : ℕ) → Byte b → is_letter? b ≡ true
byte_letter b (inl e) = upper_letter b (inl e)
byte_letter b (inr (inl e)) = upper_letter b (inr (inl e))
byte_letter b (inr (inr (inl e))) = upper_letter b (inr (inr (inl e)))
byte_letter b (inr (inr (inr (inl e)))) = upper_letter b (inr (inr (inr (inl e))))
byte_letter b (inr (inr (inr (inr (inl e))))) = upper_letter b (inr (inr (inr (inr e))))
byte_letter b (inr (inr (inr (inr (inr l))))) = lower_letter b l

pub other_letter : (b : ℕ) → (Upper b → ⊥) → (Lower b → ⊥) → is_letter? b ≡ false
other_letter b n m = is_false (is_letter? b) (λ t. go ((letter_iff b).0 t))
  where
    go : Letter b → ⊥
    go (x, u, inl e) = n (subst Upper (sym e) u)
    go (x, u, inr e) = m (to_lower b x u e)

-- without the bit of lower case, 32
and_upper : (x : ℕ) → Upper x → bit_and x 223 ≡ x
and_upper x (inl e) = rw e
and_upper x (inr (inl e)) = rw e
and_upper x (inr (inr (inl e))) = rw e
and_upper x (inr (inr (inr (inl e)))) = rw e
and_upper x (inr (inr (inr (inr e)))) = rw e

and_lower : (x : ℕ) → Upper x → bit_and (x + 32) 223 ≡ x
and_lower x (inl e) = rw e
and_lower x (inr (inl e)) = rw e
and_lower x (inr (inr (inl e))) = rw e
and_lower x (inr (inr (inr (inl e)))) = rw e
and_lower x (inr (inr (inr (inr e)))) = rw e

pub letter_and : (b : ℕ) → is_letter? b ≡ true → bit_and b 223 ≡ letter_of b
letter_and b t = go ((letter_iff b).0 (of_true t))
  where
    go : Letter b → bit_and b 223 ≡ letter_of b
    go (x, u, inl e) = rw e (and_upper x u ∙ sym (upper_self x u))
    go (x, u, inr e) = rw e (and_lower x u ∙ sym (lower_self x u))

pub letter_none : (b : ℕ) → is_letter? b ≡ false → letter_of b ≡ 0
letter_none b t = eqb-true (letter_of b) 0 (not-false (eqb (letter_of b) 0) t)

-- 0 is no letter
zero_none : letter_of 0 ≡ 0
unfolding letter_of letter_among
zero_none = refl

pub letter_twice : (b : ℕ) → letter_of (letter_of b) ≡ letter_of b
letter_twice b = ⊎_elim (λ z. rw z zero_none) (λ w. upper_self (letter_of b) w.0) (letter_upper b)

pub letter_bases : (b : ℕ) → is_letter? (letter_of b) ≡ is_letter? b
letter_bases b = ap (λ (x : ℕ). not (eqb x 0)) (letter_twice b)

pub letters_all : (bs : List ℕ) → list_all is_letter? bs ≡ all_letters? bs
unfolding all_letters?
letters_all [] = refl
letters_all (b ∷ bs) = rw (letters_all bs)

pub bases_length : (bs : List ℕ) → length (bases_of bs) ≡ length bs
bases_length [] = refl
bases_length (b ∷ bs) = ap suc (bases_length bs)

pub bases_at : (bs : List ℕ) (i : ℕ) → get_or (bases_of bs) i 0 ≡ letter_of (get_or bs i 0)
unfolding letter_of letter_among
bases_at [] i = refl
bases_at (b ∷ bs) zero = refl
bases_at (b ∷ bs) (suc i) = bases_at bs i

pub bases_drop : (n : ℕ) (bs : List ℕ) → bases_of (drop n bs) ≡ drop n (bases_of bs)
bases_drop zero bs = refl
bases_drop (suc n) [] = refl
bases_drop (suc n) (b ∷ bs) = bases_drop n bs

pub bases_take : (n : ℕ) (bs : List ℕ) → bases_of (take n bs) ≡ take n (bases_of bs)
bases_take zero bs = refl
bases_take (suc n) [] = refl
bases_take (suc n) (b ∷ bs) = ap (λ (l : List ℕ). letter_of b ∷ l) (bases_take n bs)

pub bases_part : (bs : List ℕ) (a n : ℕ) → bases_of (take n (drop a bs)) ≡ take n (drop a (bases_of bs))
bases_part bs a n = bases_take n (drop a bs) ∙ ap (take n) (bases_drop a bs)

pub bases_append : (a b : List ℕ) → bases_of (a ++ b) ≡ bases_of a ++ bases_of b
bases_append [] b = refl
bases_append (x ∷ a) b = ap (λ (l : List ℕ). letter_of x ∷ l) (bases_append a b)

pub bases_twice : (bs : List ℕ) → bases_of (bases_of bs) ≡ bases_of bs
bases_twice [] = refl
bases_twice (b ∷ bs) = ap₂ (λ (x : ℕ) (l : List ℕ). x ∷ l) (letter_twice b) (bases_twice bs)

pub bases_letters : (bs : List ℕ) → all_letters? (bases_of bs) ≡ all_letters? bs
unfolding all_letters?
bases_letters [] = refl
bases_letters (b ∷ bs) = ap₂ ◌&&◌ (letter_bases b) (bases_letters bs)

pub letters_iff : (bs : List ℕ) → T (all_letters? bs) ↔ ((i : ℕ) → i < length bs → Letter (get_or bs i 0))
unfolding all_letters?
letters_iff [] = (λ t i h. absurd (not-suc-le-zero h), λ f. tt)
letters_iff (b ∷ bs) = (to (letters_iff bs), of (letters_iff bs))
  where
    Each : List ℕ → Type 0
    Each bs = (i : ℕ) → i < length bs → Letter (get_or bs i 0)

    to : T (all_letters? bs) ↔ Each bs → T (is_letter? b && all_letters? bs) → Each (b ∷ bs)
    to r t zero h = (letter_iff b).0 ((both (is_letter? b) (all_letters? bs)).0 t).0
    to r t (suc i) h = r.0 ((both (is_letter? b) (all_letters? bs)).0 t).1 i (le_of_suc-le-suc h)

    of : T (all_letters? bs) ↔ Each bs → Each (b ∷ bs) → T (is_letter? b && all_letters? bs)
    of r f =
        (both (is_letter? b) (all_letters? bs)).1
        ((letter_iff b).1 (f 0 (omega arith)), r.1 (λ i h. f (suc i) (omega arith)))
