-- Laws of choices in an array.
--     array_choices       choices are read again where they stand in an array
--     choices_length      as many choices are read as asked for
--     array_more          to make one more choice is to write one byte
--     array_out           which stands there already where an entry is left out
--     array_back          to write `0` over a choice just made is to take it back
-- Assumes nothing.
use mathlib.Core.List.{List, [], ◌∷◌, ◌++◌, append_assoc, map}
use mathlib.Core.Path.{◌≡◌, refl, sym, ap, ◌∙◌}
use Prim.Native.Nat.{ℕ, zero, suc, ◌+◌, ◌-◌, ◌<◌}
use native.Mathlib.Numerals.{add-one}
use native.Mathlib.Omega.{arith}
use lib.ListN.{length, set, replicate, length-append}
use lib.Seq.{set_at, set-set}
use Rattle.donors.specs.Choice.{Choice, plus, minus, out}
use Rattle.donors.specs.Table.{most, choice_of, choices_from}
use Rattle.matching.specs.Answer.{byte_of, array_of}

choices_tail : (b : ℕ) (l : List ℕ) (i n : ℕ) → choices_from (b ∷ l) (i + 1) n ≡ choices_from l i n
unfolding choices_from
choices_tail b l i zero = refl
choices_tail b l i (suc n) = rw (choices_tail b l (i + 1) n, add-one i)

choice_back : (c : Choice) → choice_of (byte_of c) ≡ c
choice_back plus = refl
choice_back minus = refl
choice_back out = refl

choices_front : (φ : List Choice) (r : List ℕ) → choices_from (map byte_of φ ++ r) 0 (length φ) ≡ φ
unfolding choices_from
choices_front [] r = refl
choices_front (c ∷ φ) r = rw (choices_tail (byte_of c) (map byte_of φ ++ r) 0 (length φ), choices_front φ r, choice_back c)

pub array_choices : (φ : List Choice) (n : ℕ) → length φ ≡ n → choices_from (array_of φ) 0 n ≡ φ
unfolding array_of
array_choices φ n e = rw (sym e) (choices_front φ (replicate (most - length φ) 48))

pub choices_length : (c : List ℕ) (i n : ℕ) → length (choices_from c i n) ≡ n
unfolding choices_from
choices_length c i zero = refl
choices_length c i (suc n) = ap suc (choices_length c (i + 1) n)

length_bytes : (φ : List Choice) → length (map byte_of φ) ≡ length φ
length_bytes [] = refl
length_bytes (c ∷ φ) = ap suc (length_bytes φ)

bytes_append : (φ : List Choice) (c : Choice) → map byte_of (φ ++ (c ∷ [])) ≡ map byte_of φ ++ (byte_of c ∷ [])
bytes_append [] c = refl
bytes_append (d ∷ φ) c = ap (λ (l : List ℕ). byte_of d ∷ l) (bytes_append φ c)

pub array_more : (φ : List Choice) (c : Choice) (k : ℕ) → length φ ≡ k → k < most → set (array_of φ) k (byte_of c) ≡ array_of (φ ++ (c ∷ []))
unfolding array_of
array_more φ c k l h =
    let e : most - length φ ≡ suc (most - length (φ ++ (c ∷ []))) = omega (arith, length-append φ (c ∷ [])) in
    let r : List ℕ = replicate (most - length (φ ++ (c ∷ []))) 48 in
    rw (e, bytes_append φ c, append_assoc) (set_at (map byte_of φ) 48 r (byte_of c) k (length_bytes φ ∙ l))

pub array_out : (φ : List Choice) → length φ < most → array_of φ ≡ array_of (φ ++ (out ∷ []))
unfolding array_of
array_out φ h =
    let e : most - length φ ≡ suc (most - length (φ ++ (out ∷ []))) = omega (arith, length-append φ (out ∷ [])) in
    rw (e, bytes_append φ out, append_assoc)

pub array_back : (φ : List Choice) (b k : ℕ) → length φ ≡ k → k < most → set (set (array_of φ) k b) k 48 ≡ array_of φ
array_back φ b k l h = set-set (array_of φ) k b 48 ∙ array_more φ out k l h ∙ sym (array_out φ (omega arith))
