-- Laws of parts of a list, in the form that a part of a slice has.
--     tail_part     the part from q to the end
--     part_part     a part of a part
-- Assumes nothing.
use mathlib.Core.List.{List, [], ◌∷◌}
use mathlib.Core.Path.{◌≡◌, refl, ap, ◌∙◌}
use Prim.Native.Nat.{ℕ, zero, suc, ◌+◌, ◌-◌, ◌≤◌}
use native.Mathlib.Omega.{arith}
use lib.ListN.{length, take, drop, length-drop}
use lib.Seq.{take_all, take-take, drop-drop}

pub tail_part : (s : List ℕ) (q : ℕ) → take (length s - q) (drop q s) ≡ drop q s
tail_part s q = take_all (length s - q) (drop q s) (rw length-drop (omega arith))

-- what is taken behind a longer front
take_drop_take : (b u n : ℕ) (s : List ℕ) → b + n ≤ u → take n (drop b (take u s)) ≡ take n (drop b s)
take_drop_take zero u n s h = take-take n u s (omega arith)
take_drop_take (suc b) zero n s h = absurd (omega arith)
take_drop_take (suc b) (suc u) n [] h = refl
take_drop_take (suc b) (suc u) n (x ∷ s) h = take_drop_take b u n s (omega arith)

pub part_part : (s : List ℕ) (a u b n : ℕ) → b + n ≤ u → take n (drop b (take u (drop a s))) ≡ take n (drop (a + b) s)
part_part s a u b n h = take_drop_take b u n (drop a s) h ∙ ap (take n) (drop-drop b a s)
