-- The gap lemma.
--     split_same     two splits of one list at one length are one split
--     cancel_right   lists that end alike begin alike
--     shifted        a stretch that stands at two places d apart of one list has the period d
--     gap_same       two lists share a stretch at places at most g apart; if it has no period q with 1 ≤ q ≤ g, they agree before it and behind it
-- Assumes nothing.
use mathlib.Core.List.{List, ◌++◌}
use mathlib.Core.Logic.{inl, inr}
use mathlib.Core.Path.{◌≡◌, refl, sym, ap, ◌∙◌}
use Prim.Native.Nat.{ℕ, ◌+◌, ◌-◌, ◌≤◌}
use native.Mathlib.Omega.{arith}
use lib.ListN.{length, take, drop, get_or, length-append, get_or-append}
use lib.Seq.{take_at, drop_at, get_or-append-add, take-append_seam, drop-append_seam}
use Rattle.bases.specs.Period.{Period, NoPeriod}
use Rattle.matching.proofs.OrderLaws.{Tri, tri}

pub split_same : (x1 x2 u1 u2 : List ℕ) → length x1 ≡ length x2 → x1 ++ u1 ≡ x2 ++ u2 → (x1 ≡ x2) × (u1 ≡ u2)
split_same x1 x2 u1 u2 l e = (
  sym (take-append_seam x1 u1) ∙ ap (take (length x1)) e ∙ take_at x2 u2 (length x1) (sym l),
  sym (drop-append_seam x1 u1) ∙ ap (drop (length x1)) e ∙ drop_at x2 u2 (length x1) (sym l),
)

pub cancel_right : (x1 x2 z : List ℕ) → x1 ++ z ≡ x2 ++ z → x1 ≡ x2
cancel_right x1 x2 z e = (split_same x1 x2 z z (omega (arith, length-append x1 z, length-append x2 z, ap length e)) e).0

pub shifted : (x1 x2 y z1 z2 : List ℕ) (d : ℕ) → x1 ++ (y ++ z1) ≡ x2 ++ (y ++ z2) → length x1 ≡ length x2 + d → Period d y
shifted x1 x2 y z1 z2 d e l i h =
    let p : length x1 + i ≡ length x2 + (i + d) = omega arith in
    let a : get_or (y ++ z1) i 0 ≡ get_or y i 0 = get_or-append y z1 0 i (omega arith) in
    let b : get_or (y ++ z2) (i + d) 0 ≡ get_or y (i + d) 0 = get_or-append y z2 0 (i + d) h in
    cc (get_or-append-add x1 (y ++ z1) i 0, get_or-append-add x2 (y ++ z2) (i + d) 0)

pub gap_same : (x1 x2 y z1 z2 : List ℕ) (g : ℕ) → NoPeriod g y → length x1 ≤ length x2 + g → length x2 ≤ length x1 + g
    → x1 ++ (y ++ z1) ≡ x2 ++ (y ++ z2) → (x1 ≡ x2) × (z1 ≡ z2)
gap_same x1 x2 y z1 z2 g n a b e = go (tri (length x1) (length x2))
  where
    same : length x1 ≡ length x2 → (x1 ≡ x2) × (z1 ≡ z2)
    same l = let s = split_same x1 x2 (y ++ z1) (y ++ z2) l e in (s.0, (split_same y y z1 z2 refl s.1).1)

    go : Tri (length x1) (length x2) → (x1 ≡ x2) × (z1 ≡ z2)
    go (inl h) = absurd (n (length x2 - length x1) (omega arith) (omega arith) (shifted x2 x1 y z2 z1 (length x2 - length x1) (sym e) (omega arith)))
    go (inr (inl l)) = same l
    go (inr (inr h)) = absurd (n (length x1 - length x2) (omega arith) (omega arith) (shifted x1 x2 y z1 z2 (length x1 - length x2) e (omega arith)))
