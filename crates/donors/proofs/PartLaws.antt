-- Laws of a part of the reference, from a up to, not including, c.
--     drop_on         what is left behind b is what is left of what is left behind a
--     part_split      a part falls into two at any place inside it
--     rest_split      what is left behind a is a part, and what is left behind that
--     part_length     how long a part is
-- Assumes nothing.
use mathlib.Core.List.{List, ◌++◌}
use mathlib.Core.Path.{◌≡◌, sym, ap, ◌∙◌}
use Prim.Native.Nat.{ℕ, ◌+◌, ◌-◌, ◌≤◌}
use native.Mathlib.Omega.{arith}
use lib.ListN.{length, take, drop, length-drop, take-append-drop}
use lib.Seq.{length-take-le, take-add, drop-drop}
use Rattle.donors.specs.Donor.{part}

pub drop_on : (R : List ℕ) (a b : ℕ) → a ≤ b → drop (b - a) (drop a R) ≡ drop b R
drop_on R a b h =
    let e : a + (b - a) ≡ b = omega arith in
    drop-drop (b - a) a R ∙ ap (λ (n : ℕ). drop n R) e

pub part_split : (R : List ℕ) (a b c : ℕ) → a ≤ b → b ≤ c → part R a c ≡ part R a b ++ part R b c
part_split R a b c h k =
    let e : c - a ≡ (b - a) + (c - b) = omega arith in
    ap (λ (n : ℕ). take n (drop a R)) e
    ∙ take-add (b - a) (c - b) (drop a R)
    ∙ ap (λ (l : List ℕ). part R a b ++ take (c - b) l) (drop_on R a b h)

pub rest_split : (R : List ℕ) (a b : ℕ) → a ≤ b → drop a R ≡ part R a b ++ drop b R
rest_split R a b h = sym (take-append-drop (b - a) (drop a R)) ∙ ap (λ (l : List ℕ). part R a b ++ l) (drop_on R a b h)

pub part_length : (R : List ℕ) (a c : ℕ) → c ≤ length R → length (part R a c) ≡ c - a
part_length R a c h = length-take-le (c - a) (drop a R) (omega (arith, length-drop a R))
