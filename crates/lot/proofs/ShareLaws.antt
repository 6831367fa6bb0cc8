-- Laws of shares.
--     ppm_none, ppm_some       parts per million where the lower number is 0, and where it is not
--     share_none, share_some   the share likewise
--     ppm_is_floor             parts per million are the floor of a million times the fraction
--     ppm_le                   a part has no more of them than the whole
--     ppm_none_iff             NONE stands for a lower number of zero, and for nothing else
-- Assumes nothing.
use mathlib.Core.Logic.{◌↔◌, ⊎_elim}
use mathlib.Core.Path.{◌≡◌, refl, sym, ap}
use Prim.Native.Nat.{ℕ, zero, suc, ◌+◌, ◌*◌, ◌/◌, ◌≤◌, ◌<◌, zero-le}
use native.Mathlib.Nat.{div-mul-le_self, lt-mul-div-succ, div-le_of_le-mul, eq-or-lt_of_le, mul_comm}
use native.Mathlib.Omega.{arith}
use Rattle.lot.specs.Share.{million, NONE, ppm_of, share, share_of}

pub ppm_none : (top bottom : ℕ) → bottom ≡ 0 → ppm_of top bottom ≡ NONE
ppm_none top bottom e = ap (ppm_of top) e

pub ppm_some : (top bottom : ℕ) → 0 < bottom → ppm_of top bottom ≡ million * top / bottom
ppm_some top zero h = absurd (omega arith)
ppm_some top (suc n) h = refl

pub share_none : (top bottom : ℕ) → bottom ≡ 0 → share top bottom NONE ≡ share_of top bottom
share_none top bottom e = ap (share top bottom) (sym (ppm_none top bottom e))

pub share_some : (top bottom : ℕ) → 0 < bottom → share top bottom (million * top / bottom) ≡ share_of top bottom
share_some top bottom h = ap (share top bottom) (sym (ppm_some top bottom h))

pub ppm_is_floor : (top bottom : ℕ) → 0 < bottom
    → (ppm_of top bottom * bottom ≤ million * top) × (million * top < (ppm_of top bottom + 1) * bottom)
ppm_is_floor top zero h = absurd (omega arith)
ppm_is_floor top (suc n) h =
    (div-mul-le_self (million * top) (suc n), rw (mul_comm (million * top / suc n + 1) (suc n)) (lt-mul-div-succ (million * top) h))

pub ppm_le : (top bottom : ℕ) → 0 < bottom → top ≤ bottom → ppm_of top bottom ≤ million
ppm_le top bottom h l =
    let few : million * top ≤ bottom * million = omega arith in
    rw (ppm_some top bottom h) (div-le_of_le-mul bottom few)

-- NONE stands for a lower number of zero, and for nothing else.
pub ppm_none_iff : (top bottom : ℕ) → top ≤ bottom → (ppm_of top bottom ≡ NONE) ↔ (bottom ≡ 0)
ppm_none_iff top bottom l = (λ e. ⊎_elim (λ z. sym z) (λ some. absurd (omega (arith, e, ppm_le top bottom some l))) (eq-or-lt_of_le zero-le), ppm_none top bottom)
