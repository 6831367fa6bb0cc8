-- A share: a fraction as two whole numbers, and as parts per million rounded down.
-- Assumes nothing: these are definitions.
use Rattle.std.specs.Prelude.{ℕ, zero, suc, ◌*◌, ◌/◌}
use Rattle.lot.specs.declared.share.Share.{Share}

-- The whole, in parts.
abbrev pub million : ℕ
million = 1000000

-- What stands for 'no parts per million'.
abbrev pub NONE : ℕ
NONE = 4294967295

-- Parts per million of a fraction, rounded down; none where its lower number is zero.
abbrev pub ppm_of : ℕ → ℕ → ℕ
ppm_of top zero = NONE
ppm_of top (suc n) = million * top / suc n

abbrev pub share : ℕ → ℕ → ℕ → Share
share top bottom ppm = record { top = top; bottom = bottom; ppm = ppm }

abbrev pub share_of : ℕ → ℕ → Share
share_of top bottom = share top bottom (ppm_of top bottom)
