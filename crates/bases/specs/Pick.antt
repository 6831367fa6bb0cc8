-- One of two, by a test.
-- Assumes nothing: these are definitions.
use Rattle.std.specs.Prelude.{Bool, true, false}

-- The first of two where the test holds, else the second.
abbrev pub pick {ℓ} : {A : Type ℓ} → Bool → A → A → A
pick true a b = a
pick false a b = b
