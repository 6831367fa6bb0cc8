-- Tests in their order: the first that holds is the one that is told.
-- Assumes nothing: these are definitions.
use Rattle.std.specs.Prelude.{Bool, List, [], ◌∷◌}
use Rattle.bases.specs.Pick.{pick}

-- Whether something holds, and what is then told.
pub record Test (A : Type 0) : Type 0 where
  pub holds : Bool
  pub told : A

abbrev pub test : {A : Type 0} → Bool → A → Test A
test t a = record { holds = t; told = a }

-- What the first that holds tells; `none` where none does.
unfoldable pub first_told : {A : Type 0} → A → List (Test A) → A
first_told none [] = none
first_told none (t ∷ ts) = pick t.holds t.told (first_told none ts)
