-- What a walk leans on can be so in one way only: so the ghost field of `Lists` can say it.
-- Assumes nothing.
use Rattle.std.specs.Prelude.{List, [], ◌∷◌, ℕ}
use Rattle.std.specs.Coded.{×_prop, Unit-prop}
use Rattle.std.proofs.Props.{props}
use Rattle.donors.specs.Apart.{All}
use Rattle.clusters.specs.declared.heads.Heads.{Heads}
use Rattle.clusters.specs.Heads.{Ready}

All-prop : {A : Type 0} (P : A → Type 0) → ((x : A) → IsProp (P x)) → (xs : List A) → IsProp (All P xs)
All-prop P p [] = Unit-prop
All-prop P p (x ∷ xs) = ×_prop (p x) (All-prop P p xs)

pub Ready-prop : (reference first second : List ℕ) (h : Heads) → IsProp (Ready reference first second h)
Ready-prop reference first second h = Prim.hlevel (All-prop, props)
