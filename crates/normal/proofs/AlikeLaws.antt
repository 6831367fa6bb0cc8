-- Laws of REF and two ALTs, as the loops look at them.
--     three_shortest               the shortest length of three
--     alike                        all have the same base, if both ALTs have that of REF
--     alike_first, alike_second    and only then
--     cuts_are                     what is cut off them, by the shortest length and how many are alike
-- Assumes nothing.
use mathlib.Core.Bool.{Bool, true}
use mathlib.Core.List.{List, [], ◌∷◌}
use mathlib.Core.Path.{◌≡◌, sym, ◌∙◌}
use Prim.Native.Nat.{ℕ, ◌+◌, ◌-◌, min}
use native.Mathlib.Omega.{arith}
use lib.Dec.{T, eqb}
use lib.ListN.{length}
use Rattle.bases.specs.declared.place.Place.{Place}
use Rattle.bases.specs.Letter.{bases_of}
use Rattle.bases.proofs.LetterLaws.{bases_length}
use Rattle.bases.proofs.TestLaws.{both, of_true, is_true}
use Rattle.normal.specs.declared.cut.Cuts.{Cuts}
use Rattle.normal.specs.Cut.{run, all?, shortest, back_alike?, front_alike?}
use Rattle.normal.specs.Spelled.{three, cuts_of}

pub three_shortest : (a b c : List ℕ) → shortest a (bases_of b ∷ bases_of c ∷ []) ≡ min (length b) (min (length c) (length a))
unfolding shortest
three_shortest a b c = rw (bases_length b, bases_length c)

-- Whether the first ALT is as REF there, and whether the second is.
module _ (h : List ℕ → ℕ) (a b c : List ℕ) where
  pub alike : {x y : Bool} → x ≡ eqb (h b) (h a) → y ≡ eqb (h c) (h a) → x ≡ true → y ≡ true → T (all? (λ l. eqb (h l) (h a)) (b ∷ c ∷ []))
  unfolding all?
  alike first second d e = (both (eqb (h b) (h a)) _).1 (of_true (sym first ∙ d), (both (eqb (h c) (h a)) _).1 (of_true (sym second ∙ e), tt))

  pub alike_first : {x : Bool} → x ≡ eqb (h b) (h a) → T (all? (λ l. eqb (h l) (h a)) (b ∷ c ∷ [])) → x ≡ true
  unfolding all?
  alike_first first t = first ∙ is_true (eqb (h b) (h a)) ((both (eqb (h b) (h a)) _).0 t).0

  pub alike_second : {y : Bool} → y ≡ eqb (h c) (h a) → T (all? (λ l. eqb (h l) (h a)) (b ∷ c ∷ [])) → y ≡ true
  unfolding all?
  alike_second second t = second ∙ is_true (eqb (h c) (h a)) ((both (eqb (h c) (h a)) _).0 ((both (eqb (h b) (h a)) _).0 t).1).0

less_one : (m q : ℕ) → m - q - 1 ≡ m - (q + 1)
less_one m q = omega arith

pub cuts_are : (r : List ℕ) (s : Place) (a b c : List ℕ) {n l m q t : ℕ} → length a ≡ n → l ≡ min (length c) n → m ≡ min (length b) l
    → q ≡ run (back_alike? r (three s a (bases_of b) (bases_of c))) (s.0 + m - 1)
    → t ≡ run (front_alike? (three s a (bases_of b) (bases_of c))) (m - q - 1)
    → ◌≡◌ {A = Cuts} record { shortest = m; back = q; front = t } (cuts_of r (three s a (bases_of b) (bases_of c)))
cuts_are r s a b c {n} {l} {m} {q} {t} en el em eq et =
    let e = three_shortest a b c in
    let d = less_one m q in
    cc
