-- Laws of tests in their order, in document 01's words: "The first found is answered", "A refusal is given only when its row holds", and what
-- has no fault is answered. Stated of any tests, whatever they tell: `none` is what is told where none holds, and what is told has a number.
--     NoneHolds, First, Numbered       none holds; what is told is that of the first that holds; one that holds is not numbered 0
--     none_join                        none of two lists' holds exactly if none of either's does
--     first_holds, first_not, first_past   what is told, by the test in front; tests of which none holds may stand in front
--     first_none, none_holds           `none` is told where none holds, and number 0 only there
--     first_keeps, first_goes          tests behind others: where one of those holds they are not reached, else they decide
--     first_found, first_first         what is told says which test is the first that holds, and that test says what is told
--     first_not_zero                   the first that holds is not numbered 0
--     AllTold, first_all               what is so of all that may be told is so of what is told
--     all_told?, all_told               the same, by a test
--     refused_iff, answered_iff        something with a number is told exactly if it is the first; `none` exactly if none holds
-- Assumes nothing.
use mathlib.Core.Bool.{Bool, true, false, ◌&&◌}
use mathlib.Core.List.{List, [], ◌∷◌, ◌++◌}
use mathlib.Core.Logic.{◌↔◌, ◌≢◌}
use mathlib.Core.Path.{◌≡◌, refl, sym, ap, ◌∙◌}
use Prim.Native.Nat.{ℕ}
use lib.Dec.{T}
use Rattle.bases.specs.First.{Test, first_told}
use Rattle.bases.specs.Pick.{pick}
use Rattle.bases.proofs.TestLaws.{of_true, is_true, both}

-- None of these holds.
abbrev pub NoneHolds : {A : Type 0} → List (Test A) → Type 0
NoneHolds [] = Unit {0}
NoneHolds (t ∷ ts) = (t.holds ≡ false) × NoneHolds ts

pub none_join : {A : Type 0} (ts us : List (Test A)) → NoneHolds (ts ++ us) ↔ (NoneHolds ts × NoneHolds us)
none_join [] us = (λ h. (tt, h), λ h. h.1)
none_join (t ∷ ts) us = (λ h. let r = (none_join ts us).0 h.1 in ((h.0, r.0), r.1), λ h. (h.0.0, (none_join ts us).1 (h.0.1, h.1)))

-- a is what the first of these that holds tells: it stands among them, it holds, and none before it does.
pub record First {A : Type 0} (a : A) (ts : List (Test A)) : Type 0 where
  pub before : List (Test A)
  pub found : Test A
  pub after : List (Test A)
  pub split : ts ≡ before ++ (found ∷ after)
  pub told : found.told ≡ a
  pub holds : T found.holds
  pub none : NoneHolds before

-- P is so of what each of these tells.
abbrev pub AllTold : {A : Type 0} → (A → Type 0) → List (Test A) → Type 0
AllTold P [] = Unit {0}
AllTold P (t ∷ ts) = P t.told × AllTold P ts

abbrev pub all_told? : {A : Type 0} → (A → Bool) → List (Test A) → Bool
all_told? p [] = true
all_told? p (t ∷ ts) = p t.told && all_told? p ts

pub all_told : {A : Type 0} (p : A → Bool) (ts : List (Test A)) → T (all_told? p ts) → AllTold (λ (a : A). T (p a)) ts
all_told p [] h = tt
all_told p (t ∷ ts) h = let s = (both (p t.told) (all_told? p ts)).0 h in (s.0, all_told p ts s.1)

module _ {A : Type 0} (none : A) where
  pub first_holds : (t : Test A) (ts : List (Test A)) → t.holds ≡ true → first_told none (t ∷ ts) ≡ t.told
  unfolding first_told
  first_holds t ts e = rw e

  pub first_not : (t : Test A) (ts : List (Test A)) → t.holds ≡ false → first_told none (t ∷ ts) ≡ first_told none ts
  unfolding first_told
  first_not t ts e = rw e

  pub first_past : (before ts : List (Test A)) → NoneHolds before → first_told none (before ++ ts) ≡ first_told none ts
  first_past [] ts h = refl
  first_past (t ∷ before) ts h = first_not t (before ++ ts) h.0 ∙ first_past before ts h.1

  pub first_none : (ts : List (Test A)) → NoneHolds ts → first_told none ts ≡ none
  unfolding first_told
  first_none [] h = refl
  first_none (t ∷ ts) h = first_not t ts h.0 ∙ first_none ts h.1

  pub first_first : (ts : List (Test A)) (a : A) → First a ts → first_told none ts ≡ a
  first_first ts a s =
      ap (first_told none) s.split
      ∙ first_past s.before (s.found ∷ s.after) s.none
      ∙ first_holds s.found s.after (is_true s.found.holds s.holds)
      ∙ s.told

  pub first_all : (P : A → Type 0) → P none → (ts : List (Test A)) → AllTold P ts → P (first_told none ts)
  unfolding first_told
  first_all P z [] h = z
  first_all P z (t ∷ ts) h = go t.holds (first_all P z ts h.1)
    where
      go : (b : Bool) → P (first_told none ts) → P (pick b t.told (first_told none ts))
      go true r = h.0
      go false r = r

  module _ (number : A → ℕ) where
    -- One of these that holds is not numbered 0.
    abbrev pub Numbered : List (Test A) → Type 0
    Numbered [] = Unit {0}
    Numbered (t ∷ ts) = (T t.holds → number t.told ≢ 0) × Numbered ts

    pub none_holds : (ts : List (Test A)) → Numbered ts → number (first_told none ts) ≡ 0 → NoneHolds ts
    unfolding first_told
    none_holds [] n e = tt
    none_holds (t ∷ ts) n e = go t.holds refl (none_holds ts n.1) e
      where
        go : (b : Bool) → t.holds ≡ b → (number (first_told none ts) ≡ 0 → NoneHolds ts) → number (pick b t.told (first_told none ts)) ≡ 0 → NoneHolds (t ∷ ts)
        go true h f e = absurd (n.0 (of_true h) e)
        go false h f e = (h, f e)

    pub first_goes : (ts us : List (Test A)) → Numbered ts → number (first_told none ts) ≡ 0 → first_told none (ts ++ us) ≡ first_told none us
    first_goes ts us n e = first_past ts us (none_holds ts n e)

    numbered_at : (before : List (Test A)) (t : Test A) (after : List (Test A)) → Numbered (before ++ (t ∷ after)) → T t.holds → number t.told ≢ 0
    numbered_at [] t after n = n.0
    numbered_at (b ∷ before) t after n = numbered_at before t after n.1

    pub first_not_zero : (ts : List (Test A)) (a : A) → Numbered ts → First a ts → number a ≢ 0
    first_not_zero ts a n s e = numbered_at s.before s.found s.after (rw s.split at n) s.holds (ap number s.told ∙ e)

    module _ (zero : number none ≡ 0) where
      pub first_keeps : (ts us : List (Test A)) → number (first_told none ts) ≢ 0 → first_told none (ts ++ us) ≡ first_told none ts
      unfolding first_told
      first_keeps [] us n = absurd (n zero)
      first_keeps (t ∷ ts) us n = go t.holds (first_keeps ts us) n
        where
          go : (b : Bool) → (number (first_told none ts) ≢ 0 → first_told none (ts ++ us) ≡ first_told none ts) → number (pick b t.told (first_told none ts)) ≢ 0
              → pick b t.told (first_told none (ts ++ us)) ≡ pick b t.told (first_told none ts)
          go true f n = refl
          go false f n = f n

      pub first_found : (ts : List (Test A)) (a : A) → number a ≢ 0 → first_told none ts ≡ a → First a ts
      unfolding first_told
      first_found [] a n e = absurd (n (sym (ap number e) ∙ zero))
      first_found (t ∷ ts) a n e = go t.holds refl (first_found ts a n) e
        where
          go : (b : Bool) → t.holds ≡ b → (first_told none ts ≡ a → First a ts) → pick b t.told (first_told none ts) ≡ a → First a (t ∷ ts)
          go true h f e =
              record { before = []; found = t; after = ts; split = refl; told = e; holds = of_true h; none = tt }
          go false h f e =
              let s = f e in
              record {
                before = t ∷ s.before;
                found = s.found;
                after = s.after;
                split = ap (λ (l : List (Test A)). t ∷ l) s.split;
                told = s.told;
                holds = s.holds;
                none = (h, s.none);
              }

      pub refused_iff : (ts : List (Test A)) → Numbered ts → (a : A) → ((first_told none ts ≡ a) × (number a ≢ 0)) ↔ First a ts
      refused_iff ts n a = (λ p. first_found ts a p.1 p.0, λ s. (first_first ts a s, first_not_zero ts a n s))

      pub answered_iff : (ts : List (Test A)) → Numbered ts → (first_told none ts ≡ none) ↔ NoneHolds ts
      answered_iff ts n = (λ e. none_holds ts n (ap number e ∙ zero), first_none ts)
