-- The clusters' numbers of items, one an item, by a walk over the items and by the plan's records.
--     cut_nothing                         before the first item of all the rule cuts
--     numbers_plan                        they are those of the plan's records
--     numbers_length, numbers_all         one an item; one an entry
--     Covers, number_covers               each entry's number is that of the record that has it
-- Assumes nothing.
use mathlib.Core.Bool.{Bool, true, false}
use mathlib.Core.List.{List, [], ◌∷◌, ◌++◌, append-nil}
use mathlib.Core.Path.{◌≡◌, refl, sym, ap, ◌∙◌}
use Prim.Native.Nat.{ℕ, zero, suc, ◌+◌, ◌-◌, ◌≤◌, ◌<◌}
use native.Mathlib.Decide.{dec_lt}
use native.Mathlib.Omega.{arith}
use borrow.Author.Tests.{le-leb}
use lib.ListN.{length, get_or, replicate, length-append, length-replicate, get_or-replicate, get_or-append}
use lib.Seq.{get_or-append-add}
use Rattle.bases.specs.declared.place.Place.{Place}
use Rattle.donors.specs.Choice.{card_rules}
use Rattle.donors.specs.Rules.{Rules}
use Rattle.clusters.specs.declared.gap.Current.{Current}
use Rattle.clusters.specs.declared.plan.Cluster.{Cluster}
use Rattle.marks.specs.Counts.{one}
use Rattle.clusters.specs.Gap.{size_of, more, nothing, begin, cut?}
use Rattle.clusters.specs.Item.{variant}
use Rattle.listed.specs.Listed.{numbers_from}
use Rattle.listed.specs.Listing.{grown, numbers_on}
use Rattle.clusters.specs.Merged.{merged_items, merged_variants}
use Rattle.clusters.specs.Plan.{onto, rest, plan, records_from, plan_of}
use Rattle.clusters.proofs.CardClusters.{map_length}
use Rattle.clusters.proofs.PlanLaws.{onto_onto, rest_none, rest_cut, rest_more}

pub cut_nothing : (R : List ℕ) (p : Place) → cut? R nothing p ≡ true
cut_nothing R p = rw (le-leb 0 p.0 (omega arith))

-- n times k, and k once more
once_more : (n k : ℕ) (ks : List ℕ) → replicate (n + 1) k ++ ks ≡ replicate n k ++ (k ∷ ks)
once_more zero k ks = refl
once_more (suc n) k ks =
    let e : suc n + 1 ≡ suc (n + 1) = omega arith in
    rw e (ap (λ (l : List ℕ). k ∷ l) (once_more n k ks))

module _ {X C H : Type 0} (𝓡 : Rules X C H) (R : List ℕ) where
  pub numbers_length : (c : Current) (b : ℕ) (xs : List X) → length (numbers_on 𝓡 R c b xs) ≡ length xs
  unfolding numbers_on
  numbers_length c b [] = refl
  numbers_length c b (x ∷ xs) =
      let cut = cut? R c (size_of 𝓡 x).start in
      ap suc (numbers_length (grown c (size_of 𝓡 x) cut) (b + one cut) xs)

  numbers_cut : (c : Current) (b : ℕ) (x : X) (xs : List X) → cut? R c (size_of 𝓡 x).start ≡ true
      → numbers_on 𝓡 R c b (x ∷ xs) ≡ b ∷ numbers_on 𝓡 R (begin (size_of 𝓡 x)) (b + 1) xs
  unfolding numbers_on
  numbers_cut c b x xs e =
      let m : b + 1 - 1 ≡ b = omega arith in
      rw (e, m)

  numbers_more : (c : Current) (b : ℕ) (x : X) (xs : List X) → cut? R c (size_of 𝓡 x).start ≡ false
      → numbers_on 𝓡 R c (b + 1) (x ∷ xs) ≡ b ∷ numbers_on 𝓡 R (more c (size_of 𝓡 x)) (b + 1) xs
  unfolding numbers_on
  numbers_more c b x xs e =
      let z : b + 1 + 0 ≡ b + 1 = omega arith in
      let m : b + 1 - 1 ≡ b = omega arith in
      rw (e, z, m)

  -- the clusters of which the first, number k, has d already
  numbers_rest : (d : List X) (c : Current) (k i : ℕ) (xs : List X)
      → numbers_from k (records_from i (onto d (rest 𝓡 R c xs))) ≡ replicate (length d) k ++ numbers_on 𝓡 R c (k + 1) xs
  unfolding numbers_from records_from numbers_on
  numbers_rest d c k i [] = rw (rest_none 𝓡 R c, append-nil d)
  numbers_rest d c k i (x ∷ xs) =
      go (cut? R c (size_of 𝓡 x).start) refl (λ (j : ℕ). numbers_rest (x ∷ []) (begin (size_of 𝓡 x)) (k + 1) j xs) (numbers_rest (d ++ (x ∷ [])) (more c (size_of 𝓡 x)) k i xs)
    where
      go : (t : Bool) → cut? R c (size_of 𝓡 x).start ≡ t
          → ((j : ℕ) → numbers_from (k + 1) (records_from j (onto (x ∷ []) (rest 𝓡 R (begin (size_of 𝓡 x)) xs))) ≡ replicate 1 (k + 1) ++ numbers_on 𝓡 R (begin (size_of 𝓡 x)) (k + 1 + 1) xs)
          → numbers_from k (records_from i (onto (d ++ (x ∷ [])) (rest 𝓡 R (more c (size_of 𝓡 x)) xs))) ≡ replicate (length (d ++ (x ∷ []))) k ++ numbers_on 𝓡 R (more c (size_of 𝓡 x)) (k + 1) xs
          → numbers_from k (records_from i (onto d (rest 𝓡 R c (x ∷ xs)))) ≡ replicate (length d) k ++ numbers_on 𝓡 R c (k + 1) (x ∷ xs)
      go true e f g = rw (rest_cut 𝓡 R c x xs e, numbers_cut c (k + 1) x xs e, append-nil d) (ap (λ (l : List ℕ). replicate (length d) k ++ l) (f (i + length d)))
      go false e f g =
          let n : length (d ++ (x ∷ [])) ≡ length d + 1 = omega (arith, length-append d (x ∷ [])) in
          rw (rest_more 𝓡 R c x xs e, numbers_more c k x xs e, onto_onto d (x ∷ []))
          (g ∙ ap (λ (m : ℕ). replicate m k ++ numbers_on 𝓡 R (more c (size_of 𝓡 x)) (k + 1) xs) n ∙ once_more (length d) k (numbers_on 𝓡 R (more c (size_of 𝓡 x)) (k + 1) xs))

  pub numbers_plan : (xs : List X) → numbers_from 0 (records_from 0 (plan 𝓡 R xs)) ≡ numbers_on 𝓡 R nothing 0 xs
  unfolding numbers_from records_from numbers_on plan
  numbers_plan [] = refl
  numbers_plan (x ∷ xs) = numbers_rest (x ∷ []) (begin (size_of 𝓡 x)) 0 0 xs ∙ sym (numbers_cut nothing 0 x xs (cut_nothing R (size_of 𝓡 x).start))

pub numbers_all : (reference first second : List ℕ) → length (numbers_from 0 (plan_of reference first second)) ≡ length (merged_items first second)
numbers_all reference first second =
    let xs = merged_variants reference first second in
    ap length (numbers_plan card_rules reference xs) ∙ numbers_length card_rules reference nothing 0 xs
    ∙ map_length (variant reference first second) (merged_items first second)

-- Number m, of the plan's records rs, has entry e.
pub record Covers (rs : List Cluster) (m e : ℕ) : Type 0 where
  pub there : m < length rs
  pub after : (c : Cluster) → (get_or rs m c).first ≤ e
  pub before : (c : Cluster) → e < (get_or rs m c).first + (get_or rs m c).count

numbers_cover : {X : Type 0} (k i : ℕ) (cs : List (List X)) (e d : ℕ) → e < length (numbers_from k (records_from i cs))
    → (k ≤ get_or (numbers_from k (records_from i cs)) e d) × Covers (records_from i cs) (get_or (numbers_from k (records_from i cs)) e d - k) (i + e)
unfolding numbers_from records_from
numbers_cover k i [] e d h = absurd (omega arith)
numbers_cover k i (c ∷ cs) e d h = go (dec_lt e (length c)) (numbers_cover (k + 1) (i + length c) cs (e - length c) d)
  where
    ks : List ℕ
    ks = numbers_from (k + 1) (records_from (i + length c) cs)

    long : length (replicate (length c) k) ≡ length c
    long = length-replicate (length c) k

    go : Dec (e < length c)
        → (e - length c < length ks → (k + 1 ≤ get_or ks (e - length c) d) × Covers (records_from (i + length c) cs) (get_or ks (e - length c) d - (k + 1)) (i + length c + (e - length c)))
        → (k ≤ get_or (replicate (length c) k ++ ks) e d) × Covers (records_from i (c ∷ cs)) (get_or (replicate (length c) k ++ ks) e d - k) (i + e)
    go (yes l) r =
        let n : get_or (replicate (length c) k ++ ks) e d ≡ k = get_or-append (replicate (length c) k) ks d e (omega (arith, long)) ∙ get_or-replicate (length c) e k d l in
        let z : k - k ≡ 0 = omega arith in
        rw (n, z) (omega arith, record { there = omega arith; after = λ x. omega arith; before = λ x. omega arith })
    go (no l) r =
        let p : e ≡ length (replicate (length c) k) + (e - length c) = omega (arith, long) in
        let n : get_or (replicate (length c) k ++ ks) e d ≡ get_or ks (e - length c) d =
        ap (λ (j : ℕ). get_or (replicate (length c) k ++ ks) j d) p ∙ get_or-append-add (replicate (length c) k) ks (e - length c) d in
        let s = r (omega (arith, long, length-append (replicate (length c) k) ks)) in
        let m : get_or ks (e - length c) d - k ≡ suc (get_or ks (e - length c) d - (k + 1)) = omega (arith, s.0) in
        rw (n, m) (
          omega (arith, s.0),
          record { there = omega (arith, s.1.there); after = λ x. omega (arith, s.1.after x); before = λ x. omega (arith, s.1.before x) },
        )

pub number_covers : {X : Type 0} (cs : List (List X)) (e d : ℕ) → e < length (numbers_from 0 (records_from 0 cs)) → Covers (records_from 0 cs) (get_or (numbers_from 0 (records_from 0 cs)) e d) e
number_covers cs e d h =
    let m = get_or (numbers_from 0 (records_from 0 cs)) e d in
    let z : m - 0 ≡ m = omega arith in
    let a : 0 + e ≡ e = omega arith in
    rw (z, a) at (numbers_cover 0 0 cs e d h).1
