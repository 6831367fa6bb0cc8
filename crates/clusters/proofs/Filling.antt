-- A walk that writes what it finds into lent room, one record after another from the first on.
--     Filling        the records that are left, written from place k on, give all of them
--     fill_begin     so it is before the first
--     fill_room      where one is left there is room for it
--     fill_more      so it is behind one more
--     fill_end       where none is left, all are written, and there are k
-- Assumes nothing.
use mathlib.Core.List.{List, [], ◌∷◌}
use mathlib.Core.Path.{◌≡◌, refl, sym, ap, ◌∙◌}
use Prim.Native.Nat.{ℕ, ◌+◌, ◌≤◌, ◌<◌}
use native.Mathlib.Omega.{arith}
use lib.ListN.{length, set}
use Rattle.bases.specs.Put.{put}
use Rattle.bases.proofs.PutLaws.{put_length, put_none, put_put, put_set}

pub record Filling {A : Type 0} (all lent left : List A) (k : ℕ) (now : List A) : Type 0 where
  pub count : k + length left ≡ length all
  pub long : length now ≡ length lent
  pub written : put now k left ≡ put lent 0 all

module _ {A : Type 0} (all lent : List A) where
  pub fill_begin : (left : List A) → left ≡ all → Filling all lent left 0 lent
  fill_begin left e = record { count = omega (arith, ap length e); long = refl; written = ap (put lent 0) e }

  module _ {left : List A} {k : ℕ} {now : List A} (f : Filling all lent left k now) where
    pub fill_end : left ≡ [] → (k ≡ length all) × (now ≡ put lent 0 all)
    fill_end e = (omega (arith, f.count, ap length e), sym (put_none now k) ∙ rw e at f.written)

    module _ {x : A} {others : List A} (e : left ≡ x ∷ others) (room : length all ≤ length lent) where
      pub fill_room : k < length now
      fill_room = omega (arith, f.count, f.long, ap length e)

      pub fill_more : Filling all lent others (k + 1) (set now k x)
      fill_more =
          let one = put_set now k x fill_room in
          let long : length (put now k (x ∷ [])) ≡ length now = put_length now k (omega (arith, fill_room)) (x ∷ []) (omega (arith, fill_room)) in
          record {
            count = omega (arith, f.count, ap length e);
            long = ap length one ∙ long ∙ f.long;
            written = rw one (put_put now k (omega (arith, fill_room)) (x ∷ []) others) ∙ rw e at f.written;
          }
