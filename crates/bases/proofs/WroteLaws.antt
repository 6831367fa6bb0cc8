-- Laws of what is written one behind another.
--     wrote_none, wrote_more      nothing written; more written behind
--     wrote_room                  the room for more
-- Assumes nothing.
use mathlib.Core.List.{List, [], ◌++◌}
use mathlib.Core.Path.{refl, sym, ◌∙◌}
use Prim.Native.Nat.{ℕ, ◌+◌, ◌≤◌}
use native.Mathlib.Omega.{arith}
use lib.ListN.{length, length-append}
use Rattle.bases.specs.declared.put.Writer.{Writer}
use Rattle.bases.specs.Wrote.{Wrote}
use Rattle.bases.proofs.PutLaws.{put_none, put_more}

pub wrote_none : (o : Writer) → Wrote o [] o
wrote_none o = record { at = omega arith; room = sym (put_none o.room.now o.at); long = refl; same = refl }

pub wrote_more : {o n m : Writer} {s t : List ℕ} → o.at ≤ length o.room.now → Wrote o s n → Wrote n t m → Wrote o (s ++ t) m
wrote_more {o} {n} {m} {s} {t} fits a b =
    record {
      at = omega (arith, a.at, b.at, length-append s t);
      room = put_more o.room.now o.at s n.room.now n.at t m.room.now fits a.at a.room b.room;
      long = b.long ∙ a.long;
      same = b.same ∙ a.same;
    }

pub wrote_room : {o n : Writer} {s : List ℕ} → Wrote o s n → (u : List ℕ) → o.at + length (s ++ u) ≤ length o.room.now → n.at + length u ≤ length n.room.now
wrote_room {o} {n} {s} a u h = omega (arith, a.at, a.long, length-append s u)
