-- Laws of the lines of the table.
--     run_line_few, runs_few                      the most bytes that the line of a run, and those of the runs on a text's lines, have
--     fine_first, fine_rest                       where each line is fine, so is the first, and each behind it
--     accepted_few, accepted_fine, accepted_printable
--                                                 there are 256 lines at most, and each is fine; each number of their lot can be printed
--     Listing                                     the walk over the lines, where some are left to write
--     listing_begin, listing_room, listing_more, listing_end
--                                                 before the first; there is room for a line; behind one line more; behind the last
-- Assumes nothing.
use mathlib.Core.Bool.{Bool, true, false}
use mathlib.Core.List.{List, [], ◌∷◌}
use mathlib.Core.Path.{◌≡◌, sym, ap, ◌∙◌}
use Prim.Native.Nat.{ℕ, suc, ◌+◌, ◌*◌, ◌≤◌}
use native.Mathlib.Omega.{arith}
use lib.Dec.{eqb}
use lib.ListN.{length, length-append, length-map}
use Rattle.bases.proofs.TestLaws.{neither}
use Rattle.bases.specs.Pick.{pick}
use Rattle.bases.specs.declared.put.Writer.{Writer}
use Rattle.bases.specs.Wrote.{HasRoom, Wrote}
use Rattle.bases.proofs.WroteLaws.{wrote_none, wrote_more}
use Rattle.lot.specs.declared.answer.Lot.{Lot}
use Rattle.lot.specs.Lot.{lot_of}
use Rattle.lot.specs.Run.{most_runs, large?, any_large?}
use Rattle.fields.proofs.FieldLaws.{until_within, field_length}
use Rattle.fields.specs.Bytes.{LF, TAB}
use Rattle.fields.specs.Field.{field_at}
use Rattle.vcf.specs.List.{onto, lines_of}
use Rattle.lot_report.specs.Fine.{Fine, AllFine, Accepted}
use Rattle.lot_report.specs.Printable.{Printable}
use Rattle.lot_report.specs.Run.{name_of, run_on, runs_on}
use Rattle.lot_report.specs.Table.{line_most, run_text, runs_text}
use Rattle.lot_report.proofs.LotLaws.{answered_few, answered_small, lot_printable}
use Rattle.lot_report.proofs.RunLaws.{runs_first}
use Rattle.lot_report.proofs.ShareLaws.{line_few}

pub run_line_few : (l : List ℕ) → length (run_text l) ≤ length l + line_most
run_line_few l = omega (arith, line_few (name_of l) (lot_of (run_on l ∷ [])), field_length l (field_at 0 l), until_within TAB l (field_at 0 l))

-- How many bytes lines have, without their LFs.
unfoldable pub bytes_on : List (List ℕ) → ℕ
bytes_on [] = 0
bytes_on (l ∷ ls) = length l + bytes_on ls

lines_runs_few : (ls : List (List ℕ)) → length (runs_text ls) ≤ bytes_on ls + line_most * length ls
unfolding runs_text bytes_on
lines_runs_few [] = omega arith
lines_runs_few (l ∷ ls) = omega (arith, length-append (run_text l) (runs_text ls), run_line_few l, lines_runs_few ls)

bytes_few : (t : List ℕ) → bytes_on (lines_of t) ≤ length t
unfolding lines_of bytes_on
bytes_few [] = omega arith
bytes_few (b ∷ bs) = go (eqb b LF) (lines_of bs) (bytes_few bs)
  where
    go : (x : Bool) (ls : List (List ℕ)) → bytes_on ls ≤ length bs → bytes_on (pick x ([] ∷ ls) (onto b ls)) ≤ suc (length bs)
    go true ls h = omega arith
    go false [] h = omega arith
    go false (l ∷ ls) h = omega arith

pub runs_few : (t : List ℕ) → length (runs_text (lines_of t)) ≤ length t + line_most * length (lines_of t)
runs_few t = omega (arith, lines_runs_few (lines_of t), bytes_few t)

module _ (l : List ℕ) (ls : List (List ℕ)) (f : AllFine (l ∷ ls)) where
  small : (large? (run_on l) ≡ false) × (any_large? (runs_on ls) ≡ false)
  unfolding any_large?
  small = neither (large? (run_on l)) (any_large? (runs_on ls)) f.small

  pub fine_first : Fine l
  fine_first = record { run = (runs_first l ls f.runs).0; small = small.0 }

  pub fine_rest : AllFine ls
  fine_rest = record { runs = (runs_first l ls f.runs).1; small = small.1 }

-- Of lines whose lot is answered: there are 256 at most, and each is fine; each number of the lot can be printed.
module _ (t : List ℕ) (l : Lot) (h : Accepted t l) where
  answered : (lot_of (runs_on (lines_of t))).number ≡ 0
  answered = ap (λ (l : Lot). l.number) (sym h.lot) ∙ h.answered

  pub accepted_few : length (lines_of t) ≤ most_runs
  accepted_few = omega (arith, answered_few (runs_on (lines_of t)) answered, length-map (lines_of t) run_on)

  pub accepted_fine : AllFine (lines_of t)
  accepted_fine = record { runs = h.runs; small = answered_small (runs_on (lines_of t)) answered }

  pub accepted_printable : Printable l
  accepted_printable = rw h.lot (lot_printable (runs_on (lines_of t)) answered)

-- Text s is to be written behind `old`, and what is left of it are the lines of the runs on these lines, behind `out`.
pub record Listing (old : Writer) (s : List ℕ) (ls : List (List ℕ)) (out : Writer) : Type 0 where
  pub fine : AllFine ls
  pub room : HasRoom out (bytes_on ls + line_most * length ls)
  pub left : (m : Writer) → Wrote out (runs_text ls) m → Wrote old s m

module _ (old : Writer) where
  pub listing_begin : (t : List ℕ) → AllFine (lines_of t) → HasRoom old (length t + line_most * length (lines_of t)) → Listing old (runs_text (lines_of t)) (lines_of t) old
  listing_begin t f m = record { fine = f; room = omega (arith, m, bytes_few t); left = λ m w. w }

  module _ (s : List ℕ) (out : Writer) where
    pub listing_end : Listing old s [] out → Wrote old s out
    unfolding runs_text
    listing_end w = w.left out (wrote_none out)

    module _ (l : List ℕ) (ls : List (List ℕ)) (w : Listing old s (l ∷ ls) out) where
      pub listing_room : HasRoom out (length l + line_most)
      unfolding bytes_on
      listing_room = omega (arith, w.room)

      pub listing_more : (new : Writer) → Wrote out (run_text l) new → Listing old s ls new
      unfolding runs_text bytes_on
      listing_more new v = record {
        fine = fine_rest l ls w.fine;
        room = omega (arith, w.room, run_line_few l, v.at, v.long);
        left = λ m u. w.left m (wrote_more (omega (arith, w.room)) v u);
      }
