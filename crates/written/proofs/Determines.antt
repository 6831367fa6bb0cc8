-- Each contract determines its result, and what it leaves in the room that it is lent: any two that it allows for the same arguments are equal.
-- `Post` is the contract as src/ states it.
-- Assumes nothing.
use mathlib.Core.List.{List}
use mathlib.Core.Path.{sym, ◌∙◌}
use Prim.Native.Nat.{ℕ}
use Rattle.std.proofs.Common.{Fits, w64}
use Rattle.bases.proofs.Determines.{OneResult, OneLeft}
use Rattle.written.proofs.list.write_list.Kinds as write-list-kinds
use Rattle.written.proofs.list.write_list.Reads as write-list
use Rattle.written.proofs.place.line_place.Kinds as line-place-kinds
use Rattle.written.proofs.place.line_place.Reads as line_place
use Rattle.written.proofs.put.put_decimal.Kinds as put-decimal-kinds
use Rattle.written.proofs.put.put_decimal.Reads as put-decimal
use Rattle.written.proofs.put.put_digits.Kinds as put-digits-kinds
use Rattle.written.proofs.put.put_digits.Reads as put-digits
use Rattle.written.proofs.put.move_right.Kinds as move-right-kinds
use Rattle.written.proofs.put.move_right.Reads as move-right
use Rattle.written.proofs.write.put_front.Kinds as put-front-kinds
use Rattle.written.proofs.write.put_front.Reads as put_front
use Rattle.written.proofs.write.put_back.Kinds as put-back-kinds
use Rattle.written.proofs.write.put_back.Reads as put_back
use Rattle.written.proofs.write.put_line.Kinds as put-line-kinds
use Rattle.written.proofs.write.put_line.Reads as put-line
use Rattle.written.proofs.write.put_alts.Kinds as put-alts-kinds
use Rattle.written.proofs.write.put_alts.Reads as put-alts

pub put_digits_determines : (k : ℕ) (fits : Fits w64 k) → OneLeft 3 (put-digits-kinds.ps k fits) (put-digits-kinds.r k fits) (put-digits.Post k fits) ℕ (λ κs e. e.1.1.0.now.at)
put_digits_determines k fits κs a z z' e e' p q = p.at ∙ sym q.at

pub put_digits_leaves : (k : ℕ) (fits : Fits w64 k) → OneLeft 3 (put-digits-kinds.ps k fits) (put-digits-kinds.r k fits) (put-digits.Post k fits) (List ℕ) (λ κs e. e.1.1.0.now.room.now)
put_digits_leaves k fits κs a z z' e e' p q = p.room ∙ sym q.room

pub put_decimal_determines : OneLeft 2 put-decimal-kinds.ps put-decimal-kinds.r put-decimal.Post ℕ (λ κs e. e.1.0.now.at)
put_decimal_determines κs a z z' e e' p q = p.at ∙ sym q.at

pub put_decimal_leaves : OneLeft 2 put-decimal-kinds.ps put-decimal-kinds.r put-decimal.Post (List ℕ) (λ κs e. e.1.0.now.room.now)
put_decimal_leaves κs a z z' e e' p q = p.room ∙ sym q.room

pub move_right_leaves : OneLeft 1 move-right-kinds.ps move-right-kinds.r move-right.Post (List ℕ) (λ κs e. e.0.now)
move_right_leaves κs a z z' e e' p q = p ∙ sym q

pub put_alts_determines : OneLeft 4 put-alts-kinds.ps put-alts-kinds.r put-alts.Post ℕ (λ κs e. e.1.1.1.1.0.now.at)
put_alts_determines κs a z z' e e' p q = p.at ∙ sym q.at

pub put_alts_leaves : OneLeft 4 put-alts-kinds.ps put-alts-kinds.r put-alts.Post (List ℕ) (λ κs e. e.1.1.1.1.0.now.room.now)
put_alts_leaves κs a z z' e e' p q = p.room ∙ sym q.room

pub put_front_determines : OneLeft 3 put-front-kinds.ps put-front-kinds.r put_front.Post ℕ (λ κs e. e.1.1.0.now.at)
put_front_determines κs a z z' e e' p q = p.at ∙ sym q.at

pub put_front_leaves : OneLeft 3 put-front-kinds.ps put-front-kinds.r put_front.Post (List ℕ) (λ κs e. e.1.1.0.now.room.now)
put_front_leaves κs a z z' e e' p q = p.room ∙ sym q.room

pub put_back_determines : OneLeft 4 put-back-kinds.ps put-back-kinds.r put_back.Post ℕ (λ κs e. e.1.1.1.1.0.now.at)
put_back_determines κs a z z' e e' p q = p.at ∙ sym q.at

pub put_back_leaves : OneLeft 4 put-back-kinds.ps put-back-kinds.r put_back.Post (List ℕ) (λ κs e. e.1.1.1.1.0.now.room.now)
put_back_leaves κs a z z' e e' p q = p.room ∙ sym q.room

pub put_line_determines : OneLeft 4 put-line-kinds.ps put-line-kinds.r put-line.Post ℕ (λ κs e. e.1.1.1.1.0.now.at)
put_line_determines κs a z z' e e' p q = p.at ∙ sym q.at

pub put_line_leaves : OneLeft 4 put-line-kinds.ps put-line-kinds.r put-line.Post (List ℕ) (λ κs e. e.1.1.1.1.0.now.room.now)
put_line_leaves κs a z z' e e' p q = p.room ∙ sym q.room

pub line_place_determines : OneResult 1 line-place-kinds.ps line-place-kinds.r line_place.Post
line_place_determines κs a z z' e e' p q = p ∙ sym q

pub write_list_determines : OneResult 3 write-list-kinds.ps write-list-kinds.r write-list.Post
write_list_determines κs a z z' e e' p q = p.0 ∙ sym q.0

pub write_list_leaves : OneLeft 3 write-list-kinds.ps write-list-kinds.r write-list.Post (List ℕ) (λ κs e. e.1.1.0.now)
write_list_leaves κs a z z' e e' p q = p.1 ∙ sym q.1
