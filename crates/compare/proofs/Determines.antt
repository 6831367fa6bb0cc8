-- Each contract determines what it leaves in the room that it is lent, and where its writer stands: any two that it allows for the same
-- arguments are equal. `Post` is the contract as src/ states it. Assumes nothing.
use mathlib.Core.List.{List}
use mathlib.Core.Path.{sym, ◌∙◌}
use Prim.Native.Nat.{ℕ}
use Rattle.bases.proofs.Determines.{OneLeft}
use Rattle.compare.proofs.compared.compare_given.Kinds as compare-given-kinds
use Rattle.compare.proofs.compared.compare_given.Reads as compare-given
use Rattle.compare.proofs.line.put_entry.Kinds as put-entry-kinds
use Rattle.compare.proofs.line.put_entry.Reads as put-entry
use Rattle.compare.proofs.line.put_heading.Kinds as put-heading-kinds
use Rattle.compare.proofs.line.put_heading.Reads as put-heading
use Rattle.compare.proofs.line.put_total.Kinds as put-total-kinds
use Rattle.compare.proofs.line.put_total.Reads as put-total
use Rattle.compare.proofs.text.make_text.Kinds as make-text-kinds
use Rattle.compare.proofs.text.make_text.Reads as make-text

pub put_entry_determines : OneLeft 2 put-entry-kinds.ps put-entry-kinds.r put-entry.Post ℕ (λ κs e. e.1.1.1.1.0.now.at)
put_entry_determines κs a z z' e e' p q = p.at ∙ sym q.at

pub put_entry_leaves : OneLeft 2 put-entry-kinds.ps put-entry-kinds.r put-entry.Post (List ℕ) (λ κs e. e.1.1.1.1.0.now.room.now)
put_entry_leaves κs a z z' e e' p q = p.room ∙ sym q.room

pub put_heading_determines : OneLeft 2 put-heading-kinds.ps put-heading-kinds.r put-heading.Post ℕ (λ κs e. e.0.now.at)
put_heading_determines κs a z z' e e' p q = p.at ∙ sym q.at

pub put_heading_leaves : OneLeft 2 put-heading-kinds.ps put-heading-kinds.r put-heading.Post (List ℕ) (λ κs e. e.0.now.room.now)
put_heading_leaves κs a z z' e e' p q = p.room ∙ sym q.room

pub put_total_determines : OneLeft 2 put-total-kinds.ps put-total-kinds.r put-total.Post ℕ (λ κs e. e.1.1.0.now.at)
put_total_determines κs a z z' e e' p q = p.at ∙ sym q.at

pub put_total_leaves : OneLeft 2 put-total-kinds.ps put-total-kinds.r put-total.Post (List ℕ) (λ κs e. e.1.1.0.now.room.now)
put_total_leaves κs a z z' e e' p q = p.room ∙ sym q.room

pub make_text_determines : OneLeft 5 make-text-kinds.ps make-text-kinds.r make-text.Post ℕ (λ κs e. e.1.1.1.1.0.now.at)
make_text_determines κs a z z' e e' p q = p.at ∙ sym q.at

pub make_text_leaves : OneLeft 5 make-text-kinds.ps make-text-kinds.r make-text.Post (List ℕ) (λ κs e. e.1.1.1.1.0.now.room.now)
make_text_leaves κs a z z' e e' p q = p.room ∙ sym q.room

pub compare_given_determines : OneLeft 3 compare-given-kinds.ps compare-given-kinds.r compare-given.Post ℕ (λ κs e. e.1.1.0.now.at)
compare_given_determines κs a z z' e e' p q = p.at ∙ sym q.at

pub compare_given_leaves : OneLeft 3 compare-given-kinds.ps compare-given-kinds.r compare-given.Post (List ℕ) (λ κs e. e.1.1.0.now.room.now)
compare_given_leaves κs a z z' e e' p q = p.room ∙ sym q.room
