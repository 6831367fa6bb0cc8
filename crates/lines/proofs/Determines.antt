-- Each contract determines what it leaves in the room that it is lent, and where its writer stands: any two that it allows for the same
-- arguments are equal. `Post` is the contract as src/ states it. Assumes nothing.
use mathlib.Core.List.{List}
use mathlib.Core.Path.{sym, ◌∙◌}
use Prim.Native.Nat.{ℕ}
use Rattle.bases.proofs.Determines.{OneLeft}
use Rattle.lines.proofs.field.put_field.Kinds as put-field-kinds
use Rattle.lines.proofs.field.put_field.Reads as put-field
use Rattle.lines.proofs.field.put_fields.Kinds as put-fields-kinds
use Rattle.lines.proofs.field.put_fields.Reads as put-fields
use Rattle.lines.proofs.refused.refused_text.Kinds as refused-text-kinds
use Rattle.lines.proofs.refused.refused_text.Reads as refused-text

pub put_field_determines : OneLeft 2 put-field-kinds.ps put-field-kinds.r put-field.Post ℕ (λ κs e. e.1.1.0.now.at)
put_field_determines κs a z z' e e' p q = p.at ∙ sym q.at

pub put_field_leaves : OneLeft 2 put-field-kinds.ps put-field-kinds.r put-field.Post (List ℕ) (λ κs e. e.1.1.0.now.room.now)
put_field_leaves κs a z z' e e' p q = p.room ∙ sym q.room

pub put_fields_determines : OneLeft 2 put-fields-kinds.ps put-fields-kinds.r put-fields.Post ℕ (λ κs e. e.1.1.1.1.0.now.at)
put_fields_determines κs a z z' e e' p q = p.at ∙ sym q.at

pub put_fields_leaves : OneLeft 2 put-fields-kinds.ps put-fields-kinds.r put-fields.Post (List ℕ) (λ κs e. e.1.1.1.1.0.now.room.now)
put_fields_leaves κs a z z' e e' p q = p.room ∙ sym q.room

pub refused_text_determines : OneLeft 2 refused-text-kinds.ps refused-text-kinds.r refused-text.Post ℕ (λ κs e. e.1.1.1.1.0.now.at)
refused_text_determines κs a z z' e e' p q = p.at ∙ sym q.at

pub refused_text_leaves : OneLeft 2 refused-text-kinds.ps refused-text-kinds.r refused-text.Post (List ℕ) (λ κs e. e.1.1.1.1.0.now.room.now)
refused_text_leaves κs a z z' e e' p q = p.room ∙ sym q.room
