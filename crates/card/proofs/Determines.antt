-- Each contract determines its result: any two results that it allows for the same arguments are equal. Of `allele`, whose result is a
-- part of a lent slice, the bytes and the pointer are: a reference has nothing else that a program can see. Where a function is lent what
-- it can write, `..-leaves` says the same of what is left there.
-- Assumes nothing.
use mathlib.Core.List.{List}
use mathlib.Core.Path.{sym, ◌∙◌}
use Prim.Native.Nat.{ℕ}
use Rattle.bases.proofs.Determines.{OneResult, OneSeen, OneLeft}
use Rattle.card.proofs.allele.allele.Kinds as allele-kinds
use Rattle.card.proofs.allele.allele.Reads as allele
use Rattle.card.proofs.allele.allele_refusal.Kinds as allele-refusal-kinds
use Rattle.card.proofs.allele.allele_refusal.Reads as allele-refusal
use Rattle.card.proofs.allele.allele_shown.Kinds as allele-shown-kinds
use Rattle.card.proofs.allele.allele_shown.Reads as allele-shown
use Rattle.card.proofs.all.AllMarkedFromRefusal.from.Kinds as all-from-kinds
use Rattle.card.proofs.all.AllMarkedFromRefusal.from.Reads as all-from
use Rattle.card.proofs.answer.AnswerFromRefusal.from.Kinds as answer-from-kinds
use Rattle.card.proofs.answer.AnswerFromRefusal.from.Reads as answer-from
use Rattle.card.proofs.answer.refuse.Kinds as refuse-kinds
use Rattle.card.proofs.answer.refuse.Reads as refuse
use Rattle.card.proofs.answer.give.Kinds as give-kinds
use Rattle.card.proofs.answer.give.Reads as give
use Rattle.card.proofs.count.CountedFromRefusal.from.Kinds as count-from-kinds
use Rattle.card.proofs.count.CountedFromRefusal.from.Reads as count-from
use Rattle.card.proofs.count.count.Kinds as count-kinds
use Rattle.card.proofs.count.count.Reads as count
use Rattle.card.proofs.lists.is_small.Kinds as is-small-kinds
use Rattle.card.proofs.lists.is_small.Reads as is-small
use Rattle.card.proofs.lists.list_refused.Kinds as list-refused-kinds
use Rattle.card.proofs.lists.list_refused.Reads as list-refused
use Rattle.card.proofs.lists.lists_refused.Kinds as lists-refused-kinds
use Rattle.card.proofs.lists.lists_refused.Reads as lists-refused
use Rattle.card.proofs.normal_text.normal.Kinds as normal-kinds
use Rattle.card.proofs.normal_text.normal.Reads as normal

pub allele_shown_determines : OneResult 3 allele-shown-kinds.ps allele-shown-kinds.r allele-shown.Post
allele_shown_determines κs a z z' e e' p q = p ∙ sym q

pub allele_refusal_determines : OneResult 3 allele-refusal-kinds.ps allele-refusal-kinds.r allele-refusal.Post
allele_refusal_determines κs a z z' e e' p q = p ∙ sym q

pub allele_determines : OneSeen 2 allele-kinds.ps allele-kinds.r allele.Post (List ℕ × (ℕ × ℕ)) (λ κs z. (z.now, z.ref_ptr))
allele_determines κs a z z' e e' p q = λ i. ((p.0 ∙ sym q.0) i, (p.1 ∙ sym q.1) i)

pub refuse_determines : OneResult 0 refuse-kinds.ps refuse-kinds.r refuse.Post
refuse_determines κs a z z' e e' p q = p ∙ sym q

pub give_determines : OneResult 0 give-kinds.ps give-kinds.r give.Post
give_determines κs a z z' e e' p q = p ∙ sym q

-- A refusal as an answer.
pub answer_from_determines : OneResult 0 answer-from-kinds.ps answer-from-kinds.r answer-from.Post
answer_from_determines κs a z z' e e' p q = p ∙ sym q

pub all_marked_from_determines : OneResult 0 all-from-kinds.ps all-from-kinds.r all-from.Post
all_marked_from_determines κs a z z' e e' p q = p ∙ sym q

pub counted_from_determines : OneResult 0 count-from-kinds.ps count-from-kinds.r count-from.Post
counted_from_determines κs a z z' e e' p q = p ∙ sym q

pub count_determines : OneResult 5 count-kinds.ps count-kinds.r count.Post
count_determines κs a z z' e e' p q = p ∙ sym q

pub is_small_determines : OneResult 0 is-small-kinds.ps is-small-kinds.r is-small.Post
is_small_determines κs a z z' e e' p q = p ∙ sym q

pub list_refused_determines : OneResult 3 list-refused-kinds.ps list-refused-kinds.r list-refused.Post
list_refused_determines κs a z z' e e' p q = p ∙ sym q

pub lists_refused_determines : OneResult 4 lists-refused-kinds.ps lists-refused-kinds.r lists-refused.Post
lists_refused_determines κs a z z' e e' p q = p ∙ sym q

pub normal_determines : OneResult 4 normal-kinds.ps normal-kinds.r normal.Post
normal_determines κs a z z' e e' p q = p.0 ∙ sym q.0

pub normal_leaves : OneLeft 4 normal-kinds.ps normal-kinds.r normal.Post (List ℕ) (λ κs e. e.1.1.1.0.now)
normal_leaves κs a z z' e e' p q = p.1 ∙ sym q.1
