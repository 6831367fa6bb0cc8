-- Each contract determines its result, and what it leaves in room that it is lent: any two that it allows for the same arguments are equal.
-- `Post` is the contract as src/ states it.
-- Assumes nothing.
use mathlib.Core.List.{List}
use mathlib.Core.Path.{◌≡◌, sym, ◌∙◌}
use Prim.Native.Nat.{ℕ}
use contract.Lifetimes.{Lfts}
use denote.Triple.Clauses.{AtExit}
use borrow.Fn.Kinds.{ParamKind, ResultKind, Dens, res_t, ended_of, Out}
use Rattle.bases.proofs.bytes.agree.Kinds as bytes-agree-kinds
use Rattle.bases.proofs.bytes.agree.Reads as bytes-agree
use Rattle.bases.proofs.bytes.same_bytes.Kinds as same-bytes-kinds
use Rattle.bases.proofs.bytes.same_bytes.Reads as same_bytes
use Rattle.bases.proofs.letter.letter.Kinds as letter-kinds
use Rattle.bases.proofs.letter.letter.Reads as letter
use Rattle.bases.proofs.letter.is_letter.Kinds as is-letter-kinds
use Rattle.bases.proofs.letter.is_letter.Reads as is-letter
use Rattle.bases.proofs.letter.all_letters.Kinds as all-letters-kinds
use Rattle.bases.proofs.letter.all_letters.Reads as all-letters
use Rattle.bases.proofs.same.is_same.Kinds as is-same-kinds
use Rattle.bases.proofs.same.is_same.Reads as is_same
use Rattle.bases.proofs.same.agree.Kinds as agree-kinds
use Rattle.bases.proofs.same.agree.Reads as agree
use Rattle.bases.proofs.same.same_bases.Kinds as same-bases-kinds
use Rattle.bases.proofs.same.same_bases.Reads as same-bases
use Rattle.bases.proofs.reference.part_agrees.Kinds as part-agrees-kinds
use Rattle.bases.proofs.reference.part_agrees.Reads as part-agrees
use Rattle.bases.proofs.same.parts_agree.Kinds as parts-agree-kinds
use Rattle.bases.proofs.same.parts_agree.Reads as parts-agree
use Rattle.bases.proofs.reference.stretches_agree.Kinds as stretches-agree-kinds
use Rattle.bases.proofs.reference.stretches_agree.Reads as stretches-agree
use Rattle.bases.proofs.reference.is_reference.Kinds as is-reference-kinds
use Rattle.bases.proofs.reference.is_reference.Reads as is-reference
use Rattle.bases.proofs.place.pos_of.Kinds as pos-of-kinds
use Rattle.bases.proofs.place.pos_of.Reads as pos_of
use Rattle.bases.proofs.place.place_of.Kinds as place-of-kinds
use Rattle.bases.proofs.place.place_of.Reads as place_of
use Rattle.bases.proofs.put.Writer.bytes.Kinds as writer-bytes-kinds
use Rattle.bases.proofs.put.Writer.bytes.Reads as writer-bytes
use Rattle.bases.proofs.put.Writer.bases.Kinds as writer-bases-kinds
use Rattle.bases.proofs.put.Writer.bases.Reads as writer-bases
use Rattle.bases.proofs.put.Writer.byte.Kinds as writer-byte-kinds
use Rattle.bases.proofs.put.Writer.byte.Reads as writer-byte
use Rattle.bases.proofs.reference.base_count.Kinds as base-count-kinds
use Rattle.bases.proofs.reference.base_count.Reads as base-count
use Rattle.bases.proofs.reference.base_is.Kinds as base-is-kinds
use Rattle.bases.proofs.reference.base_is.Reads as base-is
use Rattle.bases.proofs.reference.bases_alike.Kinds as bases-alike-kinds
use Rattle.bases.proofs.reference.bases_alike.Reads as bases-alike
use Rattle.bases.proofs.reference.put_stretch.Kinds as put-stretch-kinds
use Rattle.bases.proofs.reference.put_stretch.Reads as put-stretch
use Rattle.bases.proofs.reference.has_any_period.Kinds as has-any-period-kinds
use Rattle.bases.proofs.reference.has_any_period.Reads as has-any-period

-- What is seen of any two results that the contract allows for the same arguments is equal.
abbrev pub OneSeen : (n : ℕ) (ps : List (ParamKind n)) (r : ResultKind n) → Out n ps r → (A : Type 0) → ((κs : Lfts n) → (res_t r κs).Denot → A) → Type 0
OneSeen n ps r post A see =
    (κs : Lfts n) (a : Dens κs ps) (z z' : (res_t r κs).Denot) (e e' : AtExit (ended_of n ps r) κs)
    → post κs a z e → post κs a z' e' → see κs z ≡ see κs z'

-- Any two results that the contract allows for the same arguments are equal.
abbrev pub OneResult : (n : ℕ) (ps : List (ParamKind n)) (r : ResultKind n) → Out n ps r → Type 0
OneResult n ps r post =
    (κs : Lfts n) (a : Dens κs ps) (z z' : (res_t r κs).Denot) (e e' : AtExit (ended_of n ps r) κs)
    → post κs a z e → post κs a z' e' → z ≡ z'

-- What is seen of what is lent, at any two exits that the contract allows for the same arguments, is equal.
abbrev pub OneLeft : (n : ℕ) (ps : List (ParamKind n)) (r : ResultKind n) → Out n ps r → (A : Type 0) → ((κs : Lfts n) → AtExit (ended_of n ps r) κs → A) → Type 0
OneLeft n ps r post A see =
    (κs : Lfts n) (a : Dens κs ps) (z z' : (res_t r κs).Denot) (e e' : AtExit (ended_of n ps r) κs)
    → post κs a z e → post κs a z' e' → see κs e ≡ see κs e'

pub is_letter_determines : OneResult 0 is-letter-kinds.ps is-letter-kinds.r is-letter.Post
is_letter_determines κs a z z' e e' p q = p ∙ sym q

pub letter_determines : OneResult 0 letter-kinds.ps letter-kinds.r letter.Post
letter_determines κs a z z' e e' p q = p ∙ sym q

pub all_letters_determines : OneResult 1 all-letters-kinds.ps all-letters-kinds.r all-letters.Post
all_letters_determines κs a z z' e e' p q = p ∙ sym q

pub is_same_determines : OneResult 0 is-same-kinds.ps is-same-kinds.r is_same.Post
is_same_determines κs a z z' e e' p q = p ∙ sym q

pub agree_determines : OneResult 2 agree-kinds.ps agree-kinds.r agree.Post
agree_determines κs a z z' e e' p q = p ∙ sym q

pub same_bases_determines : OneResult 2 same-bases-kinds.ps same-bases-kinds.r same-bases.Post
same_bases_determines κs a z z' e e' p q = p ∙ sym q

pub part_agrees_determines : OneResult 2 part-agrees-kinds.ps part-agrees-kinds.r part-agrees.Post
part_agrees_determines κs a z z' e e' p q = p ∙ sym q

pub parts_agree_determines : OneResult 2 parts-agree-kinds.ps parts-agree-kinds.r parts-agree.Post
parts_agree_determines κs a z z' e e' p q = p ∙ sym q

pub stretches_agree_determines : OneResult 1 stretches-agree-kinds.ps stretches-agree-kinds.r stretches-agree.Post
stretches_agree_determines κs a z z' e e' p q = p ∙ sym q

pub is_reference_determines : OneResult 1 is-reference-kinds.ps is-reference-kinds.r is-reference.Post
is_reference_determines κs a z z' e e' p q = p ∙ sym q

pub pos_of_determines : OneResult 0 pos-of-kinds.ps pos-of-kinds.r pos_of.Post
pos_of_determines κs a z z' e e' p q = p ∙ sym q

pub place_of_determines : OneResult 0 place-of-kinds.ps place-of-kinds.r place_of.Post
place_of_determines κs a z z' e e' p q = p ∙ sym q

pub has_any_period_determines : OneResult 1 has-any-period-kinds.ps has-any-period-kinds.r has-any-period.Post
has_any_period_determines κs a z z' e e' p q = p ∙ sym q

pub bytes_agree_determines : OneResult 2 bytes-agree-kinds.ps bytes-agree-kinds.r bytes-agree.Post
bytes_agree_determines κs a z z' e e' p q = p ∙ sym q

pub same_bytes_determines : OneResult 2 same-bytes-kinds.ps same-bytes-kinds.r same_bytes.Post
same_bytes_determines κs a z z' e e' p q = p ∙ sym q

pub base_count_determines : OneResult 1 base-count-kinds.ps base-count-kinds.r base-count.Post
base_count_determines κs a z z' e e' p q = p ∙ sym q

pub base_is_determines : OneResult 1 base-is-kinds.ps base-is-kinds.r base-is.Post
base_is_determines κs a z z' e e' p q = p ∙ sym q

pub bases_alike_determines : OneResult 1 bases-alike-kinds.ps bases-alike-kinds.r bases-alike.Post
bases_alike_determines κs a z z' e e' p q = p ∙ sym q

pub put_stretch_determines : OneLeft 3 put-stretch-kinds.ps put-stretch-kinds.r put-stretch.Post ℕ (λ κs e. e.1.1.1.0.now.at)
put_stretch_determines κs a z z' e e' p q = p.at ∙ sym q.at

pub put_stretch_leaves : OneLeft 3 put-stretch-kinds.ps put-stretch-kinds.r put-stretch.Post (List ℕ) (λ κs e. e.1.1.1.0.now.room.now)
put_stretch_leaves κs a z z' e e' p q = p.room ∙ sym q.room

pub put_bytes_determines : OneLeft 3 writer-bytes-kinds.ps writer-bytes-kinds.r writer-bytes.Post ℕ (λ κs e. e.0.now.at)
put_bytes_determines κs a z z' e e' p q = p.at ∙ sym q.at

pub put_bytes_leaves : OneLeft 3 writer-bytes-kinds.ps writer-bytes-kinds.r writer-bytes.Post (List ℕ) (λ κs e. e.0.now.room.now)
put_bytes_leaves κs a z z' e e' p q = p.room ∙ sym q.room

pub put_bases_determines : OneLeft 3 writer-bases-kinds.ps writer-bases-kinds.r writer-bases.Post ℕ (λ κs e. e.0.now.at)
put_bases_determines κs a z z' e e' p q = p.at ∙ sym q.at

pub put_bases_leaves : OneLeft 3 writer-bases-kinds.ps writer-bases-kinds.r writer-bases.Post (List ℕ) (λ κs e. e.0.now.room.now)
put_bases_leaves κs a z z' e e' p q = p.room ∙ sym q.room

pub put_byte_determines : OneLeft 2 writer-byte-kinds.ps writer-byte-kinds.r writer-byte.Post ℕ (λ κs e. e.0.now.at)
put_byte_determines κs a z z' e e' p q = p.at ∙ sym q.at

pub put_byte_leaves : OneLeft 2 writer-byte-kinds.ps writer-byte-kinds.r writer-byte.Post (List ℕ) (λ κs e. e.0.now.room.now)
put_byte_leaves κs a z z' e e' p q = p.room ∙ sym q.room
