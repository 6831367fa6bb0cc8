-- `card_abi::allele::card_allele` meets its contract: it answers what `allele_shown` shows, and a part of an accepted text or a reference
-- starts and ends below 2 to the 32nd. Assumes nothing.
use mathlib.Core.Bool.{true, false}
use mathlib.Core.Path.{sym, ◌∙◌}
use native.Mathlib.Omega.{arith}
use Rattle.card.specs.Allele.{shown}
use Rattle.card.proofs.AlleleLaws.{shown_short}
use Rattle.card.proofs.StandsLaws.{stands_there, stands_not, stands_reference, stands_text}
use Rattle.card_abi.proofs.AnswerLaws.{answer_refused, answer_stands}
use Rattle.card_abi.proofs.allele.card_allele.Goals as goal

pub answer_part-requires : goal.answer_part-requires
answer_part-requires c =
    let a = c.args in
    let s = shown a.reference.now a.name.now a.text.now a.entry a.allele in
    let told = stands_reference s c.allele_shown.result c.allele_shown.ensures c.in-Ok-InReference.part (rw c.in-Ok-InReference.field-0-is at c.in-Ok-InReference.is) in
    let short = rw told.1 at (shown_short a.reference.now a.name.now a.text.now a.entry a.allele) in
    omega arith

pub returns-in-Ok-InReference : goal.returns-in-Ok-InReference
returns-in-Ok-InReference c =
    let a = c.args in
    let s = shown a.reference.now a.name.now a.text.now a.entry a.allele in
    let told = stands_reference s c.allele_shown.result c.allele_shown.ensures c.in-Ok-InReference.part (rw c.in-Ok-InReference.field-0-is at c.in-Ok-InReference.is) in
    let zero = stands_there s c.allele_shown.result c.allele_shown.ensures c.in-Ok-InReference.field-0 c.in-Ok-InReference.is in
    c.answer_part.ensures ∙ sym (answer_stands s false c.in-Ok-InReference.part zero told.0 told.1)

pub answer_part-requires-in-Ok-InText : goal.answer_part-requires-in-Ok-InText
answer_part-requires-in-Ok-InText c =
    let a = c.args in
    let s = shown a.reference.now a.name.now a.text.now a.entry a.allele in
    let told = stands_text s c.allele_shown.result c.allele_shown.ensures c.in-Ok-InText.part (rw c.in-Ok-InText.field-0-is at c.in-Ok-InText.is) in
    let short = rw told.1 at (shown_short a.reference.now a.name.now a.text.now a.entry a.allele) in
    omega arith

pub returns-in-Ok-InText : goal.returns-in-Ok-InText
returns-in-Ok-InText c =
    let a = c.args in
    let s = shown a.reference.now a.name.now a.text.now a.entry a.allele in
    let told = stands_text s c.allele_shown.result c.allele_shown.ensures c.in-Ok-InText.part (rw c.in-Ok-InText.field-0-is at c.in-Ok-InText.is) in
    let zero = stands_there s c.allele_shown.result c.allele_shown.ensures c.in-Ok-InText.field-0 c.in-Ok-InText.is in
    c.answer_part-in-Ok-InText.ensures ∙ sym (answer_stands s true c.in-Ok-InText.part zero told.0 told.1)

pub returns-in-Err : goal.returns-in-Err
returns-in-Err c =
    let a = c.args in
    let s = shown a.reference.now a.name.now a.text.now a.entry a.allele in
    let told = stands_not s c.allele_shown.result c.allele_shown.ensures c.in-Err.refusal c.in-Err.is in
    c.into.ensures ∙ sym (answer_refused s told.1 ∙ rw told.0)
