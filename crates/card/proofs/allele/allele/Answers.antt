-- `card::allele::allele` meets its contract: the part that `allele_shown` tells is a part of the slice that it tells, and begins there.
-- Assumes nothing.
use mathlib.Core.Path.{sym}
use native.Mathlib.Omega.{arith}
use Rattle.card.specs.Allele.{shown}
use Rattle.card.proofs.AlleleLaws.{shown_refusal, shown_fits, shown_short, shown_empty_iff, refused_begins}
use Rattle.card.proofs.StandsLaws.{stands_not, stands_reference, stands_text}
use Rattle.card.proofs.allele.allele.Goals as goal

pub overflow_add-result : goal.overflow_add-result
overflow_add-result c =
    let a = c.args in
    let s = shown a.reference.now a.name.now a.text.now a.entry a.allele in
    let told = stands_reference s c.allele_shown.result c.allele_shown.ensures c.in-Ok-InReference.part (rw c.in-Ok-InReference.field-0-is at c.in-Ok-InReference.is) in
    let short = rw told.1 at (shown_short a.reference.now a.name.now a.text.now a.entry a.allele) in
    omega arith

pub slice_bounds-result-end : goal.slice_bounds-result-end
slice_bounds-result-end c =
    let a = c.args in
    let s = shown a.reference.now a.name.now a.text.now a.entry a.allele in
    let told = stands_reference s c.allele_shown.result c.allele_shown.ensures c.in-Ok-InReference.part (rw c.in-Ok-InReference.field-0-is at c.in-Ok-InReference.is) in
    let fits = rw (told.0, told.1) at (shown_fits a.reference.now a.name.now a.text.now a.entry a.allele) in
    omega arith

pub overflow_add-result-in-Ok-InText : goal.overflow_add-result-in-Ok-InText
overflow_add-result-in-Ok-InText c =
    let a = c.args in
    let s = shown a.reference.now a.name.now a.text.now a.entry a.allele in
    let told = stands_text s c.allele_shown.result c.allele_shown.ensures c.in-Ok-InText.part (rw c.in-Ok-InText.field-0-is at c.in-Ok-InText.is) in
    let short = rw told.1 at (shown_short a.reference.now a.name.now a.text.now a.entry a.allele) in
    omega arith

pub slice_bounds-result-end-in-Ok-InText : goal.slice_bounds-result-end-in-Ok-InText
slice_bounds-result-end-in-Ok-InText c =
    let a = c.args in
    let s = shown a.reference.now a.name.now a.text.now a.entry a.allele in
    let told = stands_text s c.allele_shown.result c.allele_shown.ensures c.in-Ok-InText.part (rw c.in-Ok-InText.field-0-is at c.in-Ok-InText.is) in
    let fits = rw (told.0, told.1) at (shown_fits a.reference.now a.name.now a.text.now a.entry a.allele) in
    omega arith

pub returns-in-Err : goal.returns-in-Err
returns-in-Err c =
    let a = c.args in
    let s = shown a.reference.now a.name.now a.text.now a.entry a.allele in
    let told = stands_not s c.allele_shown.result c.allele_shown.ensures c.in-Err.field-0 c.in-Err.is in
    let some = rw (shown_refusal a.reference.now a.name.now a.text.now a.entry a.allele) at told.1 in
    (sym ((shown_empty_iff a.reference.now a.name.now a.text.now a.entry a.allele).1 some), sym (refused_begins a.reference.now a.name.now a.text.now a.entry a.allele some a.reference.ref_ptr a.text.ref_ptr))
