-- `normalise::list::normalise_text` meets its contract: what is printed goes by whether the reference file ends in LF, and by what the
-- call `normal` answers. Assumes nothing.
use mathlib.Core.Path.{refl, sym, ◌∙◌}
use Prim.Native.Nat.{◌-◌, ◌≤◌}
use native.Mathlib.Omega.{arith}
use borrow.Rule.Slice.PartMut.{same_len_mid}
use lib.ListN.{length}
use Rattle.normalise.specs.Normalised.{normalised_text}
use Rattle.normalise.proofs.NormalisedLaws.{normalised_open, answer_printable, text_refused, text_given, rest, rest_length, rest_same, rest_written, wrote_same}
use Rattle.normalise.proofs.list.normalise_text.Goals as goal

pub returns-then-not-ends_in_lf : goal.returns-then-not-ends_in_lf
returns-then-not-ends_in_lf c = let a = c.args in
    rw (normalised_open a.file.now a.name.now a.text.now (sym c.ends_in_lf.ensures ∙ c.if-not-ends_in_lf.true)) c.put_refused.ensures

pub put_refused-requires-then-answer-ne0 : goal.put_refused-requires-then-answer-ne0
put_refused-requires-then-answer-ne0 c = let a = c.args in
    let d = a.out.now.room.now in
    let at = a.out.now.at in
    let ends = sym c.ends_in_lf.ensures ∙ c.if-not-ends_in_lf.false in
    let w = c.normal-answer in
    let roomy : length a.text.now ≤ length (rest d at) = omega (arith, rest_length d at, c.requires.0) in
    let t = text_refused a.file.now a.name.now a.text.now (rest d at) ends roomy w.result w.ensures.0 c.if-answer-ne0.true in (
      answer_printable a.file.now a.name.now a.text.now (rest d at) ends roomy w.result w.ensures.0 c.if-answer-ne0.true,
      rw (rest_same d at w.new.out (w.ensures.1 ∙ t.1)) c.requires.1,
    )

pub returns-then-answer-ne0 : goal.returns-then-answer-ne0
returns-then-answer-ne0 c = let a = c.args in
    let d = a.out.now.room.now in
    let at = a.out.now.at in
    let ends = sym c.ends_in_lf.ensures ∙ c.if-not-ends_in_lf.false in
    let w = c.normal-answer in
    let roomy : length a.text.now ≤ length (rest d at) = omega (arith, rest_length d at, c.requires.0) in
    let t = text_refused a.file.now a.name.now a.text.now (rest d at) ends roomy w.result w.ensures.0 c.if-answer-ne0.true in
    rw t.0 (wrote_same refl (rest_same d at w.new.out (w.ensures.1 ∙ t.1)) refl c.put_refused-then-answer-ne0.ensures)

pub returns : goal.returns
returns c = let a = c.args in
    let d = a.out.now.room.now in
    let at = a.out.now.at in
    let ends = sym c.ends_in_lf.ensures ∙ c.if-not-ends_in_lf.false in
    let w = c.normal-answer in
    let roomy : length a.text.now ≤ length (rest d at) = omega (arith, rest_length d at, c.requires.0) in
    let g = text_given a.file.now a.name.now a.text.now (rest d at) ends roomy w.result w.ensures.0 c.if-answer-ne0.false in
    record {
      at = omega (arith, g.0);
      room = rest_written d at (normalised_text a.file.now a.name.now a.text.now) w.new.out (w.ensures.1 ∙ g.1);
      long = same_len_mid at (length d - at) d w.new.out w.auto.out;
      same = refl;
    }
