-- Laws of what normalise prints.
--     normalised_open                         the reference file does not end in LF
--     answer_printable, text_refused          else, where the call `normal` is refused: its four numbers can be printed, and they are what is
--                                             printed
--     text_given                              else what it wrote is
--     rest, rest_length                       the rest of a writer's room, which the call is lent
--     rest_same, rest_written                 the whole room, where the call left the rest as it was; where it wrote
--     wrote_same                              written from an equal writer on
-- Assumes nothing.
use mathlib.Core.Bool.{Bool, true, false}
use mathlib.Core.List.{List, [], ◌++◌, append_assoc, append-nil}
use mathlib.Core.Logic.{◌≢◌}
use mathlib.Core.Path.{◌≡◌, refl, sym, ap, ◌∙◌}
use Prim.Native.Nat.{ℕ, ◌+◌, ◌-◌, ◌≤◌}
use native.Mathlib.Omega.{arith}
use borrow.Rule.Slice.PartMut.{put_mid}
use borrow.Author.Tests.{eqb-true, le-ltb}
use lib.Dec.{eqb}
use lib.ListN.{length, take, drop, length-drop, drop_of_length-le}
use lib.Seq.{drop-drop}
use Rattle.bases.specs.Letter.{bases_of}
use Rattle.bases.specs.Pick.{pick}
use Rattle.bases.specs.declared.put.Writer.{Writer}
use Rattle.bases.specs.Put.{put}
use Rattle.bases.specs.Wrote.{Wrote}
use Rattle.bases.proofs.PartLaws.{tail_part}
use Rattle.bases.proofs.PutLaws.{put_none}
use Rattle.card.specs.declared.answer.Answer.{Answer}
use Rattle.card.specs.declared.refusal.Refusal.{Refusal}
use Rattle.card.specs.Answer.{answer, refused_answer, answer_of}
use Rattle.card.specs.Normal.{normal_refusal, written, normal_after}
use Rattle.card.specs.Refusal.{refusal, list_checks}
use Rattle.card.proofs.NormalLaws.{normal_refused, normal_given}
use Rattle.files.specs.File.{ends_in_lf?, reference_in}
use Rattle.lines.specs.Lines.{refused_text}
use Rattle.written.specs.Written.{written_text}
use Rattle.told.specs.Told.{Printable}
use Rattle.told.proofs.PrintableLaws.{list_printable}
use Rattle.told.proofs.ToldLaws.{file_open, file_past, told_text_lem, Numbers, numbers_printable, numbers_refused, answer_numbers}
use Rattle.normalise.specs.Normalised.{list_refusal, normalised_text}

pub normalised_open : (file name text : List ℕ) → ends_in_lf? file ≡ false → normalised_text file name text ≡ refused_text 1 0 0 0
unfolding normalised_text
normalised_open file name text e = rw (file_open file (list_checks (reference_in file) name text false) e)

-- An answer has the number of its refusal.
answer_number : (r : Refusal) (v : ℕ) → (answer_of r v).number ≡ r.number
answer_number r v = go (eqb r.number 0) refl
  where
    go : (t : Bool) → eqb r.number 0 ≡ t → (pick t (answer 0 0 0 0 v) (refused_answer r)).number ≡ r.number
    go true e = sym (eqb-true r.number 0 e)
    go false e = refl

module _ (file name text out : List ℕ) (ends : ends_in_lf? file ≡ true) (roomy : length text ≤ length out) (a : Answer)
    (answered : a ≡ written (reference_in file) name text (length out)) where
  abbrev reference : List ℕ
  reference = reference_in file

  abbrev r : Refusal
  r = normal_refusal reference name text (length out)

  -- the refusal is that of the call
  same : r ≡ list_refusal file name text
  same = rw (le-ltb (length out) (length text) roomy) (sym (file_past file (list_checks reference name text false) ends))

  number_same : a.number ≡ r.number
  number_same = ap (λ (x : Answer). x.number) answered ∙ answer_number r (length (written_text (bases_of reference) text))

  module _ (n : a.number ≢ 0) where
    refused : (written reference name text (length out) ≡ refused_answer r) × (normal_after reference name text out ≡ out)
    refused = normal_refused reference name text out (rw number_same at n)

    tells : Numbers a.number a.list a.line a.place (list_refusal file name text)
    tells = answer_numbers a (list_refusal file name text) (answered ∙ refused.0 ∙ ap refused_answer same)

    pub answer_printable : Printable (refusal a.number a.list a.line a.place)
    answer_printable = numbers_printable a.number a.list a.line a.place (list_refusal file name text) tells (list_printable file reference name text false)

    pub text_refused : (normalised_text file name text ≡ refused_text a.number a.list a.line a.place) × (normal_after (reference_in file) name text out ≡ out)
    unfolding normalised_text
    text_refused = (numbers_refused a.number a.list a.line a.place (list_refusal file name text) tells (written_text (bases_of reference) text) n, refused.1)

  pub text_given : a.number ≡ 0
      → (a.value ≡ length (normalised_text file name text)) × (normal_after (reference_in file) name text out ≡ put out 0 (normalised_text file name text))
  unfolding normalised_text
  text_given z =
      let zero : r.number ≡ 0 = sym number_same ∙ z in
      let given = normal_given reference name text out zero in
      let told = told_text_lem (list_refusal file name text) (written_text (bases_of reference) text) (sym (ap (λ (x : Refusal). x.number) same) ∙ zero) in
      (ap (λ (x : Answer). x.value) (answered ∙ given.0) ∙ ap length (sym told), given.1 ∙ ap (put out 0) (sym told))

module _ (d : List ℕ) (at : ℕ) where
  abbrev pub rest : List ℕ
  rest = take (length d - at) (drop at d)

  pub rest_length : length rest ≡ length d - at
  rest_length = ap length (tail_part d at) ∙ length-drop at d

  none : drop (length d - at) (drop at d) ≡ []
  none = drop_of_length-le (drop at d) {i = length d - at} (omega (arith, length-drop at d))

  pub rest_written : (s e : List ℕ) → e ≡ put rest 0 s → put_mid at (length d - at) d e ≡ put d at s
  rest_written s e h =
      let n : at + (0 + length s) ≡ at + length s = omega arith in
      let is : e ≡ s ++ drop (at + length s) d =
      h ∙ ap (λ (z : List ℕ). put z 0 s) (tail_part d at) ∙ ap (λ (z : List ℕ). s ++ z) (drop-drop (0 + length s) at d ∙ ap (λ (k : ℕ). drop k d) n) in
      rw (none, append-nil e, is) (sym (append_assoc (take at d) s (drop (at + length s) d)))

  pub rest_same : (e : List ℕ) → e ≡ rest → put_mid at (length d - at) d e ≡ d
  rest_same e h = rest_written [] e (h ∙ sym (put_none rest 0)) ∙ put_none d at

pub wrote_same : {o p n : Writer} {s : List ℕ} → p.at ≡ o.at → p.room.now ≡ o.room.now → p.room.ghost_name ≡ o.room.ghost_name → Wrote p s n → Wrote o s n
wrote_same {o} {p} {n} {s} a r g w =
    record { at = omega (arith, w.at, a); room = rw (← a, ← r) w.room; long = w.long ∙ ap length r; same = w.same ∙ g }
