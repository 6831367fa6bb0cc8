-- The call `normal`: what it answers, and the lent room afterwards.
-- Assumes nothing: these are definitions.
use Rattle.std.specs.Prelude.{List, ℕ, eqb, ltb, length}
use Rattle.bases.specs.Letter.{bases_of}
use Rattle.bases.specs.Pick.{pick}
use Rattle.bases.specs.Put.{put}
use Rattle.written.specs.Written.{written_text}
use Rattle.card.specs.declared.answer.Answer.{Answer}
use Rattle.card.specs.declared.refusal.Refusal.{Refusal}
use Rattle.card.specs.Answer.{answer_of}
use Rattle.card.specs.Refusal.{first_refusal, list_checks}

module _ (reference name text : List ℕ) (room : ℕ) where
  -- Why the list is not written into so much room; four zeros where it is. Row 2: the room is below the length of the given text.
  abbrev pub normal_refusal : Refusal
  normal_refusal = first_refusal (list_checks reference name text (ltb room (length text)))

  -- The number of bytes written, or the refusal.
  abbrev pub written : Answer
  written = answer_of normal_refusal (length (written_text (bases_of reference) text))

-- The lent room afterwards: the written text stands in it from its first byte on.
abbrev pub normal_after : List ℕ → List ℕ → List ℕ → List ℕ → List ℕ
normal_after reference name text out =
    pick (eqb (normal_refusal reference name text (length out)).number 0) (put out 0 (written_text (bases_of reference) text)) out
