-- The call `entries`: what it answers, and the lent records afterwards. It is refused as `plan` is.
-- Assumes nothing: these are definitions.
use Rattle.std.specs.Prelude.{List, ℕ, eqb, length}
use Rattle.bases.specs.Letter.{bases_of}
use Rattle.bases.specs.Pick.{pick}
use Rattle.bases.specs.Put.{put}
use Rattle.listed.specs.declared.listed.Listed.{Listed}
use Rattle.listed.specs.Listed.{listed_of}
use Rattle.card.specs.declared.answer.Answer.{Answer}
use Rattle.card.specs.declared.refusal.Refusal.{Refusal}
use Rattle.card.specs.Answer.{answer_of}
use Rattle.card.specs.Plan.{plan_refusal}

module _ (reference name first second : List ℕ) (room : ℕ) where
  -- Why the entries are not told; four zeros where they are.
  abbrev pub listed_refusal : Refusal
  listed_refusal = plan_refusal reference name first second room

  -- The number of entries, or the refusal.
  abbrev pub listed : Answer
  listed = answer_of listed_refusal (length (listed_of (bases_of reference) first second))

-- The lent records afterwards: one an entry in merged order is written, from the first on.
abbrev pub listed_after : List ℕ → List ℕ → List ℕ → List ℕ → List Listed → List Listed
listed_after reference name first second entries =
    pick (eqb (listed_refusal reference name first second (length entries)).number 0)
    (put entries 0 (listed_of (bases_of reference) first second))
    entries
