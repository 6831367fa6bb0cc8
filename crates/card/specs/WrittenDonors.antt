-- Demand 2 of a written list: its entries are those read in normal form, and each of them, chosen alone, gives the same donor as the entry
-- read. Nothing is said of several chosen together: shifting left can move one entry onto another (examples/overlap).
-- Assumes nothing: these are definitions.
use Rattle.std.specs.Prelude.{Bool, List, [], ◌∷◌, ◌≡◌, ℕ}
use Rattle.clusters.specs.Item.{variant_of}
use Rattle.donors.specs.Choice.{Choice, Copy, card_rules}
use Rattle.donors.specs.Rules.{donor_of}
use Rattle.written.specs.Entries.{Beside, new_order, EntriesNormal}
use Rattle.written.specs.Written.{written_text}
use Rattle.vcf.specs.declared.entry.Entry.{Entry}
use Rattle.vcf.specs.Entry.{entries_of}
use Rattle.vcf.specs.List.{judge_text}

-- The donor on a copy of a list that has one entry, with this choice; `side` says whether the list is list 1.
abbrev pub donor_alone : List ℕ → List ℕ → Bool → Entry → Choice → Copy → List ℕ
donor_alone reference text side e c h = donor_of card_rules reference side h (variant_of reference text side e ∷ []) (c ∷ [])

-- The entry e of the text t and the entry n of the text w, each alone, give the same donor on each copy: with `+`, with `-`, and left out.
abbrev pub SameAlone : List ℕ → List ℕ → List ℕ → Entry → Entry → Type 0
SameAlone reference t w e n =
    (side : Bool) (c : Choice) (h : Copy) → donor_alone reference t side e c h ≡ donor_alone reference w side n c h

-- What is so of the list w that is written for an accepted list t: it is accepted too, its entries are those of t in normal form, each
-- gives the same donor alone, and writing it again changes nothing.
pub record WrittenSame (reference name t w : List ℕ) : Type 0 where
  pub accepted : (judge_text reference name w).number ≡ 0
  pub entries : EntriesNormal reference t w
  pub donors : Beside (SameAlone reference t w) (new_order reference t) (entries_of w)
  pub again : written_text reference w ≡ w
