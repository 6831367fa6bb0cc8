-- What is turned away: the four numbers of a refusal, and the first of a call's refusals in document 01's order: 1; 2; list 1; list 2; 17;
-- 16; 18.
-- Assumes nothing: these are definitions.
use Rattle.std.specs.Prelude.{Bool, not, List, [], ◌∷◌, ◌++◌, ℕ, eqb, Result}
use Rattle.bases.specs.Letter.{bases_of}
use Rattle.bases.specs.First.{Test, test, first_told}
use Rattle.bases.specs.Reference.{is_reference?}
use Rattle.records.specs.Row.{fault_result}
use Rattle.vcf.specs.declared.list.Fault.{Fault}
use Rattle.vcf.specs.List.{judge_text}
use Rattle.card.specs.declared.refusal.Refusal.{Refusal}

-- Number, list, line and place in the line.
abbrev pub refusal : ℕ → ℕ → ℕ → ℕ → Refusal
refusal number list line place = record { number = number; list = list; line = line; place = place }

-- Nothing is turned away: four zeros.
abbrev pub no_refusal : Refusal
no_refusal = refusal 0 0 0 0

-- A refusal, and whether its row holds.
abbrev pub Check : Type 0
Check = Test Refusal

abbrev pub check : Bool → Refusal → Check
check = test

-- The first refusal whose row holds.
abbrev pub first_refusal : List Check → Refusal
first_refusal = first_told no_refusal

-- Whether a call goes on: it does where nothing is turned away, and else it is turned away with this refusal.
abbrev pub passed : Refusal → Result (Unit {0}) Refusal
passed = fault_result (λ r. r.number)

-- Row 1.
abbrev pub reference_check : List ℕ → Check
reference_check reference = check (not (is_reference? reference)) (refusal 1 0 0 0)

-- A fault of list j, with its line and the place there.
abbrev pub fault_in : ℕ → Fault → Refusal
fault_in j f = refusal f.number j f.line f.place

-- The rows of list j, 3 to 9, 11 to 15 and 20 to 23: the first fault of its text.
abbrev pub list_check : ℕ → List ℕ → List ℕ → List ℕ → Check
list_check j reference name text =
    check (not (eqb (judge_text (bases_of reference) name text).number 0)) (fault_in j (judge_text (bases_of reference) name text))

-- The least room that is lent for a plan, in clusters, for entries, and for marks, in bytes.
abbrev pub least_room : ℕ
least_room = 1024

-- The rows of a call with one list: 1; 2, where lent room is too small; list 1.
abbrev pub list_checks : List ℕ → List ℕ → List ℕ → Bool → List Check
list_checks reference name first small = reference_check reference ∷ check small (refusal 2 0 0 0) ∷ list_check 1 reference name first ∷ []

-- The rows of a call with two: the same, then list 2.
abbrev pub lists_checks : List ℕ → List ℕ → List ℕ → List ℕ → Bool → List Check
lists_checks reference name first second small = list_checks reference name first small ++ (list_check 2 reference name second ∷ [])
