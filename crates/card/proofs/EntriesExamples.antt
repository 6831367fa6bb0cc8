-- The call `entries` computed.
--     example_9, answered      three entries of one cluster: of list 2, of list 1 and of list 2, on lines 3, 3 and 4; their number is
--                              answered
--     example_7                an entry of each list, in two clusters
--     too_few, unwritten       with room for 1,023 the call is refused; where it is refused, a lent record is as it was
-- Assumes nothing.
use mathlib.Core.List.{List, [], ◌∷◌}
use mathlib.Core.Path.{◌≡◌, refl}
use Prim.Native.Nat.{ℕ}
use Rattle.bases.specs.First.{first_told}
use Rattle.bases.specs.Letter.{letter_among, letter_of, all_letters?}
use Rattle.bases.specs.Period.{any_period?}
use Rattle.bases.specs.Same.{agree?}
use Rattle.listed.specs.declared.listed.Listed.{Listed}
use Rattle.listed.specs.Listed.{numbers_from, listed_from, listed_of}
use Rattle.clusters.specs.Merged.{weave, merged}
use Rattle.clusters.specs.Plan.{rest, plan, records_from}
use Rattle.matching.specs.Cut.{join}
use Rattle.fields.specs.Bytes.{until}
use Rattle.vcf.specs.Entry.{header_bytes, header_lines, entries_from}
use Rattle.fields.specs.Field.{full?, skip}
use Rattle.fields.specs.Genotype.{copies_wrong?}
use Rattle.fields.specs.Header.{header_wrong?}
use Rattle.vcf.specs.List.{lines_of, judge_lines, judge_text}
use Rattle.fields.specs.Pos.{all_digits?, is_pos?, value_from}
use Rattle.card.specs.Answer.{answer}
use Rattle.card.specs.Entries.{listed, listed_after}
use Rattle.card.specs.Examples.{ascii, chr1, hom, text}

-- A record: list, entry, line, cluster.
abbrev entry : ℕ → ℕ → ℕ → ℕ → Listed
entry list n line cluster = record { list = list; entry = n; line = line; cluster = cluster }

-- The lists of example 9.
abbrev first9 : List ℕ
first9 = text (hom "2" "GCCG" "CCGA" ∷ [])

abbrev second9 : List ℕ
second9 = text (hom "1" "TG" "T" ∷ hom "5" "G" "GA" ∷ [])

pub example_9 : listed_of (ascii "TGCCGT") first9 second9 ≡ entry 2 0 3 0 ∷ entry 1 0 3 0 ∷ entry 2 1 4 0 ∷ []
unfolding letter_among letter_of all_letters? any_period? agree? numbers_from listed_from weave merged rest plan records_from join until header_bytes header_lines entries_from skip lines_of
    all_digits? is_pos? value_from
example_9 = refl

pub example_7 : listed_of (ascii "TATGCAGT") (text (hom "1" "TAT" "T" ∷ [])) (text (hom "7" "G" "C" ∷ [])) ≡ entry 1 0 3 0 ∷ entry 2 0 3 1 ∷ []
unfolding letter_among letter_of all_letters? any_period? agree? numbers_from listed_from weave merged rest plan records_from join until header_bytes header_lines entries_from skip lines_of
    all_digits? is_pos? value_from
example_7 = refl

pub answered : listed (ascii "TGCCGT") chr1 first9 second9 1024 ≡ answer 0 0 0 0 3
unfolding letter_among letter_of all_letters? any_period? agree? numbers_from listed_from weave merged rest plan records_from join until header_bytes header_lines entries_from full? skip copies_wrong?
    header_wrong? lines_of judge_lines judge_text all_digits? is_pos? value_from first_told
answered = refl

pub too_few : listed (ascii "TGCCGT") chr1 first9 second9 1023 ≡ answer 2 0 0 0 0
unfolding letter_among letter_of all_letters? first_told
too_few = refl

pub unwritten : listed_after (ascii "TGCCGT") chr1 first9 second9 (entry 0 0 0 0 ∷ []) ≡ entry 0 0 0 0 ∷ []
unfolding letter_among letter_of all_letters? first_told
unwritten = refl
