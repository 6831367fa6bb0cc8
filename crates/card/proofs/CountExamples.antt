-- The call `count` computed, on the lists of example 9: in merged order their entries are of list 2, of list 1 and of list 2.
--     each_list      `+`, `0`, `?`: each is counted in the list of its entry, and what stands behind them is not
--     no_mark        a byte that is no mark is counted nowhere
--     too_few        with one byte fewer the call is refused
-- Assumes nothing.
use mathlib.Core.List.{List, [], ◌∷◌, ◌++◌}
use mathlib.Core.Path.{◌≡◌, refl}
use Prim.Native.Char.{code}
use Prim.Native.Nat.{ℕ}
use lib.ListN.{replicate}
use Rattle.bases.specs.First.{first_told}
use Rattle.bases.specs.Letter.{letter_among, letter_of, all_letters?}
use Rattle.bases.specs.Same.{agree?}
use Rattle.marks.specs.Counts.{how_many, own_marks}
use Rattle.clusters.specs.Merged.{weave, merged}
use Rattle.matching.specs.Cut.{join}
use Rattle.fields.specs.Bytes.{until}
use Rattle.vcf.specs.Entry.{header_bytes, entries_from}
use Rattle.fields.specs.Field.{full?, skip}
use Rattle.fields.specs.Genotype.{copies_wrong?}
use Rattle.fields.specs.Header.{header_wrong?}
use Rattle.vcf.specs.List.{lines_of, judge_lines, judge_text}
use Rattle.fields.specs.Pos.{all_digits?, is_pos?, value_from}
use Rattle.card.specs.declared.count.Counted.{Counted}
use Rattle.card.specs.Answer.{answer}
use Rattle.card.specs.Count.{counted_of, no_counts, counted}
use Rattle.card.specs.Examples.{ascii, chr1, hom, text}

-- What is answered for these marks.
abbrev of : List ℕ → Counted
of marks =
    counted (ascii "TGCCGT") chr1 (text (hom "2" "GCCG" "CCGA" ∷ [])) (text (hom "1" "TG" "T" ∷ hom "5" "G" "GA" ∷ [])) marks

pub each_list : of (ascii "+0?" ++ replicate 1021 (code "+"))
    ≡ counted_of (answer 0 0 0 0 0) (record { first = record { matched = 0; unmatched = 1; undecided = 0 }; second = record { matched = 1; unmatched = 0; undecided = 1 } })
unfolding letter_among letter_of all_letters? agree? weave merged join until header_bytes entries_from full? skip copies_wrong? header_wrong? lines_of judge_lines judge_text all_digits? is_pos? value_from
    first_told how_many own_marks
each_list = refl

pub no_mark : of (ascii "T0+" ++ replicate 1021 (code "+"))
    ≡ counted_of (answer 0 0 0 0 0) (record { first = record { matched = 0; unmatched = 1; undecided = 0 }; second = record { matched = 1; unmatched = 0; undecided = 0 } })
unfolding letter_among letter_of all_letters? agree? weave merged join until header_bytes entries_from full? skip copies_wrong? header_wrong? lines_of judge_lines judge_text all_digits? is_pos? value_from
    first_told how_many own_marks
no_mark = refl

pub too_few : of (ascii "+0?" ++ replicate 1020 (code "+")) ≡ counted_of (answer 2 0 0 0 0) no_counts
unfolding letter_among letter_of all_letters? first_told
too_few = refl
