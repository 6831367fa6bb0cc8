-- An allele other than REF: by its number, as an entry is read, and by its bases, the same.
--     alt_room           of a record's alleles those have room, and no others, that spell other bases than REF
--     accepted_room      so of each entry of two accepted lists, as matching reads it
-- Assumes nothing.
use mathlib.Core.Bool.{Bool}
use mathlib.Core.List.{List}
use mathlib.Core.Logic.{◌↔◌, ◌≢◌}
use mathlib.Core.Path.{◌≡◌, refl, sym, ◌∙◌}
use Prim.Native.Nat.{ℕ, zero, suc, ◌≤◌, ◌<◌}
use lib.Dec.{T}
use lib.ListN.{length}
use Rattle.bases.proofs.SameLaws.{bases_differ}
use Rattle.donors.specs.Apart.{All}
use Rattle.donors.specs.Rules.{list1, list2}
use Rattle.fields.specs.Allele.{first_alt, second_alt, alt_count}
use Rattle.fields.specs.Field.{field}
use Rattle.records.proofs.RecordLineLaws.{RecordLine}
use Rattle.vcf.specs.declared.entry.Entry.{Entry}
use Rattle.vcf.specs.Entry.{line_at, entry_of, records_at, entries_of}
use Rattle.vcf.specs.List.{judge_text}
use Rattle.vcf.proofs.AcceptedLaws.{accepted_records}
use Rattle.clusters.specs.declared.item.Item.{Item}
use Rattle.clusters.specs.Item.{allele_of, takes_room?, variant, variant_of, ByBases}
use Rattle.clusters.specs.Merged.{key_of, item_of, items_of, merged_items, merged_variants}
use Rattle.clusters.proofs.MergedLaws.{all_map, merged_all}
use Rattle.clusters.proofs.SoundLaws.{copies_named, two_alts, ref_allele, first_alt_allele, second_alt_allele, entries_all}

-- The line at a is a record's.
module _ (reference t : List ℕ) (a : ℕ) (inside : a < length t) (line : RecordLine reference (line_at t a)) where
  abbrev entry : Entry
  entry = entry_of (line_at t a) a

  pub alt_room : (k : ℕ) → k ≤ alt_count (field 4 (line_at t a)) → T (takes_room? k) ↔ (allele_of reference t (entry_of (line_at t a) a) k ≢ allele_of reference t (entry_of (line_at t a) a) 0)
  alt_room zero h = (λ t. absurd t, λ n. absurd (n refl))
  alt_room (suc zero) h = (
    λ r e. bases_differ (first_alt (field 4 (line_at t a))) (field 3 (line_at t a)) line.alts.first_new (sym (first_alt_allele reference t a inside line) ∙ e ∙ ref_allele reference t a inside line),
    λ n. tt,
  )
  alt_room (suc (suc k)) h =
      let two = two_alts reference t a inside line k h in (
        λ r e.
            bases_differ (second_alt (field 4 (line_at t a))) (field 3 (line_at t a)) (line.alts.second_new two)
            (sym (second_alt_allele reference t a inside line two) ∙ e ∙ ref_allele reference t a inside line),
        λ n. tt,
      )

  entry_room : (side : Bool) → ByBases reference (variant_of reference t side entry)
  entry_room side =
      let c = copies_named reference (line_at t a) line in
      record { zero = alt_room entry.copy0 c.0; one = alt_room entry.copy1 c.1 }

module _ (reference name first second : List ℕ)
    (accepted1 : (judge_text reference name first).number ≡ 0) (accepted2 : (judge_text reference name second).number ≡ 0) where
  list_room_lem : (side : Bool) (t : List ℕ) → (judge_text reference name t).number ≡ 0 → All (λ (e : Entry). ByBases reference (variant_of reference t side e)) (entries_of t)
  list_room_lem side t ok =
      entries_all reference name t (λ (e : Entry). ByBases reference (variant_of reference t side e))
      (λ a h line. entry_room reference t a h line side) (records_at t) (accepted_records reference name t ok)

  pub accepted_room : All (ByBases reference) (merged_variants reference first second)
  accepted_room =
      let P : Item → Type 0 = λ i. ByBases reference (variant reference first second i) in
      all_map (ByBases reference) (variant reference first second) (merged_items first second)
      (merged_all key_of P (items_of list1 (entries_of first)) (items_of list2 (entries_of second))
      (all_map P (item_of list1) (entries_of first) (list_room_lem list1 first accepted1)) (all_map P (item_of list2) (entries_of second) (list_room_lem list2 second accepted2)))
