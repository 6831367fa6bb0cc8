-- Each contract determines its result: any two results that it allows for the same arguments are equal. Of a result that is a part of a lent slice, the
-- bytes are. No function here is lent anything that it can write.
-- Assumes nothing.
use mathlib.Core.List.{List}
use mathlib.Core.Path.{sym, ◌∙◌}
use Prim.Native.Nat.{ℕ}
use Rattle.bases.proofs.Determines.{OneResult, OneSeen}
use Rattle.fields.proofs.allele.alt_count.Kinds as alt-count-kinds
use Rattle.fields.proofs.allele.alt_count.Reads as alt-count
use Rattle.fields.proofs.allele.is_allele.Kinds as is-allele-kinds
use Rattle.fields.proofs.allele.is_allele.Reads as is_allele
use Rattle.fields.proofs.allele.is_right_size.Kinds as is-right-size-kinds
use Rattle.fields.proofs.allele.is_right_size.Reads as is-right-size
use Rattle.fields.proofs.bytes.begins.Kinds as begins-kinds
use Rattle.fields.proofs.bytes.begins.Reads as begins
use Rattle.fields.proofs.bytes.find.Kinds as find-kinds
use Rattle.fields.proofs.bytes.find.Reads as find
use Rattle.fields.proofs.field.field_from.Kinds as field-from-kinds
use Rattle.fields.proofs.field.field_from.Reads as field-from
use Rattle.fields.proofs.field.fields_of.Kinds as fields-of-kinds
use Rattle.fields.proofs.field.fields_of.Reads as fields-of
use Rattle.fields.proofs.field.has_ten_fields.Kinds as has-ten-fields-kinds
use Rattle.fields.proofs.field.has_ten_fields.Reads as has-ten-fields
use Rattle.fields.proofs.field.skip_fields.Kinds as skip-fields-kinds
use Rattle.fields.proofs.field.skip_fields.Reads as skip-fields
use Rattle.fields.proofs.genotype.copies_wrong.Kinds as copies-wrong-kinds
use Rattle.fields.proofs.genotype.copies_wrong.Reads as copies-wrong
use Rattle.fields.proofs.genotype.format_wrong.Kinds as format-wrong-kinds
use Rattle.fields.proofs.genotype.format_wrong.Reads as format_wrong
use Rattle.fields.proofs.genotype.genotype_of.Kinds as genotype-of-kinds
use Rattle.fields.proofs.genotype.genotype_of.Reads as genotype-of
use Rattle.fields.proofs.header.header_wrong.Kinds as header-wrong-kinds
use Rattle.fields.proofs.header.header_wrong.Reads as header-wrong
use Rattle.fields.proofs.header.is_header_line.Kinds as is-header-line-kinds
use Rattle.fields.proofs.header.is_header_line.Reads as is-header-line
use Rattle.fields.proofs.pos.is_digit.Kinds as is-digit-kinds
use Rattle.fields.proofs.pos.is_digit.Reads as is_digit
use Rattle.fields.proofs.pos.read_pos.Kinds as read-pos-kinds
use Rattle.fields.proofs.pos.read_pos.Reads as read_pos

pub is_right_size_determines : OneResult 1 is-right-size-kinds.ps is-right-size-kinds.r is-right-size.Post
is_right_size_determines κs a z z' e e' p q = p ∙ sym q

pub is_allele_determines : OneResult 1 is-allele-kinds.ps is-allele-kinds.r is_allele.Post
is_allele_determines κs a z z' e e' p q = p ∙ sym q

pub alt_count_determines : OneResult 1 alt-count-kinds.ps alt-count-kinds.r alt-count.Post
alt_count_determines κs a z z' e e' p q = p ∙ sym q

pub find_determines : OneResult 1 find-kinds.ps find-kinds.r find.Post
find_determines κs a z z' e e' p q = p ∙ sym q

pub begins_determines : OneResult 2 begins-kinds.ps begins-kinds.r begins.Post
begins_determines κs a z z' e e' p q = p ∙ sym q

pub skip_fields_determines : OneResult 1 skip-fields-kinds.ps skip-fields-kinds.r skip-fields.Post
skip_fields_determines κs a z z' e e' p q = p ∙ sym q

pub has_ten_fields_determines : OneResult 1 has-ten-fields-kinds.ps has-ten-fields-kinds.r has-ten-fields.Post
has_ten_fields_determines κs a z z' e e' p q = p ∙ sym q

pub fields_of_determines : OneResult 1 fields-of-kinds.ps fields-of-kinds.r fields-of.Post
fields_of_determines κs a z z' e e' p q = p ∙ sym q

pub format_wrong_determines : OneResult 1 format-wrong-kinds.ps format-wrong-kinds.r format_wrong.Post
format_wrong_determines κs a z z' e e' p q = p ∙ sym q

pub copies_wrong_determines : OneResult 1 copies-wrong-kinds.ps copies-wrong-kinds.r copies-wrong.Post
copies_wrong_determines κs a z z' e e' p q = p ∙ sym q

pub is_header_line_determines : OneResult 1 is-header-line-kinds.ps is-header-line-kinds.r is-header-line.Post
is_header_line_determines κs a z z' e e' p q = p ∙ sym q

pub header_wrong_determines : OneResult 1 header-wrong-kinds.ps header-wrong-kinds.r header-wrong.Post
header_wrong_determines κs a z z' e e' p q = p ∙ sym q

pub is_digit_determines : OneResult 0 is-digit-kinds.ps is-digit-kinds.r is_digit.Post
is_digit_determines κs a z z' e e' p q = p ∙ sym q

pub read_pos_determines : OneResult 1 read-pos-kinds.ps read-pos-kinds.r read_pos.Post
read_pos_determines κs a z z' e e' p q = p ∙ sym q

pub field_from_determines : OneSeen 1 field-from-kinds.ps field-from-kinds.r field-from.Post (List ℕ) (λ κs z. z.now)
field_from_determines κs a z z' e e' p q = p ∙ sym q

pub genotype_of_determines : OneSeen 1 genotype-of-kinds.ps genotype-of-kinds.r genotype-of.Post (List ℕ) (λ κs z. z.now)
genotype_of_determines κs a z z' e e' p q = p ∙ sym q
