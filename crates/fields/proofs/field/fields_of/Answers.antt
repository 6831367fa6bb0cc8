-- `fields::field::fields_of` meets its contract: each field is so many fields behind the one before. Assumes nothing.
use mathlib.Core.Path.{◌≡◌}
use native.Mathlib.Omega.{arith}
use lib.Dec.{lit<}
use Rattle.fields.specs.Field.{field_at}
use Rattle.fields.proofs.FieldLaws.{field_on, field_within, fields_are}
use Rattle.fields.proofs.field.fields_of.Goals as goal

pub skip_fields-reference-requires : goal.skip_fields-reference-requires
skip_fields-reference-requires c = let l = c.args.line.now in
    let e : c.skip_fields-pos.result ≡ field_at 1 l = c.skip_fields-pos.ensures in
    omega (arith, field_within l 1 c.requires (lit< tt))

pub skip_fields-alt-requires : goal.skip_fields-alt-requires
skip_fields-alt-requires c = let l = c.args.line.now in
    let e : c.skip_fields-reference.result ≡ field_at 3 l = field_on 1 2 c.args.line.now c.skip_fields-pos.ensures c.skip_fields-reference.ensures in
    omega (arith, field_within l 3 c.requires (lit< tt))

pub skip_fields-format-requires : goal.skip_fields-format-requires
skip_fields-format-requires c = let l = c.args.line.now in
    let e : c.skip_fields-alt.result ≡ field_at 4 l =
    field_on 3 1 c.args.line.now
    (field_on 1 2 c.args.line.now c.skip_fields-pos.ensures c.skip_fields-reference.ensures) c.skip_fields-alt.ensures in
    omega (arith, field_within l 4 c.requires (lit< tt))

pub skip_fields-sample-requires : goal.skip_fields-sample-requires
skip_fields-sample-requires c = let l = c.args.line.now in
    let e : c.skip_fields-format.result ≡ field_at 8 l =
    field_on 4 4 c.args.line.now
    (field_on 3 1 c.args.line.now
    (field_on 1 2 c.args.line.now c.skip_fields-pos.ensures c.skip_fields-reference.ensures)
    c.skip_fields-alt.ensures) c.skip_fields-format.ensures in
    omega (arith, field_within l 8 c.requires (lit< tt))

pub returns : goal.returns
returns c = let l = c.args.line.now in
    let e1 = c.skip_fields-pos.ensures in
    let e3 = field_on 1 2 l e1 c.skip_fields-reference.ensures in
    let e4 = field_on 3 1 l e3 c.skip_fields-alt.ensures in
    let e8 = field_on 4 4 l e4 c.skip_fields-format.ensures in
    let e9 = field_on 8 1 l e8 c.skip_fields-sample.ensures in
    fields_are l e1 e3 e4 e8 e9
