-- `fields::field::skip_fields` meets its contract. The loop's invariant: the fields that are left, behind `at`, are `count` fields behind the start, and
-- `at` stays within `count` of the line's end. Assumes nothing.
use mathlib.Core.Path.{◌≡◌}
use Prim.Native.Nat.{◌+◌, ◌-◌, ◌≤◌}
use lib.ListN.{length}
use Rattle.fields.specs.Field.{skip}
use Rattle.fields.proofs.field.skip_fields.Given as goal

abbrev pub invariant-loop : goal.invariant-loop
invariant-loop l = (skip (l.count - l.counter) l.line l.at ≡ skip l.count l.line l.from) × (l.at + (l.count - l.counter) ≤ length l.line + l.count)
