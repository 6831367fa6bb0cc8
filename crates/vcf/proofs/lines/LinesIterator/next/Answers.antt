-- `next` of a walk over lines meets its contract: the first line that is left ends at the first LF, and the others begin behind it.
-- Assumes nothing.
use mathlib.Core.List.{List, ◌∷◌}
use mathlib.Core.Path.{◌≡◌, sym, ap, ◌∙◌}
use Prim.Native.Nat.{ℕ, ◌+◌, ◌-◌, ◌<◌}
use native.Mathlib.Omega.{arith}
use Rattle.std.proofs.Common.{rules}
use Rattle.std.proofs.lemmas.List.{drop_min, take_all, length-take-le, length-drop}
use lib.ListN.{length, take, drop}
use Rattle.fields.specs.Bytes.{LF, until}
use Rattle.fields.proofs.BytesLaws.{until_le}
use Rattle.vcf.specs.List.{lines_of}
use Rattle.vcf.proofs.ListLaws.{lines_cons, lines_past}
use Rattle.vcf.proofs.lines.LinesIterator.next.Goals as goal

pub returns-then-is_empty-clause-steps : goal.returns-then-is_empty-clause-steps
returns-then-is_empty-clause-steps c = let none = lines_past c.args.self.now.rest.now 0 (search rules) in (none, none)

pub slice_bounds-line-end : goal.slice_bounds-line-end
slice_bounds-line-end c = sym (length-take-le c.find-end.result c.args.self.now.rest.now (omega (arith, until_le LF c.args.self.now.rest.now)))

pub overflow_add-end : goal.overflow_add-end
overflow_add-end c = omega (arith, until_le LF c.args.self.now.rest.now)

pub returns-clause-steps : goal.returns-clause-steps
returns-clause-steps c =
    let t = c.args.self.now.rest.now in
    let end = c.find-end.result in
    let from = c.min-behind.result in
    let e : end ≡ until LF t = omega arith in
    let some : 0 < length t = search rules in
    let behind : drop from t ≡ drop (end + 1) t = ap (λ (n : ℕ). drop n t) c.min-behind.ensures ∙ drop_min (end + 1) t in
    let whole : take (length t - from) (drop from t) ≡ drop from t = take_all _ (drop from t) (omega (arith, length-drop from t)) in
    lines_cons t some ∙ ap (λ (n : ℕ). take n t ∷ lines_of (drop (n + 1) t)) (sym e)
    ∙ ap (λ (s : List ℕ). take end t ∷ lines_of s) (sym (whole ∙ behind))

pub returns-clause-goes : goal.returns-clause-goes
returns-clause-goes c = let steps = returns-clause-steps c in search rules
