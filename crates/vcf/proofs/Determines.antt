-- Each contract determines its result: any two results that it allows for the same arguments are equal. Of a walk over lines, the lines
-- that are left are, and of a line or a part that it gives, the bytes. No function here is lent anything that it can write.
-- Assumes nothing.
use mathlib.Core.List.{List}
use mathlib.Core.Path.{◌≡◌, refl, sym, ap, ◌∙◌}
use Prim.Native.Nat.{ℕ}
use native.Mathlib.Omega.{arith}
use denote.Ref.{Bor}
use lib.ListN.{length, get_or, drop}
use Rattle.std.proofs.Common.{Option, None, Some}
use Rattle.std.specs.Iterator.{YieldsFirstRef}
use Rattle.vcf.specs.declared.lines.Lines.{Lines}
use Rattle.vcf.specs.Lines.{lines_left}
use Rattle.bases.proofs.Determines.{OneResult, OneSeen, OneLeft}
use Rattle.vcf.proofs.entry.Part.bytes.Kinds as part-bytes-kinds
use Rattle.vcf.proofs.entry.Part.bytes.Reads as part-bytes
use Rattle.vcf.proofs.entry.Entry.last_alt.Kinds as last-alt-kinds
use Rattle.vcf.proofs.entry.Entry.last_alt.Reads as last_alt
use Rattle.vcf.proofs.entry.entry_at.Kinds as entry-at-kinds
use Rattle.vcf.proofs.entry.entry_at.Reads as entry_at
use Rattle.vcf.proofs.entry.pos_at.Kinds as pos-at-kinds
use Rattle.vcf.proofs.entry.pos_at.Reads as pos-at
use Rattle.vcf.proofs.entry.lines_above.Kinds as lines-above-kinds
use Rattle.vcf.proofs.entry.lines_above.Reads as lines-above
use Rattle.vcf.proofs.entry.next_line.Kinds as next-line-kinds
use Rattle.vcf.proofs.entry.next_line.Reads as next-line
use Rattle.vcf.proofs.entry.record_at.Kinds as record-at-kinds
use Rattle.vcf.proofs.entry.record_at.Reads as record_at_lem
use Rattle.vcf.proofs.entry.records_at.Kinds as records-at-kinds
use Rattle.vcf.proofs.entry.records_at.Reads as records-at
use Rattle.vcf.proofs.lines.lines_of.Kinds as lines-of-kinds
use Rattle.vcf.proofs.lines.lines_of.Reads as lines-of
use Rattle.vcf.proofs.lines.LinesIterator.next.Kinds as next-lines-kinds
use Rattle.vcf.proofs.lines.LinesIterator.next.Reads as next-lines
use Rattle.vcf.proofs.list.judge.Kinds as judge-kinds
use Rattle.vcf.proofs.list.judge.Reads as judge

pub part_bytes_determines : OneSeen 1 part-bytes-kinds.ps part-bytes-kinds.r part-bytes.Post (List ℕ) (λ κs z. z.now)
part_bytes_determines κs a z z' e e' p q = p ∙ sym q

pub last_alt_determines : OneResult 0 last-alt-kinds.ps last-alt-kinds.r last_alt.Post
last_alt_determines κs a z z' e e' p q = p ∙ sym q

pub next_line_determines : OneResult 1 next-line-kinds.ps next-line-kinds.r next-line.Post
next_line_determines κs a z z' e e' p q = p ∙ sym q

pub records_at_determines : OneResult 1 records-at-kinds.ps records-at-kinds.r records-at.Post
records_at_determines κs a z z' e e' p q = p ∙ sym q

pub lines_above_determines : OneResult 1 lines-above-kinds.ps lines-above-kinds.r lines-above.Post
lines_above_determines κs a z z' e e' p q = p ∙ sym q

pub record_at_determines : OneResult 1 record-at-kinds.ps record-at-kinds.r record_at_lem.Post
record_at_determines κs a z z' e e' p q = p ∙ sym q

pub entry_at_determines : OneResult 1 entry-at-kinds.ps entry-at-kinds.r entry_at.Post
entry_at_determines κs a z z' e e' p q = p ∙ sym q

pub judge_determines : OneResult 3 judge-kinds.ps judge-kinds.r judge.Post
judge_determines κs a z z' e e' p q = p ∙ sym q

pub pos_at_determines : OneResult 1 pos-at-kinds.ps pos-at-kinds.r pos-at.Post
pos_at_determines κs a z z' e e' p q = p ∙ sym q

pub lines_of_determines : OneSeen 1 lines-of-kinds.ps lines-of-kinds.r lines-of.Post (List (List ℕ)) (λ κs z. lines_left z)
lines_of_determines κs a z z' e e' p q = p ∙ sym q

-- The bytes of the line that a walk gave, if it gave one.
abbrev pub bytes_given : Option (Bor (List ℕ)) → Option (List ℕ)
bytes_given None = None
bytes_given (Some x) = Some x.now

-- Two answers of a walk at the same lines have the same bytes, and leave the same lines.
pub first_given : (w : Lines) (o o' : Option (Bor (List ℕ))) (v v' : Lines)
    → YieldsFirstRef lines_left w o v → YieldsFirstRef lines_left w o' v'
    → (bytes_given o ≡ bytes_given o') × (lines_left v ≡ lines_left v')
first_given w None None v v' e f = (refl, e.1 ∙ sym f.1)
first_given w None (Some y) v v' e f = absurd (omega (arith, ap length (sym e.0 ∙ f)))
first_given w (Some x) None v v' e f = absurd (omega (arith, ap length (sym f.0 ∙ e)))
first_given w (Some x) (Some y) v v' e f =
    let m = sym e ∙ f in (ap (λ (l : List (List ℕ)). Some (get_or l 0 x.now)) m, ap (drop 1) m)

-- Any two lines that the contract of `next` allows for a walk have the same bytes, and leave the same lines.
pub next_lines_determines : OneSeen 2 next-lines-kinds.ps next-lines-kinds.r next-lines.Post (Option (List ℕ)) (λ κs z. bytes_given z)
    × OneLeft 2 next-lines-kinds.ps next-lines-kinds.r next-lines.Post (List (List ℕ)) (λ κs e. lines_left e.0.now)
next_lines_determines = (
  λ κs a z z' e e' p q. (first_given a.0.now z z' e.0.now e'.0.now p.0 q.0).0,
  λ κs a z z' e e' p q. (first_given a.0.now z z' e.0.now e'.0.now p.0 q.0).1,
)
