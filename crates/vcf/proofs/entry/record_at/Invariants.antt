-- `vcf::entry::record_at` meets its contract. The loop's invariant: as many lines as are left, behind `at`, record i begins. Assumes nothing.
use mathlib.Core.Path.{◌≡◌}
use Prim.Native.Nat.{◌-◌}
use Rattle.vcf.specs.Entry.{skip_lines, record_at}
use Rattle.vcf.proofs.entry.record_at.Given as goal

abbrev pub invariant-loop : goal.invariant-loop
invariant-loop l = skip_lines (l.i - l.counter) l.text l.at ≡ record_at l.text l.i
