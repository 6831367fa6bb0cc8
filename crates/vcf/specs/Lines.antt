-- A walk over the lines of a text.
-- Assumes nothing: these are definitions.
use Rattle.std.specs.Prelude.{List, ℕ}
use Rattle.vcf.specs.declared.lines.Lines.{Lines}
use Rattle.vcf.specs.List.{lines_of}

-- The lines that are left, each without its LF.
abbrev pub lines_left : Lines → List (List ℕ)
lines_left walk = lines_of walk.rest.now
