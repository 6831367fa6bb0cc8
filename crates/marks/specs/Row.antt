-- Entries in merged order as rows of the table that the search reads.
-- Assumes nothing: these are definitions.
use Rattle.std.specs.Prelude.{true, false, ℕ, ◌^◌, ◌≤◌, ◌<◌}
use Rattle.donors.specs.declared.table.Allele.{Allele}
use Rattle.donors.specs.declared.table.Row.{Row}
use Rattle.vcf.specs.declared.entry.Entry.{Entry}
use Rattle.clusters.specs.declared.item.Item.{Item}
use Rattle.clusters.specs.Item.{named, start_of, takes_room?, len_of}

-- Allele k: whether it takes its entry's span, and where its bytes stand: those of REF in the reference, those of an ALT in the
-- list's text.
abbrev pub stand_of : Entry → ℕ → Allele
stand_of e k = record {
  room = takes_room? k;
  text = named k false true true;
  at = named k (start_of e).0 e.first.at e.second.at;
  len = len_of e k;
}

-- The row of an entry: it counts 1.
abbrev pub row_of : Item → Row
row_of i =
    let e = i.entry in
    record {
      first = i.side;
      start = (start_of e).0;
      len = e.reference.len;
      weight = 1;
      copy0 = stand_of e e.copy0;
      copy1 = stand_of e e.copy1;
    }

-- The numbers of a row fit into a table.
pub record Small (r : Row) : Type 0 where
  pub start : r.start < 2 ^ 32
  pub len : r.len < 2 ^ 32
  pub weight : r.weight < 2 ^ 32
  pub at0 : r.copy0.at < 2 ^ 32
  pub len0 : r.copy0.len < 2 ^ 32
  pub at1 : r.copy1.at < 2 ^ 32
  pub len1 : r.copy1.len < 2 ^ 32

-- The same of an entry's row; and there is a POS.
abbrev pub SmallEntry : Item → Type 0
SmallEntry i = (1 ≤ i.entry.pos.0) × Small (row_of i)
