-- POS counts from 1, a place in the reference counts from 0; POS p is place p - 1.
-- Assumes nothing: these are definitions.
use Rattle.std.specs.Prelude.{◌+◌, ◌-◌}
use Rattle.bases.specs.declared.place.Pos.{Pos}
use Rattle.bases.specs.declared.place.Place.{Place}

-- The POS of a place.
abbrev pub pos_of : Place → Pos
pos_of p = record { 0 = p.0 + 1 }

-- The place of a POS.
abbrev pub place_of : Pos → Place
place_of p = record { 0 = p.0 - 1 }
