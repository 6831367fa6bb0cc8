-- The version of the calls for C and Rust.
-- Assumes nothing: these are definitions.
use Rattle.std.specs.Prelude.{ℕ, ◌+◌, ◌*◌}

-- The major part is raised whenever a call or a struct changes for its callers,
abbrev pub major : ℕ
major = 3

-- the minor part whenever something is added.
abbrev pub minor : ℕ
minor = 0

-- The version: 65,536 times the major part, plus the minor part.
abbrev pub card_version : ℕ
card_version = major * 65536 + minor
