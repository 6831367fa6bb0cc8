pub mod Determines
pub mod Examples
pub mod LentDetermines
pub mod ListedLaws
pub mod ListingLaws
pub mod NumberLaws
pub mod StandLaws
