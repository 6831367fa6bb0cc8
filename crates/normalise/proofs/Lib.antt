pub mod Determines
pub mod NormalisedLaws
