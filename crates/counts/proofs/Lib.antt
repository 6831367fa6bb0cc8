pub mod CountedLaws
pub mod Determines
pub mod Examples
