pub mod Determines
pub mod FieldLaws
