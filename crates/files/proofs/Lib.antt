pub mod Determines
pub mod FileLaws
pub mod NameLaws
pub mod PrintLaws
