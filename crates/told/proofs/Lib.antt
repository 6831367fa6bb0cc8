pub mod Determines
pub mod FilesLaws
pub mod PrintableLaws
pub mod ToldLaws
