pub mod File
pub mod Given
