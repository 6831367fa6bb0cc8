pub mod Answer
pub mod Version
