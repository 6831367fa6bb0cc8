pub mod Entry
pub mod Lines
pub mod List
