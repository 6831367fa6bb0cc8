pub mod Counts
pub mod Markable
pub mod Marks
pub mod Row
pub mod Skip
