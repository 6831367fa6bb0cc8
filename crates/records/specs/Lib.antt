pub mod Alt
pub mod Record
pub mod Row
