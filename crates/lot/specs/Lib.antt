pub mod Control
pub mod Lot
pub mod Run
pub mod Share
pub mod Sum
