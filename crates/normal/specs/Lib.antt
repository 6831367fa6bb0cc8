pub mod Cut
pub mod Form
pub mod Spelled
