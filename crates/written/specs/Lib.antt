pub mod Entries
pub mod Lines
pub mod Put
pub mod Written
