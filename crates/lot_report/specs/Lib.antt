pub mod Count
pub mod Fine
pub mod Made
pub mod Printable
pub mod Report
pub mod Run
pub mod Table
