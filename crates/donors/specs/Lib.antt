pub mod Agree
pub mod Apart
pub mod Choice
pub mod Donor
pub mod Items
pub mod Rules
pub mod Table
pub mod Walk
