pub mod Compared
pub mod Makes
pub mod Printed
