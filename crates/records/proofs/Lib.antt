pub mod AltLaws
pub mod Determines
pub mod PlaceLaws
pub mod RecordLaws
pub mod RecordLineLaws
pub mod ResultLaws
pub mod RowLaws
