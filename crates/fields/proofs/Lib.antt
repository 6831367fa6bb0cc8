pub mod AlleleLaws
pub mod BytesLaws
pub mod Determines
pub mod FieldLaws
pub mod GenotypeLaws
pub mod PosLaws
