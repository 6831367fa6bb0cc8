pub mod Allele
pub mod Bytes
pub mod Field
pub mod Genotype
pub mod Header
pub mod Pos
