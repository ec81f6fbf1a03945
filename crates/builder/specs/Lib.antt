pub mod Reads
pub mod Fronts
pub mod Building
