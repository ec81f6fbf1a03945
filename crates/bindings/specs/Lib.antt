pub mod Sections
pub mod Lengths
