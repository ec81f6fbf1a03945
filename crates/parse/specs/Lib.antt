pub mod Shown
pub mod Parsing
