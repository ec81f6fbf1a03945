pub mod Words
pub mod Wiring
