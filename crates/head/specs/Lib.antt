pub mod Heads
pub mod Fronts
