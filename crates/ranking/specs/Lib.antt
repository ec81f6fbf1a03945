pub mod Ranks
pub mod Numbered
