pub mod Sizes
pub mod Words
pub mod Pass
pub mod Rivalry
