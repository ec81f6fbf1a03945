pub mod Keys
pub mod Runs
pub mod Carrying
pub mod Pass
pub mod Taking
pub mod Competing
pub mod Lying
