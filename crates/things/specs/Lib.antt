pub mod Weights
pub mod Rep
pub mod Measuring
pub mod Making
pub mod Turning
