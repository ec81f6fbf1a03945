pub mod Weighing
pub mod Frame
pub mod ByTag
pub mod Measuring
pub mod Making
pub mod Unique
pub mod Turning
