pub mod Reading
pub mod Stepping
pub mod Looping
pub mod Preparing
pub mod Ending
