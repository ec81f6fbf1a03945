pub mod Refusing
pub mod Stepping
pub mod Preparing
pub mod Running
