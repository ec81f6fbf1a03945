pub mod Finding
pub mod Checking
pub mod Names
