pub mod Refusing
pub mod Checking
