pub mod Working
pub mod Naming
