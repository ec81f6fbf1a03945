pub mod Jobs
pub mod Bytes
