pub mod Several
pub mod Changes
pub mod Checking
pub mod Judged
pub mod Taking
pub mod Meaning
