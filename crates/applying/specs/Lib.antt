pub mod Testing
pub mod Doing
